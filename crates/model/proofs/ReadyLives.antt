-- A rewritable disc that was made opens, empty, and what is saved and spared on it reads back. Assumes nothing.
use Prim.Native.Nat.{ℕ, ◌+◌, ◌*◌, ◌%◌, ◌≤◌, ◌<◌}
use mathlib.Core.Bool.{false}
use mathlib.Core.Logic.{◌≢◌}
use mathlib.Core.Path.{◌≡◌, refl, sym, ap, ◌∙◌}
use mathlib.Core.List.{List, [], ◌∷◌, ◌++◌}
use native.Mathlib.Omega.{arith}
use lib.ListN.{length, get_or, set, drop, length-set}
use lib.Seq.{take_at, get_or-set_same, get_or-set_other}
use borrow.Author.Tests.{lt-ltb, le-ltb, eq-eqb}
use Rattle.refusal.specs.declared.Refusal.TheVariants.{NumberOutside, BelongsToSpare}
use Rattle.std.specs.Prelude.{Ok}
use Rattle.fields.specs.Bytes.{part}
use Rattle.maps.specs.Kinds.{absent, read_maps, tables_of}
use Rattle.model.specs.declared.Record.{Record}
use Rattle.model.specs.Disc.{Disc}
use Rattle.model.specs.Writes.{no_cut}
use Rattle.model.specs.Vat.{none}
use Rattle.model.specs.Sparing.{Geometry, Entry, entries, flat, is_free, defective, is_used, used_of, defective_of, free_of, mapped_of, packet_of, of_spare, inserted, first_free, rest, without, turned_defective, resorted}
use Rattle.model.specs.Examine.{Setting, volume, write_once, geometry}
use Rattle.model.specs.Once.{filled_from}
use Rattle.model.specs.Rewrite.{no_entry, table_on}
use Rattle.model.specs.Both.{open_verdict, record_on, numbers_on, passed_on, opened_by, filled_by, opening, opened_table, spare_entries, make_verdict, made}
use Rattle.model.specs.Calls.{save_block, spare_packet, open_disc, done, opened, State, step, answers, final}
use Rattle.model.specs.Store.{Slot, holds, unused, reserved, blocks_on, start, puts, slots_in, Store, store, Shape, shape_of, bytes, turned, seen_as, look}
use Rattle.model.specs.Demand.{after_opening, seen}
use Rattle.model.specs.LivesAgain.{zero_block, in_spare, OpensFree, RewritableMadeOpens, usual_calls, usual_answers, ReadsBack, RewritableLives, twice_calls, twice_answers, twice_table, SparedTwice, RespareLives}
use Rattle.model.proofs.SparingLaws.{entries-flat, multiple-none, multiple-defective, used-tests, Each, used-parts, defective-parts, free-parts, resorted-parts, resorted-starts, packet-multiple, packet-rest, packet-inside, packet-start, packet-own, spare-same, spare-packet}
use Rattle.model.proofs.Basics.{differ}
use Rattle.model.proofs.Ground.{Ground}
use Rattle.model.proofs.Ready.{Ready, Holds, LiveAgain, ready-fits, ready-table, table-length, read_again}
use Rattle.model.proofs.ReadyCalls.{other-packet}
use Rattle.model.proofs.ReadyLivesMade.{some-free, length-spares, made-maps, made-ground, made-ready, made-count, made-blocks}
use Rattle.model.proofs.ReadyLivesCalls.{Whole, open-goes, record-again, save-answer, save-live, spare-answer, spare-live, spare-count, reopen-answer, reopen-live}
use Rattle.model.proofs.Slots.{length-blocks, block_in, length-puts, puts-other, puts-inside}
use Rattle.model.proofs.OnceOpen.{filled-long}
use Rattle.refusal.specs.Verdict.{verdict_of}

-- what the plain store shows of a block that holds bytes
look-holds : (σ : Store) (v : ℕ) (z : List ℕ) → v < length σ.blocks → get_or σ.blocks v unused ≡ holds z → look σ v ≡ bytes z
unfolding look seen_as
look-holds σ v z h q = rw (lt-ltb v (length σ.blocks) h, q)

-- of one that belongs to a spare
pub look-reserved : (σ : Store) (v : ℕ) → v < length σ.blocks → get_or σ.blocks v unused ≡ reserved → look σ v ≡ turned BelongsToSpare
unfolding look seen_as
look-reserved σ v h q = rw (lt-ltb v (length σ.blocks) h, q)

-- and past its blocks
look_none : (σ : Store) (v : ℕ) → length σ.blocks ≤ v → look σ v ≡ turned NumberOutside
unfolding look
look_none σ v h = rw (le-ltb v (length σ.blocks) h)

-- and of a block of a packet that was given bytes
packet-seen : (bs copy : List Slot) (p : ℕ) (y : List ℕ) → p + 32 ≤ length bs → (v : ℕ) → packet_of v ≡ p
    → look (store (puts bs p (slots_in 32 y 0)) copy) v ≡ bytes (part y (2048 * (v % 32)) 2048)
packet-seen bs copy p y room v q =
    let j : ℕ = v % 32 in
    let vj : v ≡ p + j = omega (arith, packet-rest v) in
    let zj : 0 + 2048 * j ≡ 2048 * j = omega arith in
    look-holds (store (puts bs p (slots_in 32 y 0)) copy) v (part y (2048 * j) 2048)
    (omega (arith, room, length-puts bs p (slots_in 32 y 0)))
    (ap (λ (z : ℕ). get_or (puts bs p (slots_in 32 y 0)) z unused) vj
    ∙ puts-inside bs p (slots_in 32 y 0) j (rw (length-blocks 32 y 0) (omega arith)) (rw (length-blocks 32 y 0) room)
    ∙ block_in 32 y 0 j (omega arith)
    ∙ ap (λ (z : ℕ). holds (part y z 2048)) zj)

-- ---- a made disc
module _ (e : Setting) (d : Disc) (spares t : List ℕ) (again : write_once e ≡ false) (go : make_verdict e d spares ≡ Ok tt) (long : 4096 ≤ length t) where
  abbrev g : Geometry
  g = geometry e d

  abbrev d' : Disc
  d' = made e d spares

  abbrev l : List ℕ
  l = flat (spare_entries spares)

  maps-go : verdict_of (read_maps e.maps) ≡ Ok tt
  maps-go = made-maps e d spares again go

  γ : Ground e g
  γ = made-ground e d spares again go

  ready : Ready e g d' 0 l (blocks_on e d')
  ready = made-ready e d spares again go

  -- as many entries as there are spares
  count-is : length (entries l) ≡ length spares
  count-is = ap length (entries-flat (spare_entries spares)) ∙ length-spares spares

  goes : open_verdict e d' t ≡ Ok tt
  goes = open-goes e g again γ maps-go d' t ready long

  handed : record_on e d' ≡ Record.Rewritable (length spares) 0
  handed = record-again e g again γ maps-go d' ready ∙ ap (λ (r : ℕ). Record.Rewritable r 0) count-is

  filled : opened_table e d' t ≡ filled_from l t
  unfolding opened_table filled_by numbers_on
  filled = rw (goes, again, ready-table ready)

  opens-empty : OpensFree e d' spares t
  unfolding opening opened_by passed_on
  opens-empty =
      record {
        goes = goes;
        answer = rw (goes, handed, again);
        handed = handed;
        free = ready-table ready;
        filled = filled;
        count = made-count e d spares again go;
        zeros = λ b h u. made-blocks e d spares again go b h ∙ rw u;
        others = λ b h u. made-blocks e d spares again go b h ∙ rw u;
      }

  -- a block belongs to a spare of the table
  spare-is : (v : ℕ) → of_spare g.start (entries l) v ≡ in_spare e spares v
  unfolding in_spare
  spare-is v = rw (entries-flat (spare_entries spares), ← γ.start_is)

  -- what holds after that opening
  live : LiveAgain e g (after_opening e d' t) 0 l (start e d')
  unfolding after_opening start Holds filled_from
  live =
      record {
        ready = ready;
        held = rw handed (sym count-is, refl);
        front = rw filled (take_at l (drop (length l) t) (2 * length (entries l)) (table-length l ready.even));
        lent = rw filled (omega (arith, filled-long l t));
      }

  -- ---- a block saved, a packet spared, and the disc opened again
  module _ (two : 2 ≤ length (tables_of (volume e))) (one : 1 ≤ length spares)
      (b : ℕ) (x : List ℕ) (b-in : b < e.span) (b-free : in_spare e spares b ≡ false) (x-long : length x ≡ 2048)
      (p : ℕ) (y : List ℕ) (multiple : p % 32 ≡ 0) (p-in : p < e.span) (p-free : in_spare e spares p ≡ false) (y-long : length y ≡ 65536) where
    abbrev h : Shape
    h = shape_of e

    -- the state before each call and after the last
    abbrev st₀ : State
    st₀ = after_opening e d' t

    abbrev st₁ : State
    st₁ = (step e st₀ (save_block b x no_cut)).state

    abbrev st₂ : State
    st₂ = (step e st₁ (spare_packet p y no_cut)).state

    abbrev st₃ : State
    st₃ = (step e st₂ open_disc).state

    -- the plain store after the first call, and after the second and third
    abbrev σ₁ : Store
    σ₁ = store (set (blocks_on e d') b (holds x)) (blocks_on e d')

    abbrev σ₂ : Store
    σ₂ = store (puts (set (blocks_on e d') b (holds x)) p (slots_in 32 y 0)) (blocks_on e d')

    b-below : b < g.span
    b-below = rw (← γ.span-is) b-in

    p-below : p < g.span
    p-below = rw (← γ.span-is) p-in

    b-place : of_spare g.start (entries l) b ≡ false
    b-place = spare-is b ∙ b-free

    p-place : of_spare g.start (entries l) p ≡ false
    p-place = spare-is p ∙ p-free

    whole : Whole (packet_of b) (start e d').blocks
    unfolding start
    whole =
        record {
          bytes = λ j. zero_block;
          block = λ j u.
              let v : ℕ = packet_of b + j in
              let free : in_spare e spares v ≡ false =
              sym (spare-is v) ∙ spare-packet g.start (entries l) v b (packet-start (packet_of b) j (packet-multiple b) u) ∙ b-place in
              made-blocks e d spares again go v (omega (arith, packet-inside b g.span γ.span-32 b-below, γ.span-is)) ∙ rw free;
        }

    -- ---- save b
    answer₁ : (step e st₀ (save_block b x no_cut)).answer ≡ done (Record.Rewritable (length (entries l)) 0)
    answer₁ = save-answer e g again γ maps-go h st₀ 0 l (start e d') live b x b-below b-place x-long whole

    live₁ : LiveAgain e g st₁ 0 l σ₁
    unfolding start
    live₁ = save-live e g again γ maps-go h st₀ 0 l (start e d') live b x b-below b-place x-long whole

    -- ---- spare p
    copies : h.tables ≡ length g.tables
    unfolding shape_of geometry
    copies = refl

    two-tables : 2 ≤ length g.tables
    unfolding geometry
    two-tables = two

    some : no_entry (free_of (entries l)) ≡ false
    some = rw (entries-flat (spare_entries spares)) (some-free spares one)

    answer₂ : (step e st₁ (spare_packet p y no_cut)).answer ≡ done (Record.Rewritable (length (entries l)) 1)
    answer₂ = spare-answer e g again γ maps-go h st₁ 0 l σ₁ live₁ p y multiple p-below p-place y-long copies two-tables some (omega arith)

    abbrev table₂ : List ℕ
    table₂ = flat (resorted (entries l) p)

    live₂ : LiveAgain e g st₂ 1 table₂ σ₂
    live₂ = spare-live e g again γ maps-go h st₁ 0 l σ₁ live₁ p y multiple p-below p-place y-long copies two-tables some (omega arith)

    count₂ : length (entries table₂) ≡ length (entries l)
    count₂ = spare-count e g again γ maps-go h st₁ 0 l σ₁ live₁ p y multiple p-below p-place y-long copies two-tables some (omega arith)

    -- ---- opening again
    answer₃ : (step e st₂ open_disc).answer ≡ opened (Record.Rewritable (length (entries table₂)) 1) 0
    answer₃ = reopen-answer e g again γ maps-go h st₂ 1 table₂ σ₂ live₂

    once-not : h.once ≡ false
    unfolding shape_of
    once-not = again

    live₃ : (n : ℕ) × (k : List ℕ) × LiveAgain e g st₃ n k σ₂
    live₃ = reopen-live e g again γ maps-go h st₂ 1 table₂ σ₂ live₂ once-not

    all-answers : answers e st₀ (usual_calls b x p y) ≡ usual_answers (length spares)
    unfolding answers usual_calls usual_answers
    all-answers = rw (answer₁, answer₂, answer₃, count₂, count-is)

    -- ---- reading
    read : (v : ℕ) (out : List ℕ) → length out ≡ 2048 → seen e (final e st₀ (usual_calls b x p y)) v out ≡ look σ₂ v
    unfolding final usual_calls
    read v out k = read_again e g again γ maps-go st₃ live₃.0 live₃.1 σ₂ live₃.2 v out k

    blocks-count : length σ₂.blocks ≡ e.span
    blocks-count = length-puts σ₁.blocks p (slots_in 32 y 0) ∙ length-set (blocks_on e d') b (holds x) ∙ made-count e d spares again go

    -- a block of packet q belongs to a spare as q does
    in-packet : (v q : ℕ) → packet_of v ≡ q → in_spare e spares v ≡ in_spare e spares q
    in-packet v q z =
        sym (spare-is v)
        ∙ spare-packet g.start (entries l) v q (z ∙ sym (rw z at (packet-own (packet_of v) (packet-multiple v))))
        ∙ spare-is q

    -- a block of the spared packet
    packet-in : p + 32 ≤ length σ₁.blocks
    packet-in = rw length-set (omega (arith, made-count e d spares again go, γ.span-is, γ.span-32))

    spared-block : (v : ℕ) → packet_of v ≡ p → look σ₂ v ≡ bytes (part y (2048 * (v % 32)) 2048)
    spared-block v q = packet-seen σ₁.blocks σ₁.copy p y packet-in v q

    -- a block of another
    other_block : (v : ℕ) → packet_of v ≢ p → get_or σ₂.blocks v unused ≡ get_or σ₁.blocks v unused
    other_block v w = puts-other σ₁.blocks p (slots_in 32 y 0) v (rw (length-blocks 32 y 0) (other-packet p v multiple w))

    reads-back : ReadsBack e st₀ spares b x p y
    reads-back =
        record {
          answered = all-answers;
          spared = λ v out k q. read v out k ∙ spared-block v q;
          saved = λ v out k q w.
              read v out k
              ∙ look-holds σ₂ v x (omega (arith, blocks-count))
              (other_block v w ∙ ap (λ (z : ℕ). get_or σ₁.blocks z unused) q ∙ get_or-set_same (blocks_on e d') b (holds x) unused (omega (arith, made-count e d spares again go)));
          zeros = λ v out k q w u f.
              read v out k
              ∙ look-holds σ₂ v zero_block (omega (arith, blocks-count))
              (other_block v w ∙ get_or-set_other (blocks_on e d') b v (holds x) unused q ∙ made-blocks e d spares again go v u ∙ rw f);
          thirty = λ v out k u f.
              read v out k
              ∙ look-reserved σ₂ v (omega (arith, blocks-count))
              (other_block v (λ z. differ f (in-packet v p z ∙ p-free))
              ∙ get_or-set_other (blocks_on e d') b v (holds x) unused (λ z. differ f (ap (in_spare e spares) z ∙ b-free))
              ∙ made-blocks e d spares again go v u
              ∙ rw f);
          beyond = λ v out k u. read v out k ∙ look_none σ₂ v (omega (arith, blocks-count));
        }

-- ---- a packet spared twice

-- spares that are all free
all-free : (spares : List ℕ) → Each is_free (spare_entries spares)
unfolding spare_entries is_free none
all-free [] = tt
all-free (m ∷ l) = (refl, all-free l)

-- the first spare is taken
once-taken : (p first : ℕ) (more : List ℕ) → resorted (spare_entries (first ∷ more)) p ≡ record { original = p; mapped = first } ∷ spare_entries more
unfolding spare_entries inserted first_free rest without turned_defective
once-taken p first more =
    let es : List Entry = spare_entries (first ∷ more) in
    let u : used_of es ≡ [] = used-parts [] [] es tt tt (all-free (first ∷ more)) in
    let w : defective_of es ≡ [] = defective-parts [] [] es tt tt (all-free (first ∷ more)) in
    let f : free_of es ≡ es = free-parts [] [] es tt tt (all-free (first ∷ more)) in
    resorted-parts es p
    ∙ (λ i. inserted (record { original = p; mapped = first_free (f i) }) (without p (u i)) ++ ((w i ++ turned_defective p (u i)) ++ rest (f i)))

-- then the second, and the first is defective
twice-taken : (p first second : ℕ) (more : List ℕ) → p % 32 ≡ 0
    → resorted (record { original = p; mapped = first } ∷ spare_entries (second ∷ more)) p
    ≡ record { original = p; mapped = second } ∷ record { original = defective; mapped = first } ∷ spare_entries more
unfolding spare_entries inserted first_free rest without turned_defective
twice-taken p first second more multiple =
    let x : Entry = record { original = p; mapped = first } in
    let f : List Entry = spare_entries (second ∷ more) in
    let es : List Entry = x ∷ f in
    let own : Each is_used (x ∷ []) = ((used-tests x (multiple-none p multiple) (multiple-defective p multiple)).2, tt) in
    let u : used_of es ≡ x ∷ [] = used-parts (x ∷ []) [] f own tt (all-free (second ∷ more)) in
    let w : defective_of es ≡ [] = defective-parts (x ∷ []) [] f own tt (all-free (second ∷ more)) in
    let r : free_of es ≡ f = free-parts (x ∷ []) [] f own tt (all-free (second ∷ more)) in
    resorted-parts es p
    ∙ (λ i. inserted (record { original = p; mapped = first_free (r i) }) (without p (u i)) ++ ((w i ++ turned_defective p (u i)) ++ rest (r i)))
    ∙ rw (eq-eqb p p refl)

module _ (e : Setting) (d : Disc) (first second : ℕ) (more t : List ℕ) (again : write_once e ≡ false) (go : make_verdict e d (first ∷ second ∷ more) ≡ Ok tt) (long : 4096 ≤ length t)
    (two : 2 ≤ length (tables_of (volume e))) (p : ℕ) (y z : List ℕ) (multiple : p % 32 ≡ 0) (p-in : p < e.span) (p-free : in_spare e (first ∷ second ∷ more) p ≡ false) (y-long : length y ≡ 65536) (z-long : length z ≡ 65536) where
  abbrev spares : List ℕ
  spares = first ∷ second ∷ more

  abbrev ground : Ground e (geometry e d)
  ground = γ e d spares t again go long

  -- the state before the calls and after each
  abbrev s₀ : State
  s₀ = after_opening e (made e d spares) t

  abbrev s₁ : State
  s₁ = (step e s₀ (spare_packet p y no_cut)).state

  abbrev s₂ : State
  s₂ = (step e s₁ (spare_packet p z no_cut)).state

  abbrev s₃ : State
  s₃ = (step e s₂ open_disc).state

  -- the plain store after them
  abbrev τ₀ : Store
  τ₀ = start e (made e d spares)

  abbrev τ₁ : Store
  τ₁ = store (puts τ₀.blocks p (slots_in 32 y 0)) τ₀.copy

  abbrev τ₂ : Store
  τ₂ = store (puts τ₁.blocks p (slots_in 32 z 0)) τ₀.copy

  -- the tables
  abbrev l₀ : List ℕ
  l₀ = flat (spare_entries spares)

  abbrev l₁ : List ℕ
  l₁ = flat (record { original = p; mapped = first } ∷ spare_entries (second ∷ more))

  abbrev l₂ : List ℕ
  l₂ = flat (record { original = p; mapped = second } ∷ record { original = defective; mapped = first } ∷ spare_entries more)

  below : p < (geometry e d).span
  below = rw (← ground.span-is) p-in

  tables-two : 2 ≤ length (geometry e d).tables
  unfolding geometry
  tables-two = two

  same-copies : (shape_of e).tables ≡ length (geometry e d).tables
  unfolding shape_of geometry
  same-copies = refl

  went₀ : LiveAgain e (geometry e d) s₀ 0 l₀ τ₀
  went₀ = live e d spares t again go long

  first-table : flat (resorted (entries l₀) p) ≡ l₁
  first-table = ap (λ (es : List Entry). flat (resorted es p)) (entries-flat (spare_entries spares)) ∙ ap flat (once-taken p first (second ∷ more))

  some₀ : no_entry (free_of (entries l₀)) ≡ false
  some₀ = rw (entries-flat (spare_entries spares)) (some-free spares (omega arith))

  place₀ : of_spare (geometry e d).start (entries l₀) p ≡ false
  place₀ = spare-is e d spares t again go long p ∙ p-free

  -- also by the table after the first sparing, whose mapped starts are the same
  place₁ : of_spare (geometry e d).start (entries l₁) p ≡ false
  place₁ =
      spare-same (geometry e d).start (entries l₁) (entries l₀) p
      (λ m.
      ap (λ (k : List ℕ). absent m (mapped_of (entries k))) (sym first-table)
      ∙ ap (λ (es : List Entry). absent m (mapped_of es)) (entries-flat (resorted (entries l₀) p))
      ∙ resorted-starts (geometry e d) (entries l₀) p (ready-fits went₀.ready) multiple below (omega (arith, ground.inside, ground.sectors)) some₀ m)
      ∙ place₀

  went₁ : LiveAgain e (geometry e d) s₁ 1 l₁ τ₁
  went₁ =
      rw (← first-table)
      (spare-live e (geometry e d) again ground (maps-go e d spares t again go long) (shape_of e) s₀ 0 l₀ τ₀ went₀ p y multiple below place₀ y-long same-copies tables-two some₀ (omega arith))

  answered₁ : (step e s₀ (spare_packet p y no_cut)).answer ≡ done (Record.Rewritable (length (entries l₀)) 1)
  answered₁ = spare-answer e (geometry e d) again ground (maps-go e d spares t again go long) (shape_of e) s₀ 0 l₀ τ₀ went₀ p y multiple below place₀ y-long same-copies tables-two some₀ (omega arith)

  free₁ : free_of (entries l₁) ≡ spare_entries (second ∷ more)
  free₁ =
      let x : Entry = record { original = p; mapped = first } in
      ap free_of (entries-flat (x ∷ spare_entries (second ∷ more)))
      ∙ free-parts (x ∷ []) [] (spare_entries (second ∷ more)) ((used-tests x (multiple-none p multiple) (multiple-defective p multiple)).2, tt) tt (all-free (second ∷ more))

  some₁ : no_entry (free_of (entries l₁)) ≡ false
  unfolding no_entry spare_entries
  some₁ = ap no_entry free₁

  second-table : flat (resorted (entries l₁) p) ≡ l₂
  second-table =
      ap (λ (es : List Entry). flat (resorted es p)) (entries-flat (record { original = p; mapped = first } ∷ spare_entries (second ∷ more)))
      ∙ ap flat (twice-taken p first second more multiple)

  went₂ : LiveAgain e (geometry e d) s₂ 2 l₂ τ₂
  went₂ =
      rw (← second-table)
      (spare-live e (geometry e d) again ground (maps-go e d spares t again go long) (shape_of e) s₁ 1 l₁ τ₁ went₁ p z multiple below place₁ z-long same-copies tables-two some₁ (omega arith))

  answered₂ : (step e s₁ (spare_packet p z no_cut)).answer ≡ done (Record.Rewritable (length (entries l₁)) 2)
  answered₂ = spare-answer e (geometry e d) again ground (maps-go e d spares t again go long) (shape_of e) s₁ 1 l₁ τ₁ went₁ p z multiple below place₁ z-long same-copies tables-two some₁ (omega arith)

  answered₃ : (step e s₂ open_disc).answer ≡ opened (Record.Rewritable (length (entries l₂)) 2) 0
  answered₃ = reopen-answer e (geometry e d) again ground (maps-go e d spares t again go long) (shape_of e) s₂ 2 l₂ τ₂ went₂

  went₃ : (n : ℕ) × (k : List ℕ) × LiveAgain e (geometry e d) s₃ n k τ₂
  unfolding shape_of
  went₃ = reopen-live e (geometry e d) again ground (maps-go e d spares t again go long) (shape_of e) s₂ 2 l₂ τ₂ went₂ again

  -- as many entries as there are spares, each time
  counts₁ : length (entries l₁) ≡ 2 + length more
  unfolding spare_entries
  counts₁ = ap length (entries-flat (record { original = p; mapped = first } ∷ spare_entries (second ∷ more))) ∙ omega (arith, length-spares more)

  counts₂ : length (entries l₂) ≡ 2 + length more
  counts₂ =
      ap length (entries-flat (record { original = p; mapped = second } ∷ record { original = defective; mapped = first } ∷ spare_entries more))
      ∙ omega (arith, length-spares more)

  all-answered : answers e s₀ (twice_calls p y z) ≡ twice_answers (2 + length more)
  unfolding answers twice_calls twice_answers
  all-answered = rw (answered₁, answered₂, answered₃, count-is e d spares t again go long, counts₁, counts₂) (λ i. done (Record.Rewritable (two-more i) 1) ∷ done (Record.Rewritable (2 + length more) 2) ∷ opened (Record.Rewritable (2 + length more) 2) 0 ∷ [])
    where
      two-more : length spares ≡ 2 + length more
      two-more = omega arith

  -- ---- reading
  shown : (v : ℕ) (out : List ℕ) → length out ≡ 2048 → seen e (final e s₀ (twice_calls p y z)) v out ≡ look τ₂ v
  unfolding final twice_calls
  shown v out k = read_again e (geometry e d) again ground (maps-go e d spares t again go long) s₃ went₃.0 went₃.1 τ₂ went₃.2 v out k

  shown-before : (v : ℕ) (out : List ℕ) → length out ≡ 2048 → seen e s₀ v out ≡ look τ₀ v
  shown-before v out k = read_again e (geometry e d) again ground (maps-go e d spares t again go long) s₀ 0 l₀ τ₀ went₀ v out k

  room : p + 32 ≤ length τ₁.blocks
  room = omega (arith, length-puts τ₀.blocks p (slots_in 32 y 0), went₀.ready.count, below, multiple, ground.span-32)

  last_block : (v : ℕ) → packet_of v ≡ p → look τ₂ v ≡ bytes (part z (2048 * (v % 32)) 2048)
  last_block v q = packet-seen τ₁.blocks τ₀.copy p z room v q

  other-number : (v : ℕ) → packet_of v ≢ p → look τ₂ v ≡ look τ₀ v
  unfolding look
  other-number v w =
      let a : get_or τ₂.blocks v unused ≡ get_or τ₁.blocks v unused = puts-other τ₁.blocks p (slots_in 32 z 0) v (rw (length-blocks 32 z 0) (other-packet p v multiple w)) in
      let b : get_or τ₁.blocks v unused ≡ get_or τ₀.blocks v unused = puts-other τ₀.blocks p (slots_in 32 y 0) v (rw (length-blocks 32 y 0) (other-packet p v multiple w)) in
      let n : length τ₂.blocks ≡ length τ₀.blocks = length-puts τ₁.blocks p (slots_in 32 z 0) ∙ length-puts τ₀.blocks p (slots_in 32 y 0) in
      rw (n, a, b)

  -- the disc is as the second sparing left it
  table-after : table_on e (final e s₀ (twice_calls p y z)).disc ≡ twice_table p first second more
  unfolding final twice_calls twice_table step flat
  table-after = ready-table went₂.ready

  spared-twice : SparedTwice e s₀ first second more p y z
  spared-twice =
      record {
        answered = all-answered;
        table = table-after;
        last = λ v out k q. shown v out k ∙ last_block v q;
        others = λ v out k w. shown v out k ∙ other-number v w ∙ sym (shown-before v out k);
      }

-- every rewritable disc whose making is accepted is opened, and is empty
pub again-made-opens : RewritableMadeOpens
unfolding RewritableMadeOpens
again-made-opens e d spares t again go long = opens-empty e d spares t again go long

-- a block that is saved on it and a packet that is spared read back after another opening
pub again-lives : RewritableLives
unfolding RewritableLives
again-lives e d spares t again go long two one b x b-in b-free x-long p y multiple p-in p-free y-long =
    reads-back e d spares t again go long two one b x b-in b-free x-long p y multiple p-in p-free y-long

-- a packet that is spared on it twice reads as last spared after another opening, and every other block as before
pub respare-lives : RespareLives
unfolding RespareLives
respare-lives e d first second more t again go long two p y z multiple p-in p-free y-long z-long =
    spared-twice e d first second more t again go long two p y z multiple p-in p-free y-long z-long

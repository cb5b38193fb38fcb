-- There are discs, copies and lists of tests of which the claims on spares inside the partition (02, slip 8) speak: every disc of 160 sectors or more on
-- which a small volume is made with such a spare, and closed ones. Assumes nothing.
use Prim.Native.Nat.{ℕ, zero, suc, ◌+◌, ◌-◌, ◌*◌, ◌/◌, ◌≤◌, ◌<◌}
use mathlib.Core.Bool.{true, false}
use mathlib.Core.Path.{◌≡◌, refl, ap, ◌∙◌}
use mathlib.Core.List.{List, [], ◌∷◌, ◌++◌}
use native.Mathlib.Omega.{arith}
use lib.ListN.{length, get_or, replicate}
use Rattle.std.specs.Prelude.{Ok, Result}
use Rattle.refusal.specs.Tests.{need}
use Rattle.fields.specs.Bytes.{part, splice, same, join}
use Rattle.fields.specs.Number.{value, field, words, digits, quads}
use Rattle.fields.specs.Regid.{has_regid, identifier, regid}
use Rattle.fields.proofs.Laws.{AllBytes, bytes-append, bytes-part, bytes-splice, digits-below}
use Rattle.maps.specs.Walk.{before, first_length, first_whole, walk_up_to, walk}
use Rattle.maps.specs.Kinds.{sparable_name, type_two, tables_in_range, is_write_once, is_rewritable, used, volume_with, volume_of, absent, tables_apart, tables_in, tables_of, kind_tests, judged, volume_in, read_maps, volume_read}
use Rattle.maps.specs.Written.{type_two_map, maps_of}
use Rattle.model.specs.declared.Cut.{Cut}
use Rattle.model.specs.declared.Landing.{Landing}
use Rattle.model.specs.declared.Opened.{Opened}
use Rattle.refusal.specs.declared.Refusal.{Refusal}
use Rattle.model.specs.Disc.{Disc, shapely, sector, mark, recorded, recorded_run, first_mark, mark_tests}
use Rattle.model.specs.Writes.{Write, landing, landed, write, writes, upward, no_cut}
use Rattle.model.specs.Vat.{none}
use Rattle.model.specs.VatWritten.{filled}
use Rattle.model.specs.Sparing.{sparing_name, older_name, Entry, entries, flat, is_free, defective, is_defective, is_used, free_of, original_fits, originals_fit, may_follow, ascending, apart, apart_from, whole_packet, outside, mapped_of, mapped_fit, original_clear, originals_clear, entries_fit, count_in, sequence_in, table_in, none_defective, named, copy_fits, counts, counting_of, counting, sequence_at, table_at, highest, with_sequence, current_sequence, current, first_table, current_table, agree, spot_of, packet_of, of_spare, start_at, locate, written_table}
use Rattle.model.specs.Examine.{Setting, volume, is_once, size_in, write_once, geometry}
use Rattle.model.specs.Rewrite.{is_none, table_on, entries_on, sequence_on, count_on, copy_tests, held_current, place_of, block_test, of_spare_on, spare_test, other_mark, save_block_tests, packet_tests, no_entry, spare_tests, copies_to}
use Rattle.model.specs.Both.{block_sector, read_rewritable_tests, spare_entries, make_verdict, make_writes, made_by, made}
use Rattle.model.specs.Calls.{Call, answer_of_opening, is_opened, is_cut, answers, Proper}
use Rattle.model.specs.Demand.{Below, after_opening}
use Rattle.model.specs.Consequences.{Follows}
use Rattle.model.specs.Examples.{gives, entry}
use Rattle.model.specs.LivesAgain.{in_spare, OpensFree, RewritableMadeOpens, twice_calls, twice_answers, twice_table, SparedTwice, RespareLives, small_volume, small_spares, Makes, RewritableMakes}
use Rattle.model.specs.NewerWriters.{table_under, spent_table, spent_geometry}
use Rattle.model.specs.SparesInside.{made_inside, InsideMet, InsideMakes, wide_geometry, inside_table, older_table, other_table, crossed_table, one_table, one_spare, marked_disc, InsideTried}
use Rattle.model.proofs.Basics.{differ}
use Rattle.model.proofs.SparingLaws.{entries-flat}
use Rattle.model.proofs.ReadyOpen.{all-bytes}
use Rattle.model.proofs.ReadyLives.{again-made-opens, respare-lives}
use Rattle.model.proofs.ReadyLivesSome.{again-makes}
use Rattle.model.proofs.Run.{bytes_only, bytes_below}

-- ---- a made disc is of bytes

-- writes whose bytes are
abbrev Low : List Write → Type 0
Low [] = Unit {0}
Low (w ∷ ws) = AllBytes w.bytes × Low ws

low-append : (a b : List Write) → Low a → Low b → Low (a ++ b)
low-append [] b ha hb = hb
low-append (w ∷ a) b ha hb = (ha.0, low-append a b ha.1 hb)

landed-low : (lg : Landing) (p : ℕ) (b : List ℕ) (d : Disc) → AllBytes d.bytes → AllBytes b → AllBytes (landed lg p b d).bytes
unfolding landed
landed-low Landing.Done p b d h k = bytes-splice d.bytes (2048 * p) b h k
landed-low Landing.Old p b d h k = h
landed-low Landing.Unreadable p b d h k = h
landed-low Landing.Untouched p b d h k = h

-- leave bytes on a disc
writes-low : (n : ℕ) (c : Cut) (ws : List Write) (d : Disc) → AllBytes d.bytes → Low ws → AllBytes (writes n c ws d).bytes
unfolding writes write
writes-low n c [] d h k = h
writes-low n c (w ∷ ws) d h k = writes-low (n + 1) c ws _ (landed-low (landing n c) w.place w.bytes d h k.0) k.1

zeros-low : (n : ℕ) → AllBytes (replicate n 0)
zeros-low zero i = omega arith
zeros-low (suc n) zero = omega arith
zeros-low (suc n) (suc i) = zeros-low n i

upward-low : (k p : ℕ) (b : List ℕ) (at : ℕ) → AllBytes b → Low (upward k p b at)
unfolding upward
upward-low zero p b at h = tt
upward-low (suc k) p b at h = (bytes-part b at 2048 h, upward-low k (p + 1) b (at + 2048) h)

copies-low : (ts b : List ℕ) → AllBytes b → Low (copies_to ts b)
unfolding copies_to
copies-low [] b h = tt
copies-low (t ∷ ts) b h = (h, copies-low ts b h)

none-low : AllBytes []
none-low i = omega arith

quads-low : (l : List ℕ) → AllBytes (quads l)
unfolding quads
quads-low [] i = omega arith
quads-low (x ∷ l) i = bytes-append (digits 4 x) (quads l) (digits-below 4 x) (quads-low l) i

name-low : AllBytes (regid sparing_name)
unfolding bytes_only regid sparing_name identifier
name-low = all-bytes _ (bytes_below (regid sparing_name) refl)

-- parts that are of bytes, joined
abbrev LowParts : List (List ℕ) → Type 0
LowParts [] = Unit {0}
LowParts (a ∷ l) = AllBytes a × LowParts l

join-low : (l : List (List ℕ)) → LowParts l → AllBytes (join l)
unfolding join
join-low [] h = none-low
join-low (a ∷ l) h = bytes-append a (join l) h.0 (join-low l h.1)

filled-low : (n : ℕ) (b : List ℕ) → AllBytes b → AllBytes (filled n b)
unfolding filled
filled-low n b h = bytes-append b (replicate (n - length b) 0) h (zeros-low (n - length b))

table-low : (n : ℕ) (l : List ℕ) → AllBytes (written_table n l)
unfolding written_table
table-low n l =
    filled-low 2048 (join (table-parts n l))
    (join-low (table-parts n l)
    (zeros-low 16, (name-low, (digits-below 2 (length l / 2), (zeros-low 2, (digits-below 4 n, (quads-low l, tt)))))))
  where
    table-parts : ℕ → List ℕ → List (List ℕ)
    table-parts n l = replicate 16 0 ∷ regid sparing_name ∷ digits 2 (length l / 2) ∷ replicate 2 0 ∷ digits 4 n ∷ quads l ∷ []

made-low : (e : Setting) (d : Disc) (spares : List ℕ) → write_once e ≡ false → make_verdict e d spares ≡ Ok tt → Below 256 d.bytes → Below 256 (made e d spares).bytes
unfolding Below made made_by make_writes
made-low e d spares again go low i h =
    let zs : List ℕ = replicate (2048 * e.span) 0 in
    let up : List Write = upward e.span e.start zs 0 in
    let table : List ℕ = written_table 0 (flat (spare_entries spares)) in
    let cs : List Write = copies_to (geometry e d).tables table in
    rw (go, again)
    (writes-low 1 no_cut (up ++ cs) d (all-bytes d.bytes low)
    (low-append up cs (upward-low e.span e.start zs 0 (zeros-low (2048 * e.span))) (copies-low (geometry e d).tables table (table-low 0 (flat (spare_entries spares))))) i)

-- ---- the small volume with a spare inside its partition

-- a block of the made disc belongs to one of its spares
on-made : (d : Disc) (t : List ℕ) → OpensFree small_volume (made small_volume d small_spares) small_spares t → (b : ℕ)
    → of_spare_on small_volume (made small_volume d small_spares) b ≡ in_spare small_volume small_spares b
unfolding of_spare_on entries_on in_spare
on-made d t o b =
    ap (λ (l : List ℕ). of_spare small_volume.start (entries l) b) o.free
    ∙ ap (λ (es : List Entry). of_spare small_volume.start es b) (entries-flat (spare_entries small_spares))

in_span : (b : ℕ) → b < 32 → b < small_volume.span
unfolding small_volume
in_span b h = omega arith

-- no call of two sparings and an opening is cut
twice-proper : (y z : List ℕ) (r : ℕ) → Proper false (twice_calls 0 y z) (twice_answers r)
unfolding Proper twice_calls twice_answers is_cut
twice-proper y z r = (λ q. differ q refl, (λ q. differ q refl, (λ q. refl, tt)))

-- on one disc
module _ (d : Disc) (t : List ℕ) (low : Below 256 d.bytes) (shape : shapely d ≡ true) (long : 160 ≤ length d.marks) (room : 4096 ≤ length t) where
  makes : Makes d
  unfolding RewritableMakes
  makes = again-makes d shape long

  opens : OpensFree small_volume (made small_volume d small_spares) small_spares t
  unfolding RewritableMadeOpens
  opens = again-made-opens small_volume d small_spares t makes.kind makes.either room

  follows : (cs : List Call) → Proper false cs (answers small_volume (after_opening small_volume (made small_volume d small_spares) t) cs)
      → Follows small_volume (made small_volume d small_spares) t cs
  unfolding is_opened answer_of_opening
  follows cs proper =
      record {
        low = made-low small_volume d small_spares makes.kind makes.either low;
        opens = ap (λ (x : Result Opened Refusal). is_opened (answer_of_opening x)) opens.answer;
        proper = proper;
      }

  spared : (y z : List ℕ) → length y ≡ 65536 → length z ≡ 65536 → SparedTwice small_volume (after_opening small_volume (made small_volume d small_spares) t) 128 64 [] 0 y z
  unfolding RespareLives small_spares
  spared y z j k =
      respare-lives small_volume d 128 64 [] t makes.kind makes.either room makes.tables 0 y z refl (in_span 0 (omega arith)) (makes.free 0 (omega arith)) j k

  met : InsideMet d t
  unfolding made_inside twice_table spare_entries flat
  met =
      record {
        kind = makes.kind;
        follows = follows;
        addressed = λ b h. record { below = in_span b h; free = on-made d t opens b ∙ makes.free b h };
        of_spares = λ b h k. on-made d t opens b ∙ makes.of_spares b h k;
        twice = λ y z j k. follows (twice_calls 0 y z) (rw (spared y z j k).answered (twice-proper y z _));
        spent = λ y z j k. (spared y z j k).table;
      }

pub inside-makes : InsideMakes
unfolding InsideMakes
inside-makes d t low shape long room = met d t low shape long room

-- ---- closed copies and closed lists of tests

copies-tried : (copy_fits wide_geometry (table_under sparing_name 1 (flat inside_table)) ≡ true)
    × (copy_fits wide_geometry (table_under older_name 1 (flat older_table)) ≡ true)
    × (copy_fits wide_geometry (table_under sparing_name 1 (flat (other_table 32))) ≡ false)
    × (copy_fits wide_geometry (table_under sparing_name 1 (flat crossed_table)) ≡ false)
    × (copy_fits wide_geometry (table_under sparing_name 1 (flat (other_table 96))) ≡ false)
    × (copy_fits wide_geometry (table_under sparing_name 1 (flat (other_table 160))) ≡ false)
    × (copy_fits wide_geometry (table_under sparing_name 1 (flat (other_table 64))) ≡ true)
unfolding wide_geometry inside_table older_table other_table crossed_table table_under written_table filled join regid identifier sparing_name older_name digits quads flat splice part same value field words entries count_in table_in has_regid none_defective named copy_fits original_fits originals_fit may_follow ascending apart apart_from whole_packet absent mapped_of mapped_fit original_clear originals_clear entries_fit none defective is_free is_defective is_used
copies-tried = (refl, refl, refl, refl, refl, refl, refl)

spent-outside : (i : ℕ) → i < length spent_table → outside spent_geometry (get_or spent_table i (entry 0 0)).mapped ≡ true
unfolding spent_table spent_geometry outside whole_packet
spent-outside zero h = refl
spent-outside (suc zero) h = refl
spent-outside (suc (suc zero)) h = refl
spent-outside (suc (suc (suc zero))) h = refl
spent-outside (suc (suc (suc (suc i)))) h = absurd (omega arith)

pub inside-tried : InsideTried
unfolding one_table one_spare marked_disc gives need save_block_tests packet_tests spare_tests read_rewritable_tests block_test spare_test of_spare_on of_spare copy_tests held_current place_of block_sector locate start_at spot_of packet_of other_mark mark_tests recorded_run first_mark recorded mark is_none no_entry free_of table_on entries_on sequence_on count_on counts counting_of counting sequence_in sequence_at table_at highest with_sequence current_sequence current first_table current_table agree sector volume is_once size_in write_once geometry maps_of type_two_map sparable_name used read_maps judged walk walk_up_to first_whole first_length before kind_tests is_write_once is_rewritable type_two tables_in_range volume_of volume_with tables_of tables_in tables_apart volume_in written_table filled join regid identifier sparing_name older_name digits quads part same value field words entries count_in table_in has_regid none_defective named copy_fits original_fits originals_fit may_follow ascending apart apart_from whole_packet absent mapped_of mapped_fit original_clear originals_clear entries_fit none defective is_free is_defective is_used volume_read
inside-tried =
    record {
      newer = copies-tried.0;
      older = copies-tried.1;
      own = copies-tried.2;
      crossed = copies-tried.3;
      broken = copies-tried.4;
      free = copies-tried.5;
      before = spent-outside;
      beside = copies-tried.6;
      blank_blocks = (refl, refl, refl);
      unreadable_blocks = (refl, refl, refl);
      reading = (refl, refl, refl);
      packets = (refl, refl, refl);
      sparings = (refl, refl, refl);
    }

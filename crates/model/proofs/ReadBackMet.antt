-- Each claim of specs/ReadBack.antt speaks of something: a VAT of each form, a sparing table, a volume of each kind and a commit, all closed.
-- Assumes nothing.
use Prim.Native.Nat.{ℕ, zero, suc, ◌+◌, ◌*◌, ◌^◌, ◌≤◌, ◌<◌}
use mathlib.Core.Bool.{true, false}
use mathlib.Core.Path.{◌≡◌, refl, sym, ap, ◌∙◌, subst}
use mathlib.Core.List.{List, [], ◌∷◌, ◌++◌}
use native.Mathlib.Omega.{arith}
use lib.ListN.{length, get_or, take, replicate, length-replicate}
use Rattle.maps.specs.Kinds.{tables_in_range, volume_with, absent, tables_apart, tables_in, tables_of}
use Rattle.maps.specs.Written.{kind_in_range, Ranged}
use Rattle.model.specs.declared.Landing.{Landing}
use Rattle.model.specs.declared.Record.{Record}
use Rattle.model.specs.declared.Reply.{Reply}
use Rattle.std.specs.Prelude.{Result, Ok, Err}
use Rattle.refusal.specs.declared.Refusal.{Refusal}
use Rattle.model.specs.Disc.{known, shapely}
use Rattle.model.specs.Writes.{landing, write, struck, no_cut}
use Rattle.model.specs.Vat.{none, blocks_in, below_or_none, all_below}
use Rattle.model.specs.VatWritten.{file_bytes, data_sectors, written_icb}
use Rattle.model.specs.Sparing.{defective, original_fits, may_follow, flat, originals_fit, ascending, apart, apart_from, whole_packet, original_clear, originals_clear, is_used, is_free, is_defective, mapped_of, mapped_fit, entries_fit, written_table}
use Rattle.model.specs.Plan.{reply_of}
use Rattle.model.specs.Examine.{setting}
use Rattle.model.specs.Once.{entries_held, next_held, last_held, commit_plan}
use Rattle.model.specs.Calls.{Call, commit, open_disc, Answer, done, cut, State, step, carried, answer_of, final, accepted}
use Rattle.model.specs.Store.{cut_in, was_cut}
use Rattle.model.specs.Consequences.{Follows, lays_icb}
use Rattle.model.specs.Run.{twelve, fresh, lent, calls, given, before}
use Rattle.model.specs.ReadBack.{Stands, VatFrom, VatStands, TableFrom, blank_disc, three_entries, embedded_disc, many_entries, beside_disc, small_geometry, each_entry, table_disc, once_volume, again_volume, ReadBackMet}
use Rattle.model.proofs.Basics.{both}
use Rattle.model.proofs.Sectors.{Made, shapely-is}
use Rattle.model.proofs.WrittenVat.{length-icb}
use Rattle.model.proofs.SparingLaws.{length-written}
use Rattle.model.proofs.OnceCommit.{commit-disc}
use Rattle.model.proofs.ConsequencesLists.{answer_at, proper-split}
use Rattle.model.proofs.Run.{run}
use Rattle.model.proofs.ReadBack.{commit-stands, read_back}

-- ---- blank discs

blank-known : (n : ℕ) → known (replicate n 0) ≡ true
unfolding known
blank-known zero = refl
blank-known (suc n) = both refl (blank-known n)

blank-marks : (n : ℕ) → length (blank_disc n).marks ≡ n
unfolding blank_disc
blank-marks n = length-replicate {A = ℕ} n 0

blank-made : (n : ℕ) → Made (blank_disc n)
unfolding blank_disc
blank-made n = record { sized = omega (arith, length-replicate {A = ℕ} (2048 * n) 0, length-replicate {A = ℕ} n 0) }

blank-shapely : (n : ℕ) → 1 ≤ n → n ≤ 1048576 → shapely (blank_disc n) ≡ true
unfolding blank_disc
blank-shapely n l h = shapely-is (blank_disc n) (omega (arith, blank-marks n)) (omega (arith, blank-marks n)) (blank-made n) (blank-known n)

uncut : (n : ℕ) → landing n no_cut ≡ Landing.Done
unfolding landing no_cut
uncut n = refl

-- one write on a blank disc
one-stands : (n p : ℕ) (b : List ℕ) → 1 ≤ n → n ≤ 1048576 → p < n → length b ≡ 2048 → Stands (write 1 no_cut p b (blank_disc n)) p b
one-stands n p b l h on long = read_back.lands 1 no_cut p b (blank_disc n) (blank-shapely n l h) (omega (arith, blank-marks n)) long (uncut 1)

-- ---- a VAT of each form

three-from : VatFrom 3 three_entries 1
unfolding three_entries all_below below_or_none none
three-from = record { few = omega arith; below = refl; before = refl; small = omega arith }

three-stands : Stands embedded_disc 3 (written_icb 3 three_entries 1)
unfolding embedded_disc
three-stands = one-stands 4 3 (written_icb 3 three_entries 1) (omega arith) (omega arith) (omega arith) (length-icb three_entries 1 3)

many-long : length many_entries ≡ 459
unfolding many_entries
many-long = length-replicate {A = ℕ} 459 none

many-from : VatFrom 1 many_entries none
unfolding many_entries all_below below_or_none none
many-from = record { few = omega (arith, many-long); below = refl; before = refl; small = omega arith }

one-sector : data_sectors (length many_entries) ≡ 1
unfolding data_sectors file_bytes blocks_in
one-sector = rw many-long

many-stands : VatStands beside_disc 0 1 many_entries none
unfolding beside_disc entries_held next_held last_held
many-stands =
    let count : 459 ≡ length many_entries = omega (arith, many-long) in
    let k : 0 + data_sectors (length many_entries) ≡ 1 = omega (arith, one-sector) in
    subst (λ (n : ℕ). VatStands beside_disc 0 n many_entries none) k
    (rw (commit-disc (setting [] 0 2) many_entries (Record.WriteOnce 459 0 none) count no_cut (blank_disc 2))
    (commit-stands 0 (blank_disc 2) no_cut many_entries 0 none (blank-made 2) (omega (arith, one-sector, blank-marks 2)) (uncut _)))

-- ---- a sparing table

each-fit : entries_fit small_geometry each_entry ≡ true
unfolding small_geometry each_entry entries_fit originals_fit ascending mapped_fit mapped_of original_fits may_follow defective none whole_packet original_clear originals_clear is_used is_free is_defective apart apart_from absent
each-fit = refl

each_from : TableFrom small_geometry each_entry 1
unfolding small_geometry
each_from = record { fits = each-fit; size = omega arith; sectors = omega arith; inside = omega arith; sequence = omega arith }

each-stand : Stands table_disc 32 (written_table 1 (flat each_entry))
unfolding table_disc small_geometry
each-stand =
    one-stands 192 32 (written_table 1 (flat each_entry)) (omega arith) (omega arith) (omega arith)
    (length-written small_geometry each_entry 1 each-fit (omega arith) (omega arith) (omega arith) (omega arith))

-- ---- a volume of each kind

once-ranged : Ranged once_volume
unfolding once_volume volume_with
once-ranged = record { numbers = omega arith; places = refl; sectors = below }
  where
    below : (i : ℕ) → get_or (0 ∷ 0 ∷ 0 ∷ 0 ∷ []) i 0 < 2 ^ 32
    below zero = omega arith
    below (suc zero) = omega arith
    below (suc (suc zero)) = omega arith
    below (suc (suc (suc zero))) = omega arith
    below (suc (suc (suc (suc i)))) = omega arith

again-ranged : Ranged again_volume
unfolding again_volume volume_with
again-ranged = record { numbers = (omega arith, omega arith, omega arith); places = refl; sectors = below }
  where
    below : (i : ℕ) → get_or (0 ∷ 32 ∷ 0 ∷ 0 ∷ []) i 0 < 2 ^ 32
    below zero = omega arith
    below (suc zero) = omega arith
    below (suc (suc zero)) = omega arith
    below (suc (suc (suc zero))) = omega arith
    below (suc (suc (suc (suc i)))) = omega arith

-- ---- the eighteenth call of the run

abbrev cs : List Call
cs = take 17 calls

abbrev st : State
st = final twelve before cs

eighteenth : (step twelve st (commit no_cut)).answer ≡ done (Record.WriteOnce 2 10 9)
unfolding calls given
eighteenth = sym (answer_at twelve cs (commit no_cut) (open_disc ∷ []) before) ∙ ap (λ (l : List Answer). get_or l 17 cut) run.answered

-- an answer that is done is that of a reply that is
done-reply : (x : Result Reply Refusal) (r : Record) → answer_of x ≡ done r → x ≡ Ok (Reply.Done r)
unfolding answer_of
done-reply (Ok (Reply.Done q)) r h = let e : q ≡ r = cc in ap (λ (k : Record). Ok (Reply.Done k)) e
done-reply (Ok Reply.Cut) r h = let z : ◌≡◌ {A = ℕ} 0 1 = cc in absurd (omega arith)
done-reply (Err why) r h = let z : ◌≡◌ {A = ℕ} 0 1 = cc in absurd (omega arith)

replies : reply_of (commit_plan twelve st.disc st.table st.held) no_cut ≡ Ok (Reply.Done (Record.WriteOnce 2 10 9))
unfolding step carried
replies = done-reply _ _ eighteenth

follows : Follows twelve fresh lent (cs ++ (commit no_cut ∷ []))
unfolding calls before
follows =
    record { low = run.low; opens = run.accepted; proper = (proper-split twelve (cs ++ (commit no_cut ∷ [])) (open_disc ∷ []) before false run.proper).0 }

-- all of them
pub read-back-met : ReadBackMet
unfolding three_entries kind_in_range tables_in_range tables_apart tables_of tables_in absent once_volume again_volume volume_with before accepted lays_icb was_cut cut_in struck no_cut
read-back-met =
    record {
      embedded = (omega arith, three-from, three-stands);
      beside = (omega (arith, many-long), many-from, many-stands);
      table = (each_from, each-stand);
      once = (once-ranged, refl, refl);
      again = (again-ranged, refl, refl);
      committed = replies;
      chained = (follows, ap accepted eighteenth, refl);
    }

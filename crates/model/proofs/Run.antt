-- The run of specs/Run.antt. That opening accepts the disc is computed, the CRC of its ICB included; what the calls answer follows call by
-- call from the laws of RunSteps.antt; what is read follows from demand 3. Assumes nothing.
use Prim.Native.Nat.{ℕ, zero, suc}
use mathlib.Core.Bool.{Bool, true, false, ◌&&◌}
use mathlib.Core.Path.{◌≡◌, refl, ap, ◌∙◌, subst}
use mathlib.Core.List.{List, [], ◌∷◌}
use native.Mathlib.Omega.{arith}
use lib.Dec.{ltb}
use lib.ListN.{length}
use borrow.Author.Tests.{ltb-true}
use Rattle.refusal.specs.declared.Refusal.TheVariants.{NumberOutside}
use Rattle.std.specs.Prelude.{Ok}
use Rattle.refusal.specs.Tests.{need}
use Rattle.fields.specs.Bytes.{part, splice, same, join}
use Rattle.fields.specs.Number.{value, digits, field, words, quads}
use Rattle.fields.specs.Regid.{identifier, regid, has_regid}
use Rattle.tag.specs.Checksum.{total, checksum_of}
use Rattle.tag.specs.Crc.{bit_step, bits_of, bits_from, byte_step, crc_from}
use Rattle.maps.specs.Walk.{before as before_rest, first_length, first_whole, walk_up_to, walk}
use Rattle.maps.specs.Kinds.{virtual_name, type_one, type_two, is_write_once, volume_with, volume_of, tables_apart, tables_in, tables_of, kind_tests, judged, volume_in, read_maps, volume_read}
use Rattle.refusal.specs.Verdict.{verdict_of}
use Rattle.maps.specs.Written.{type_one_map, type_two_map, maps_of}
use Rattle.model.specs.declared.Effect.{Effect}
use Rattle.model.specs.declared.Record.{Record}
use Rattle.model.specs.Disc.{sector, mark, recorded, nwa, known, shapely, inside}
use Rattle.model.specs.Writes.{on_effect, landing, landed, write, writes, struck, no_cut}
use Rattle.model.specs.Vat.{vat_name, none, file_fits, count_of, entries_of, previous_of, below_or_none, all_below, tag_fits, form, file_length, attributes, allocation, entry_fits, allocation_fits, file_of, table_fits, passes, vat_icb, vat_file, scan}
use Rattle.model.specs.VatWritten.{file_bytes, data_sectors, written_file, filled, written_allocation, written_form, written_entry, tag_with, written_tag, written_icb}
use Rattle.model.specs.Examine.{volume, is_once, write_once, shape_tests, place_tests, examined, lent_table}
use Rattle.model.specs.Once.{next_on, entries_held, next_held, is_found, found_at, newest, newest_file, open_once_tests, found_record, passed_over, count_after, room_to_save, number_fits, save_tests}
use Rattle.model.specs.Both.{open_verdict, record_on, passed_on, opened_by, opening, make_tests, make_verdict, make_writes, made_by, made}
use Rattle.model.specs.Calls.{State, answers, answer_of_opening, is_opened, is_cut, accepted, ends_cut, Proper}
use Rattle.model.specs.Store.{Slot, holds, unused, store, blocks_on, start, shape_of, cut_in, writes_in, was_cut, put, whole_at, is_whole, taken, next, seen_as, look}
use Rattle.model.specs.Demand.{Below, after_opening, followed, seen, Kept, Demand3}
use Rattle.model.specs.Run.{twelve, blank, fresh, lent, ones, twos, failing, calls, given, before, after, Run}
use Rattle.model.proofs.Basics.{and-true}
use Rattle.model.proofs.Verdicts.{opened-tells}
use Rattle.model.proofs.Once.{next_after}
use Rattle.model.proofs.Cuts.{old-differs, unreadable-differs}
use Rattle.model.proofs.OnceRead.{Live, live-length}
use Rattle.model.proofs.OnceOpen.{first_live}
use Rattle.model.proofs.OnceDemand.{accepted-goes}
use Rattle.model.proofs.Demand.{demand-3}
use Rattle.model.proofs.RunSteps.{Between, told, told_none, is_opening, orderly, orderly-proper, standing, saved, save-refused, save-cut, freed, committed, commit-torn, commit-whole, opened-again}

-- ---- the disc

-- whether every number of a list is a byte
unfoldable pub bytes_only : List ℕ → Bool
bytes_only [] = true
bytes_only (x ∷ l) = ltb x 256 && bytes_only l

pub bytes_below : (l : List ℕ) → bytes_only l ≡ true → Below 256 l
unfolding Below bytes_only
bytes_below [] q i h = absurd (omega arith)
bytes_below (x ∷ l) q zero h = ltb-true x 256 (and-true (ltb x 256) (bytes_only l) q).0
bytes_below (x ∷ l) q (suc i) h = bytes_below l (and-true (ltb x 256) (bytes_only l) q).1 i (omega arith)

-- what is computed of the disc: the map list is that of a write-once volume; opening finds the empty VAT that making wrote, its ICB in
-- block 0, and passes over no sector; every byte is one
pub record Computed : Type 0 where
  pub once : write_once twelve ≡ true
  pub maps : verdict_of (read_maps twelve.maps) ≡ Ok tt
  pub opens : opening twelve fresh lent ≡ Ok (record { handed = Record.WriteOnce 0 1 0; passed = 0 })
  pub whole : bytes_only fresh.bytes ≡ true

pub computed : Computed
unfolding bytes_only twelve blank fresh lent write_once is_once volume before_rest first_length first_whole walk_up_to walk virtual_name type_one type_two is_write_once volume_with volume_of tables_apart tables_in tables_of kind_tests judged volume_in read_maps type_one_map type_two_map maps_of need part splice same join value digits field words quads identifier regid has_regid total checksum_of bit_step bits_of bits_from byte_step crc_from sector mark recorded nwa known shapely inside landing landed write writes no_cut vat_name none file_fits count_of entries_of previous_of below_or_none all_below tag_fits form file_length attributes allocation entry_fits allocation_fits file_of table_fits passes vat_icb vat_file scan file_bytes data_sectors written_file filled written_allocation written_form written_entry tag_with written_tag written_icb shape_tests place_tests examined lent_table next_on is_found found_at newest newest_file open_once_tests found_record passed_over open_verdict record_on passed_on opened_by opening make_tests make_verdict make_writes made_by made volume_read
computed = record { once = refl; maps = refl; opens = refl; whole = refl }

-- ---- what the calls answer

pub accepts : is_opened (answer_of_opening (opening twelve fresh lent)) ≡ true
unfolding is_opened answer_of_opening
accepts = ap (λ x. is_opened (answer_of_opening x)) computed.opens

goes : open_verdict twelve fresh lent ≡ Ok tt
goes = accepted-goes twelve fresh lent accepts

-- a list with no element
no-element : (l : List Slot) → length l ≡ 0 → l ≡ []
no-element [] q = refl
no-element (x ∷ l) q = absurd (omega arith)

begun : Live twelve before (start twelve fresh)
unfolding before
begun = first_live twelve computed.once computed.maps fresh lent goes

held_first : before.held ≡ Record.WriteOnce 0 1 0
unfolding before after_opening
held_first = (opened-tells twelve fresh lent _ _ computed.opens).held

-- the plain store begins with no block
pub empty : start twelve fresh ≡ store [] []
unfolding start entries_held
empty =
    let none-there : blocks_on twelve fresh ≡ [] = no-element (blocks_on twelve fresh) (live-length twelve before (start twelve fresh) begun ∙ ap entries_held held_first) in
    ap (λ l. store l l) none-there

pub at_first : Between twelve before (store [] []) 0 1 0
at_first = record { once = computed.once; maps = computed.maps; live = subst (Live twelve before) empty begun; held = held_first }

-- the blocks of the plain store, its copy, N, NWA and the last ICB
abbrev pub Now : State → List Slot → List Slot → ℕ → ℕ → ℕ → Type 0
Now st blocks copy n w a = Between twelve st (store blocks copy) n w a

-- call by call
answer-list : answers twelve before calls ≡ given
unfolding twelve ones twos calls given no_cut struck landing on_effect next_after count_after room_to_save number_fits save_tests entries_held next_held passes tag_fits field part value need file_bytes data_sectors put
answer-list =
    told _ (saved at_first 0 ones no_cut refl refl refl) λ (b : Now _ (holds ones ∷ []) [] 1 2 0).
    told _ (commit-torn b refl (omega arith) (failing Effect.Old) refl old-differs) λ d.
    told _ (opened-again d) λ (b : Now _ [] [] 0 2 0).
    told _ (saved b 0 twos no_cut refl refl refl) λ (b : Now _ (holds twos ∷ []) [] 1 3 0).
    told _ (commit-torn b refl (omega arith) (failing Effect.Unreadable) refl unreadable-differs) λ d.
    told _ (opened-again d) λ (b : Now _ [] [] 0 4 0).
    told _ (saved b 0 ones no_cut refl refl refl) λ (b : Now _ (holds ones ∷ []) [] 1 5 0).
    told _ (save-refused b 7 twos no_cut NumberOutside refl refl) λ (b : Now _ (holds ones ∷ []) [] 1 5 0).
    told _ (saved b 1 twos no_cut refl refl refl) λ (b : Now _ (holds ones ∷ holds twos ∷ []) [] 2 6 0).
    told _ (commit-whole b refl (omega arith) (failing Effect.Whole) refl refl) λ d.
    told _ (opened-again d) λ (b : Now _ (holds ones ∷ holds twos ∷ []) (holds ones ∷ holds twos ∷ []) 2 7 6).
    told _ (freed b 0 ones (omega arith) refl) λ (b : Now _ (unused ∷ holds twos ∷ []) (holds ones ∷ holds twos ∷ []) 2 7 6).
    told _ (opened-again (standing b)) λ (b : Now _ (holds ones ∷ holds twos ∷ []) (holds ones ∷ holds twos ∷ []) 2 7 6).
    told _ (save-cut b 2 twos (failing Effect.Unreadable) refl refl refl (omega arith) refl) λ d.
    told _ (opened-again d) λ (b : Now _ (holds ones ∷ holds twos ∷ []) (holds ones ∷ holds twos ∷ []) 2 8 6).
    told _ (freed b 1 twos (omega arith) refl) λ (b : Now _ (holds ones ∷ unused ∷ []) (holds ones ∷ holds twos ∷ []) 2 8 6).
    told _ (saved b 0 twos no_cut refl refl refl) λ (b : Now _ (holds twos ∷ unused ∷ []) (holds ones ∷ holds twos ∷ []) 2 9 6).
    told _ (committed b refl (omega arith) no_cut refl) λ (b : Now _ (holds twos ∷ unused ∷ []) (holds twos ∷ unused ∷ []) 2 10 9).
    told _ (opened-again (standing b)) λ b. told_none twelve _

-- ---- what is read

in_order_law : Proper false calls (answers twelve before calls)
unfolding orderly is_opening is_cut calls given
in_order_law = rw answer-list (orderly-proper false calls given refl)

demanded : Kept twelve fresh lent calls
unfolding Demand3 before
demanded = demand-3 twelve fresh lent (bytes_below fresh.bytes computed.whole) accepts calls in_order_law

-- the list does not end in a cut
ends : ends_cut false (answers twelve before calls) ≡ false
unfolding ends_cut is_cut given
ends = rw answer-list

-- the plain store after the calls
played : (k : ℕ) → followed (record { once = true; tables = k }) (store [] []) calls given ≡ store (holds twos ∷ unused ∷ []) (holds twos ∷ unused ∷ [])
unfolding followed next taken was_cut cut_in writes_in struck no_cut put whole_at is_whole accepted calls given file_bytes data_sectors
played k = refl

store-after : followed (shape_of twelve) (start twelve fresh) calls (answers twelve before calls) ≡ store (holds twos ∷ unused ∷ []) (holds twos ∷ unused ∷ [])
unfolding shape_of
store-after =
    ap (λ x. followed (shape_of twelve) (start twelve fresh) calls x) answer-list
    ∙ ap (λ x. followed (shape_of twelve) x calls given) empty
    ∙ ap (λ x. followed (record { once = x; tables = (shape_of twelve).tables }) (store [] []) calls given) computed.once
    ∙ played _

reads : (v : ℕ) (out : List ℕ) → length out ≡ 2048 → seen twelve after v out ≡ look (store (holds twos ∷ unused ∷ []) (holds twos ∷ unused ∷ [])) v
unfolding after before
reads v out long = demanded.reads ends v out long ∙ ap (λ σ. look σ v) store-after

-- the run
pub run : Run
unfolding look seen_as
run =
    record {
      low = bytes_below fresh.bytes computed.whole;
      accepted = accepts;
      proper = in_order_law;
      kept = demanded;
      answered = answer-list;
      first = reads 0;
      second = reads 1;
      third = reads 2;
    }

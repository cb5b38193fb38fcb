-- The claims of specs/Blank.antt speak of some packets, and `BlankStays` of some disc. That opening accepts the disc and finds a blank block is
-- computed, the CRC of its ICB included; what the calls answer follows from the laws of RunSteps.antt, and what is read from demand 3 and the
-- claim. Assumes nothing.
use Prim.Native.Nat.{ℕ}
use mathlib.Core.Bool.{true, false}
use mathlib.Core.Path.{◌≡◌, refl, ap, ◌∙◌, subst}
use mathlib.Core.List.{List, [], ◌∷◌}
use native.Mathlib.Omega.{arith}
use lib.ListN.{length}
use Rattle.refusal.specs.declared.Refusal.TheVariants.{BlankSector}
use Rattle.std.specs.Prelude.{Ok}
use Rattle.refusal.specs.Tests.{need}
use Rattle.fields.specs.Bytes.{part, splice, same, join}
use Rattle.fields.specs.Number.{value, digits, field, words, quads}
use Rattle.fields.specs.Regid.{identifier, regid, has_regid}
use Rattle.tag.specs.Checksum.{total, checksum_of}
use Rattle.tag.specs.Crc.{bit_step, bits_of, bits_from, byte_step, crc_from}
use Rattle.maps.specs.Walk.{before as before_rest, first_length, first_whole, walk_up_to, walk}
use Rattle.maps.specs.Kinds.{virtual_name, type_one, type_two, is_write_once, volume_with, volume_of, tables_apart, tables_in, tables_of, kind_tests, judged, volume_in, read_maps, volume_read}
use Rattle.refusal.specs.Verdict.{verdict_of}
use Rattle.maps.specs.Written.{type_one_map, type_two_map, maps_of}
use Rattle.model.specs.declared.Effect.{Effect}
use Rattle.model.specs.declared.Record.{Record}
use Rattle.model.specs.Disc.{sector, mark, recorded, recorded_run, first_mark, nwa, known, shapely, inside}
use Rattle.model.specs.Writes.{on_effect, landing, landed, write, writes, struck, no_cut}
use Rattle.model.specs.Vat.{vat_name, none, file_fits, count_of, entries_of, previous_of, below_or_none, all_below, tag_fits, form, file_length, attributes, allocation, entry_fits, allocation_fits, file_of, table_fits, passes, vat_icb, vat_file, scan}
use Rattle.model.specs.VatWritten.{file_bytes, data_sectors, written_file, filled, written_allocation, written_form, written_entry, tag_with, written_tag, written_icb}
use Rattle.model.specs.Examine.{volume, is_once, write_once, shape_tests, place_tests, examined, lent_table}
use Rattle.model.specs.Once.{next_on, entries_held, next_held, is_found, found_at, newest, newest_file, open_once_tests, found_record, passed_over, count_after, room_to_save, number_fits, save_tests}
use Rattle.model.specs.Rewrite.{other_mark}
use Rattle.model.specs.Both.{open_verdict, record_on, passed_on, opened_by, opening}
use Rattle.model.specs.Calls.{State, answers, answer_of_opening, is_opened, is_cut, accepted, Proper, ends_cut, final}
use Rattle.model.specs.Store.{Slot, holds, blank, store, slot_at, entry_slot, entry_slots, blocks_on, start, shape_of, cut_in, writes_in, was_cut, put, taken, next, turned, seen_as, look}
use Rattle.model.specs.Demand.{after_opening, followed, seen, Demand3}
use Rattle.model.specs.Consequences.{Follows, saves, leaves, BlankStays}
use Rattle.model.specs.Run.{lent, ones, failing}
use Rattle.model.specs.Blank.{FirstMet, six, named, others, others_given, BlankMet}
use Rattle.model.proofs.Verdicts.{opened-tells}
use Rattle.model.proofs.Once.{next_after}
use Rattle.model.proofs.OnceRead.{Live}
use Rattle.model.proofs.OnceOpen.{first_live}
use Rattle.model.proofs.OnceDemand.{accepted-goes}
use Rattle.model.proofs.Demand.{demand-3}
use Rattle.model.proofs.RunSteps.{Between, told, told_none, is_opening, orderly, orderly-proper, standing, saved, save-cut, committed, opened-again}
use Rattle.model.proofs.Run.{bytes_only, bytes_below}
use Rattle.model.proofs.BlankStays.{blank-stays}

-- the closed packets are computed
pub first-met : FirstMet
unfolding first_mark other_mark recorded_run recorded mark
first-met = record { unreadable = refl; blank = refl; above = refl; below = refl; own = refl }

-- what is computed of the disc: opening finds the VAT, its ICB in block 1, and passes over no sector; its one entry names a blank block
record Computed : Type 0 where
  once : write_once six ≡ true
  maps : verdict_of (read_maps six.maps) ≡ Ok tt
  opens : opening six named lent ≡ Ok (record { handed = Record.WriteOnce 1 2 1; passed = 0 })
  whole : bytes_only named.bytes ≡ true
  begins : start six named ≡ store (blank ∷ []) (blank ∷ [])

computed : Computed
unfolding bytes_only six named lent write_once is_once volume before_rest first_length first_whole walk_up_to walk virtual_name type_one type_two is_write_once volume_with volume_of tables_apart tables_in tables_of kind_tests judged volume_in read_maps type_one_map type_two_map maps_of need part splice same join value digits field words quads identifier regid has_regid total checksum_of bit_step bits_of bits_from byte_step crc_from sector mark recorded nwa known shapely inside landing landed write writes no_cut vat_name none file_fits count_of entries_of previous_of below_or_none all_below tag_fits form file_length attributes allocation entry_fits allocation_fits file_of table_fits passes vat_icb vat_file scan file_bytes data_sectors written_file filled written_allocation written_form written_entry tag_with written_tag written_icb shape_tests place_tests examined lent_table next_on is_found found_at newest newest_file open_once_tests found_record passed_over open_verdict record_on passed_on opened_by opening start blocks_on entry_slots entry_slot slot_at volume_read
computed = record { once = refl; maps = refl; opens = refl; whole = refl; begins = refl }

abbrev st : State
st = after_opening six named lent

accepts : is_opened (answer_of_opening (opening six named lent)) ≡ true
unfolding is_opened answer_of_opening
accepts = ap (λ x. is_opened (answer_of_opening x)) computed.opens

goes : open_verdict six named lent ≡ Ok tt
goes = accepted-goes six named lent accepts

at_first : Between six st (store (blank ∷ []) (blank ∷ [])) 1 2 1
unfolding after_opening
at_first =
    record {
      once = computed.once;
      maps = computed.maps;
      live = subst (Live six st) computed.begins (first_live six computed.once computed.maps named lent goes);
      held = (opened-tells six named lent _ _ computed.opens).held;
    }

-- the blocks of the plain store, its copy, N, NWA and the last ICB
abbrev Now : State → List Slot → List Slot → ℕ → ℕ → ℕ → Type 0
Now x blocks copy n w a = Between six x (store blocks copy) n w a

-- call by call
answer-list : answers six st others ≡ others_given
unfolding six ones others others_given no_cut struck landing on_effect next_after count_after room_to_save number_fits save_tests entries_held next_held passes tag_fits field part value need file_bytes data_sectors put
answer-list =
    told _ (save-cut at_first 0 ones (failing Effect.Unreadable) refl refl refl (omega arith) refl) λ d.
    told _ (opened-again d) λ (b : Now _ (blank ∷ []) (blank ∷ []) 1 3 1).
    told _ (saved b 1 ones no_cut refl refl refl) λ (b : Now _ (blank ∷ holds ones ∷ []) (blank ∷ []) 2 4 1).
    told _ (committed b refl (omega arith) no_cut refl) λ (b : Now _ (blank ∷ holds ones ∷ []) (blank ∷ holds ones ∷ []) 2 5 4).
    told _ (opened-again (standing b)) λ b. told_none six _

follows : Follows six named lent others
unfolding orderly is_opening is_cut others others_given
follows =
    record {
      low = bytes_below named.bytes computed.whole;
      opens = accepts;
      proper = rw answer-list (orderly-proper false others others_given refl);
    }

left : leaves 0 others (answers six st others) ≡ true
unfolding leaves saves accepted is_cut others others_given
left = rw answer-list

-- neither the empty list nor this one ends in a cut
none-cut : ends_cut false (answers six st []) ≡ false
unfolding ends_cut answers
none-cut = refl

ends : ends_cut false (answers six st others) ≡ false
unfolding ends_cut is_cut others_given
ends = rw answer-list

-- number 0 before them
first : (out : List ℕ) → length out ≡ 2048 → seen six st 0 out ≡ turned BlankSector
unfolding Demand3 Proper final answers followed look seen_as
first out long =
    (demand-3 six named lent follows.low accepts [] tt).reads none-cut 0 out long ∙ ap (λ σ. look σ 0) computed.begins

-- the plain store after them
played : (k : ℕ) → followed (record { once = true; tables = k }) (store (blank ∷ []) (blank ∷ [])) others others_given ≡ store (blank ∷ holds ones ∷ []) (blank ∷ holds ones ∷ [])
unfolding followed next taken was_cut cut_in writes_in struck no_cut put accepted others others_given file_bytes data_sectors
played k = refl

store-after : followed (shape_of six) (start six named) others (answers six st others) ≡ store (blank ∷ holds ones ∷ []) (blank ∷ holds ones ∷ [])
unfolding shape_of
store-after =
    ap (λ x. followed (shape_of six) (start six named) others x) answer-list
    ∙ ap (λ x. followed (shape_of six) x others others_given) computed.begins
    ∙ ap (λ x. followed (record { once = x; tables = (shape_of six).tables }) (store (blank ∷ []) (blank ∷ [])) others others_given) computed.once
    ∙ played _

pub blank-met : BlankMet
unfolding Demand3 BlankStays final look seen_as
blank-met =
    record {
      follows = follows;
      answered = answer-list;
      left = left;
      first = first;
      after = λ out long. blank-stays six named lent [] others computed.once follows none-cut ends 0 out long (first out long) left;
      other = λ out long. (demand-3 six named lent follows.low accepts others follows.proper).reads ends 1 out long ∙ ap (λ σ. look σ 1) store-after;
    }

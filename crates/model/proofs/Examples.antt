-- The worked examples of document 01, a to l, by computation. Assumes nothing.
use Prim.Native.Nat.{ℕ, zero, suc, ◌+◌, ◌<◌}
use mathlib.Core.Path.{◌≡◌, refl}
use mathlib.Core.List.{List, [], ◌∷◌}
use native.Mathlib.Omega.{arith}
use lib.ListN.{set}
use Rattle.label.specs.PerMille.{nearest, per_mille}
use Rattle.std.specs.Prelude.{Ok}
use Rattle.refusal.specs.Tests.{need}
use Rattle.model.specs.declared.Record.{Record}
use Rattle.model.specs.Disc.{Disc}
use Rattle.fields.specs.Bytes.{part}
use Rattle.fields.specs.Number.{value, field}
use Rattle.model.specs.Vat.{none, blocks_in, tag_fits, passes}
use Rattle.model.specs.VatWritten.{file_bytes, data_sectors}
use Rattle.model.specs.Sparing.{is_free, defective, is_defective, is_used, used_of, defective_of, free_of, spot_of, packet_of, start_at, locate, inserted, first_free, rest, without, turned_defective, retired, free_taken, resorted}
use Rattle.model.specs.Plan.{carry}
use Rattle.model.specs.Examine.{setting}
use Rattle.model.specs.Once.{once_verdict, entries_held, next_held, last_held, count_after, room_to_save, number_fits, save_tests, save_lent, save_plan, entry_tests}
use Rattle.model.specs.Rewrite.{block_test}
use Rattle.model.specs.Both.{entry_sector}
use Rattle.model.specs.Examples.{gives, zeros, Examples}
use Rattle.model.proofs.Verdicts.{unless-go, once-goes}

-- the one write of example j
one-write : (maps : List ℕ) (d : Disc) (s last : ℕ) (t : List ℕ) (v : ℕ) → v < 2
    → once_verdict (setting maps s 9) d t (save_lent t zeros) (Record.WriteOnce 2 7 last) [] ≡ Ok tt
    → save_plan (setting maps s 9) d t (Record.WriteOnce 2 7 last) v zeros
    ≡ carry (record { place = s + 7; bytes = zeros } ∷ []) (set t v 7) (Record.WriteOnce 2 8 last)
unfolding save_plan number_fits save_tests need part value field blocks_in tag_fits passes file_bytes data_sectors entries_held next_held last_held count_after room_to_save zeros
one-write maps d s last t zero h g = unless-go _ (once-goes (setting maps s 9) d t _ (Record.WriteOnce 2 7 last) _ g)
one-write maps d s last t (suc zero) h g = unless-go _ (once-goes (setting maps s 9) d t _ (Record.WriteOnce 2 7 last) _ g)
one-write maps d s last t (suc (suc v)) h g = absurd (omega arith)

-- every example of 01
pub examples : Examples
unfolding need part value field none blocks_in tag_fits passes file_bytes data_sectors is_free defective is_defective is_used used_of defective_of free_of spot_of packet_of start_at locate inserted first_free rest without turned_defective retired free_taken resorted entries_held next_held count_after room_to_save number_fits save_tests entry_tests nearest per_mille block_test entry_sector gives zeros
examples =
    record {
      a = λ maps l. refl;
      b = λ maps l. refl;
      c = λ next last. refl;
      d = λ next last. refl;
      e = (refl, refl);
      f = (refl, refl);
      g = (refl, refl, refl, refl);
      h = (refl, refl);
      i = (refl, refl, λ maps. refl);
      j = λ maps disc s last. (refl, refl, refl, refl, one-write maps disc s last);
      k = refl;
      l = (refl, refl, refl);
    }

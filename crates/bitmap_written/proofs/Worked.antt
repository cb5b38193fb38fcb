-- The closed bitmaps of specs/Worked.antt, computed. Assumes nothing.
use mathlib.Core.Path.{refl}
use Rattle.fields.specs.Bytes.{part, splice, join}
use Rattle.fields.specs.Number.{value, digits, field}
use Rattle.refusal.specs.Tests.{need}
use Rattle.tag.specs.Checksum.{total, checksum_of}
use Rattle.tag.specs.Crc.{bit_step, bits_of, bits_from, byte_step, crc_from}
use Rattle.tag.specs.Sound.{crc_of, sound, covered, renewed}
use Rattle.bitmap.specs.Bits.{bit_at, free_from, all_in}
use Rattle.bitmap.specs.Formed.{tag_fits, bitmap_fits}
use Rattle.bitmap.specs.Counted.{counted}
use Rattle.bitmap_find.specs.Nearest.{run_at, outward, nearest, found}
use Rattle.bitmap_written.specs.Changed.{set_bit, changed}
use Rattle.bitmap_written.specs.Written.{run_fits, run_verdict, run_after}
use Rattle.bitmap_written.specs.Worked.{bitmap_of, twenty, worked, whole, sealed_of, CountsWorked, FindsWorked, Malformed, TakesWorked}

pub counts-worked : CountsWorked
unfolding worked whole sealed_of twenty bitmap_of counted bitmap_fits tag_fits sound crc_of covered renewed total checksum_of bit_step bits_of bits_from byte_step crc_from part splice join value digits field need bit_at free_from
counts-worked = record { free = refl; wholly = refl; fewer = refl; behind = refl; none = refl; untested = refl; longest = refl }

pub finds-worked : FindsWorked
unfolding worked twenty bitmap_of found nearest outward run_at all_in bitmap_fits tag_fits sound crc_of covered renewed total checksum_of bit_step bits_of bits_from byte_step crc_from part splice join value digits field need bit_at
finds-worked =
    record {
      tie = refl;
      above = refl;
      ahead = refl;
      within = refl;
      last = refl;
      none = refl;
      many = refl;
      empty = refl;
      outside = refl;
      malformed = refl;
      nowhere = refl;
    }

pub malformed : Malformed
unfolding worked sealed_of twenty bitmap_of counted bitmap_fits tag_fits sound crc_of covered renewed total checksum_of bit_step bits_of bits_from byte_step crc_from part splice join value digits field need
malformed =
    record {
      short = refl;
      identifier = refl;
      checksum = refl;
      crc = refl;
      least = refl;
      covered = refl;
      bytes = refl;
      bits = refl;
      past = refl;
    }

pub takes-worked : TakesWorked
unfolding worked whole twenty bitmap_of run_after changed set_bit run_verdict run_fits all_in counted bitmap_fits tag_fits sound crc_of covered renewed total checksum_of bit_step bits_of bits_from byte_step crc_from part splice join value digits field need bit_at free_from
takes-worked =
    record {
      taken = refl;
      given = refl;
      free = refl;
      accepted = refl;
      empty = refl;
      past = refl;
      allocated = refl;
      unallocated = refl;
      outside = refl;
      malformed = refl;
      kept = refl;
    }

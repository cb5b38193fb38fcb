-- The laws of the sparing table (document 01, "The sparing table"), as others cite them: each is proved in the file that its line names.
-- Assumes nothing.

-- membership of a list, and lists without repetition
pub use Rattle.model.proofs.SparingLists.{In, in_left, in_right, in_either, in_place_law, absent-not-in, not-in-absent, Distinct, distinct_append, tables-distinct}
-- flat and back, what the copy rule says, and a table as it is read
pub use Rattle.model.proofs.SparingEntries.{entries-flat, length-flat, fits-size, fits-originals, fits-ascending, fits-mapped, fits-clear, in-mapped, mapped-each, clear_at, clear-away, original-cases, originals-first, multiple-none, multiple-defective, free-means, defective-means, used-means, free-tests, defective-tests, used-tests, three-parts, first-free, free-not-defective, flat-table, table-count}
-- a table that was written reads back
pub use Rattle.model.proofs.SparingWritten.{written-name, written-suffix, length-written, written-sequence, written_count, written-table, written-fits}
-- the table once a packet, spared before or not, took the free entry of lowest index
pub use Rattle.model.proofs.SparingResorted.{Each, Above, Rising, rising, spot-used, turned-own, turned_none, used-parts, defective-parts, free-parts, each-used, each-defective, each_free, used-rise, resorted-parts, resorted-used, resorted-defective, resorted-free, resorted-length, resorted-starts, resorted-fits, spot-same, spot-other, turned-spared, turned-unspared}
-- packets, what lies outside the partition, and what belongs to a spare
pub use Rattle.model.proofs.SparingPlaces.{packet-multiple, packet-below, packet-less, packet-rest, packet-inside, packet-start, packet-own, packet-place}
pub use Rattle.model.proofs.SparingPlaces.{Whole, whole-means, Outside, outside-means, table-outside, free-whole, place-unmapped, packet-unmapped, spare-same, spare-packet}
-- where a block is
pub use Rattle.model.proofs.SparingPlaces.{start-multiple, locate-on, locate-apart, locate-packet, locate-not-table, locate-not-free, locate-not-defective, free-not-table, free_on, locate-spared, locate-unspared}
-- the copies that count, and the current ones
pub use Rattle.model.proofs.SparingCopies.{in_some, counting-counts, counts-counting, counting-below, some-highest, current-counting, current-table, current-sequence, sequence-current, current-is, current-some, current-distinct}
-- the order in which they are written
pub use Rattle.model.proofs.SparingCopies.{not-in-means, in-means, in-tested, not-in-tested, stale-in, stale-or, stale-or-current, copy-order-length, copy-order-in, copy-order-distinct, length-copies, copies-append}
-- two discs that agree at every table
pub use Rattle.model.proofs.SparingCopies.{SameAt, counts-agree, counting-agree, sequence-agree, current-sequence-agree, current-agree, current-table-agree, copies-agree}
-- a disc whose newest copies hold one table
pub use Rattle.model.proofs.SparingSettled.{sequence-below, counts-recorded, counts-fits, fits-counts, agree-means, agree-all, current-first, current-fits, flat-current, Settled, current-settled, settled-some, settled-sequence, settled-table, settled-agree}

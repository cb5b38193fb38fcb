-- `capi::tuormik_spare_packet` meets its contract: what is seen is the plan's. Assumes nothing.
use mathlib.Core.Path.{ap}
use Rattle.model.specs.declared.Record.{Record}
use Rattle.model.specs.Disc.{disc}
use Rattle.model.specs.Examine.{setting}
use Rattle.model.specs.Rewrite.{spare_plan}
use Rattle.capi.proofs.Laws.{seen-short, seen-met}
use Rattle.capi.proofs.tuormik_spare_packet.Goals as goal

pub returns-then-kept-ne-RECORD : goal.returns-then-kept-ne-RECORD
returns-then-kept-ne-RECORD c = seen-short _ _ _ _ _ _ c.if-kept-ne-RECORD.true c.number_of_lengths.ensures

pub returns : goal.returns
returns c = let a = c.args in
    seen-met _ _ _ _ c.if-kept-ne-RECORD.false
    (ap (λ (x : Record). spare_plan (setting a.maps.now a.s a.l) (disc a.disc.now a.marks.now) a.table.now x a.b a.packet.now) c.read_record-held.ensures)
    c.cut_of-cut.ensures
    c.spare_packet-reply.ensures
    c.keep_record.ensures
    c.number_of_reply.ensures

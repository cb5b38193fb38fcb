-- `list_step::step` meets its contract: each call by its plan, an opening by its law. Assumes nothing.
use Rattle.model.specs.Disc.{disc}
use Rattle.model.specs.Examine.{setting}
use Rattle.list_step.specs.Stepped.{state_of}
use Rattle.list_step.proofs.Stepping.{met-step, as-save-virtual, as-free-virtual, as-commit, as-save-block, as-save-packet, as-spare-packet, open_step}
use Rattle.list_step.proofs.step.Goals as goal

pub returns-in-SaveVirtual : goal.returns-in-SaveVirtual
returns-in-SaveVirtual c = let a = c.args in
    let e = setting a.maps.now a.s a.l in
    let st = state_of (disc a.disc.now a.marks.now) a.table.now a.held in
    met-step e st _ _ _ _ _ _ _ (as-save-virtual e st a.calling a.number a.cut a.bytes.now c.in-SaveVirtual.is) c.save_virtual.ensures c.answer_of.ensures

pub returns-in-FreeVirtual : goal.returns-in-FreeVirtual
returns-in-FreeVirtual c = let a = c.args in
    let e = setting a.maps.now a.s a.l in
    let st = state_of (disc a.disc.now a.marks.now) a.table.now a.held in
    met-step e st _ _ _ _ _ _ _ (as-free-virtual e st a.calling a.number a.cut a.bytes.now c.in-FreeVirtual.is) c.free_virtual.ensures c.answer_of-in-FreeVirtual.ensures

pub returns-in-Commit : goal.returns-in-Commit
returns-in-Commit c = let a = c.args in
    let e = setting a.maps.now a.s a.l in
    let st = state_of (disc a.disc.now a.marks.now) a.table.now a.held in
    met-step e st _ _ _ _ _ _ _ (as-commit e st a.calling a.number a.cut a.bytes.now c.in-Commit.is) c.commit.ensures c.answer_of-in-Commit.ensures

pub returns-in-SaveBlock : goal.returns-in-SaveBlock
returns-in-SaveBlock c = let a = c.args in
    let e = setting a.maps.now a.s a.l in
    let st = state_of (disc a.disc.now a.marks.now) a.table.now a.held in
    met-step e st _ _ _ _ _ _ _ (as-save-block e st a.calling a.number a.cut a.bytes.now c.in-SaveBlock.is) c.save_block.ensures c.answer_of-in-SaveBlock.ensures

pub returns-in-SavePacket : goal.returns-in-SavePacket
returns-in-SavePacket c = let a = c.args in
    let e = setting a.maps.now a.s a.l in
    let st = state_of (disc a.disc.now a.marks.now) a.table.now a.held in
    met-step e st _ _ _ _ _ _ _ (as-save-packet e st a.calling a.number a.cut a.bytes.now c.in-SavePacket.is) c.save_packet.ensures c.answer_of-in-SavePacket.ensures

pub returns-in-SparePacket : goal.returns-in-SparePacket
returns-in-SparePacket c = let a = c.args in
    let e = setting a.maps.now a.s a.l in
    let st = state_of (disc a.disc.now a.marks.now) a.table.now a.held in
    met-step e st _ _ _ _ _ _ _ (as-spare-packet e st a.calling a.number a.cut a.bytes.now c.in-SparePacket.is) c.spare_packet.ensures c.answer_of-in-SparePacket.ensures

pub returns-in-Open : goal.returns-in-Open
returns-in-Open c = let a = c.args in
    let e = setting a.maps.now a.s a.l in
    let st = state_of (disc a.disc.now a.marks.now) a.table.now a.held in
    open_step e st a.calling a.number a.cut a.bytes.now _ _ _ c.in-Open.is c.open.ensures.answer c.open.ensures.table c.answer_of_opening.ensures

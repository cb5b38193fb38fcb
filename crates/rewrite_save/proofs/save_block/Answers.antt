-- `rewrite_save::save_block` meets its contract: each return by the law of its way out. Assumes nothing.
use native.Mathlib.Omega.{arith}
use borrow.Author.Rules.{rules}
use Rattle.rewrite_save.proofs.Saves.{block-refused, block-sure, block-whole, block-cut, block-done}
use Rattle.rewrite_save.proofs.save_block.Goals as goal

pub returns-in_err-first : goal.returns-in_err-first
returns-in_err-first c = block-refused _ _ _ _ _ _ c.in_err-first.ensures (search rules)

pub write_block-requires : goal.write_block-requires
write_block-requires c =
    let h = c.in_ok-first.ensures in
    let sure = block-sure _ _ _ _ _ c.args.cut h in
    record { first_in_bounds = (sure.on, omega arith, sure.told.few); disc_len = sure.told.shape; block_len = block-whole _ _ _ _ _ c.args.cut h }

pub returns-then-is_struck : goal.returns-then-is_struck
returns-then-is_struck c = block-cut _ _ _ _ _ _ c.in_ok-first.ensures c.is_struck.ensures c.write_block.ensures c.if-is_struck.true

pub returns : goal.returns
returns c = block-done _ _ _ _ _ _ c.in_ok-first.ensures c.is_struck.ensures c.write_block.ensures c.if-is_struck.false

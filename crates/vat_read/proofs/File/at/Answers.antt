-- `vat_read::File::at` meets its contract. Assumes nothing.
use Rattle.std.proofs.Common.{refl}
use Rattle.vat_read.proofs.Laws.{lent_sector, found}
use Rattle.vat_read.proofs.File.at.Goals as goal

pub invariant_of-result : goal.invariant_of-result
invariant_of-result c = let p = c.requires in
    record { entry = (found _ _ _ _ _ p.lent p.k_in_bounds p.k_value c.sector_of.ensures (lent_sector _ _ _ _ _ refl refl)).filed.entry }

pub invariant_of-result-2 : goal.invariant_of-result-2
invariant_of-result-2 c = let p = c.requires in
    record { filed = (found _ _ _ _ _ p.lent p.k_in_bounds p.k_value c.sector_of.ensures (lent_sector _ _ _ _ _ refl refl)).filed }

pub returns-clause-file : goal.returns-clause-file
returns-clause-file c = let p = c.requires in
    (found _ _ _ _ _ p.lent p.k_in_bounds p.k_value c.sector_of.ensures (lent_sector _ _ _ _ _ refl refl)).file

pub returns-clause-long : goal.returns-clause-long
returns-clause-long c = let p = c.requires in
    (found _ _ _ _ _ p.lent p.k_in_bounds p.k_value c.sector_of.ensures (lent_sector _ _ _ _ _ refl refl)).long

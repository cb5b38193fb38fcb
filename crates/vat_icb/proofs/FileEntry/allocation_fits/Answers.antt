use Rattle.std.proofs.Common.{sym, ap, ◌∙◌, ℕ, ◌%◌, arith}
use Rattle.vat_icb.proofs.Laws.{allocation_extents}
use Rattle.vat_icb.proofs.FileEntry.allocation_fits.Goals as goal

pub returns-then-bytes-eq0 : goal.returns-then-bytes-eq0
returns-then-bytes-eq0 c bytes = c.extents_fit.ensures bytes ∙ allocation_extents _ _ _ _ (λ e. absurd (omega (arith, c.in-ShortAds.ensures))) (sym (ap (λ (n : ℕ). n % 8) c.allocation-bytes.ensures.1) ∙ c.if-bytes-eq0.true)

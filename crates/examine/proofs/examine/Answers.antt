-- `examine::examine` meets its contract: each return by the law of its line. Assumes nothing.
use Rattle.std.proofs.Common.{◌≡◌, sym, ◌∙◌}
use borrow.Author.Rules.{rules}
use Rattle.std.specs.Prelude.{Err}
use Rattle.examine.proofs.Laws.{read-in, examine-shape, examine-span, examine-lent, examine-maps, examine-misaligned, examine-placed}
use Rattle.examine.proofs.examine.Goals as goal

-- each return by the law of its line: lines 1 and 2 as they came out, then the others up to it
pub returns-then-not-shapely : goal.returns-then-not-shapely
returns-then-not-shapely c = examine-shape _ _ _ (sym c.is_shapely-shapely.ensures ∙ c.if-not-shapely.true)

pub returns-then-not-inside : goal.returns-then-not-inside
returns-then-not-inside c = examine-span _ _ _ (sym c.is_shapely-shapely.ensures ∙ c.if-not-shapely.false) (sym (c.is_inside-inside.ensures _) ∙ c.if-not-inside.true)

pub returns-then-not-lent : goal.returns-then-not-lent
returns-then-not-lent c =
    examine-lent _ _ _ (sym c.is_shapely-shapely.ensures ∙ c.if-not-shapely.false) (sym (c.is_inside-inside.ensures _) ∙ c.if-not-inside.false) c.if-not-lent.true

pub returns-in_err-found : goal.returns-in_err-found
returns-in_err-found c =
    let e : c.from_residual.result ≡ Err c.in_err-found.field-0.0 = search rules in
    e
    ∙ examine-maps _ _ _ (sym c.is_shapely-shapely.ensures ∙ c.if-not-shapely.false) (sym (c.is_inside-inside.ensures _) ∙ c.if-not-inside.false) c.if-not-lent.false
    c.read_maps.ensures
    c.in_err-found.was

pub is_placed-requires : goal.is_placed-requires
is_placed-requires c = read-in _ c.read_maps.ensures c.in_ok-found.was

pub returns-then-not-is_placed : goal.returns-then-not-is_placed
returns-then-not-is_placed c =
    examine-misaligned _ _ _ (sym c.is_shapely-shapely.ensures ∙ c.if-not-shapely.false) (sym (c.is_inside-inside.ensures _) ∙ c.if-not-inside.false) c.if-not-lent.false
    c.read_maps.ensures
    c.in_ok-found.was
    c.is_placed.ensures
    c.if-not-is_placed.true

pub returns : goal.returns
returns c =
    examine-placed _ _ _ (sym c.is_shapely-shapely.ensures ∙ c.if-not-shapely.false) (sym (c.is_inside-inside.ensures _) ∙ c.if-not-inside.false) c.if-not-lent.false
    c.read_maps.ensures
    c.in_ok-found.was
    c.is_placed.ensures
    c.if-not-is_placed.false

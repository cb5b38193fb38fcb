-- `sparing_written::write_spared` meets its contract: the fields, then the entries, which are the resorted ones. Assumes nothing.
use Rattle.std.proofs.Common.{◌≡◌, ℕ, ◌*◌, ◌<◌, false, List, Option, Some, None, IsSome, length, take, sym, ap, ◌∙◌, arith, rules}
use Rattle.std.specs.List.{position}
use Rattle.fields.specs.Bytes.{splice}
use Rattle.fields.specs.Number.{quads}
use Rattle.model.specs.Vat.{none}
use Rattle.model.specs.Sparing.{entries, flat, free_of, resorted}
use Rattle.model.specs.Rewrite.{no_entry}
use Rattle.model.proofs.Basics.{differ}
use Rattle.sparing_table.specs.Table.{has, place_where}
use Rattle.sparing_table.proofs.Table.{entry-missing, free-missing, free-none, place_some}
use Rattle.sparing_written.proofs.Resorted.{spared-within, length-resorted}
use Rattle.sparing_written.proofs.Written.{table-written}
use Rattle.sparing_written.proofs.write_spared.Goals as goal

-- where one is free it is found
free-found : (l : List ℕ) (r : Option ℕ) → r ≡ position (has 0xffffffff) (entries l) → no_entry (free_of (entries l)) ≡ false → IsSome r
unfolding none
free-found l (Some i) e s = search rules
free-found l None e s = differ (free-none (free_of (entries l)) (free-missing (entries l) (entry-missing (has none) l (sym e)))) s

pub unwrap-free-requires : goal.unwrap-free-requires
unwrap-free-requires c = free-found (take (2 * c.args.r) c.args.table.now) _ c.find_entry.ensures.value c.requires.ordered.some

-- its place
free-place : (l : List ℕ) (i : ℕ) (r : Option ℕ) → r ≡ position (has 0xffffffff) (entries l) → r ≡ Some i → i ≡ place_where (has none) (entries l)
unfolding none
free-place l i r e q = sym (place_some (has none) l i (sym e ∙ q))

pub put_taken-requires : goal.put_taken-requires
unfolding none
put_taken-requires c =
    let a = c.args in
    let p = c.requires in
    let free = c.unwrap-free in
    let place = free-place (take (2 * a.r) a.table.now) free.result _ c.find_entry.ensures.value free.ensures in
    let within : free.result < a.r = spared-within a.table.now a.r free.result p.r_bound.1 p.ordered place in
    record {
      free_lt_n = (within, p.r_bound.1, omega (arith, c.begin_table.auto.sector), p.r_bound.2);
      free_value = place;
      ordered = p.ordered;
    }

pub returns : goal.returns
returns c =
    let a = c.args in
    let p = c.requires in
    let t : List ℕ = a.table.now in
    let l : List ℕ = flat (resorted (entries (take (2 * a.r) t)) a.p.0) in
    let e : length l ≡ 2 * a.r = length-resorted t a.r c.unwrap-free.result p.r_bound.1 p.ordered (free-place (take (2 * a.r) t) c.unwrap-free.result _ c.find_entry.ensures.value c.unwrap-free.ensures) a.p.0 p.r_bound.2 in
    c.put_taken.ensures
    ∙ ap (λ (s : List ℕ). splice s 56 (quads l)) c.begin_table.ensures
    ∙ table-written a.sequence a.r l (omega arith) (omega arith)

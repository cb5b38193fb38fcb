-- `sparing_written::put_taken` meets its contract: the parts that are written, of a packet that has an entry and of one that has none, are the
-- resorted table. Assumes nothing.
use Rattle.std.proofs.Common.{◌≡◌, ℕ, ◌+◌, ◌*◌, ◌<◌, ◌≤◌, List, Option, Some, length, take, unwrap_or, sym, ap, ◌∙◌, arith, length-take}
use Rattle.std.specs.List.{position}
use Rattle.fields.specs.Bytes.{splice}
use Rattle.fields.specs.Number.{quads}
use Rattle.model.specs.Vat.{none}
use Rattle.model.specs.Sparing.{entries}
use Rattle.sparing_table.specs.Table.{has, above, place_where}
use Rattle.sparing_table.proofs.Table.{entry-missing, lent_length, place_some, place_or}
use Rattle.sparing_written.proofs.Resorted.{spared-before, spared-is, respared-before, respared-is}
use Rattle.sparing_written.proofs.put_taken.Goals as goal

-- the packet has an entry, at this place
module _ (t : List ℕ) (n p i : ℕ) (r : Option ℕ) (value : r ≡ position (has p) (entries (take (2 * n) t))) (is : r ≡ Some i) where
  own-place : i ≡ place_where (has p) (entries (take (2 * n) t))
  own-place = sym (place_some (has p) (take (2 * n) t) i (sym value ∙ is))

  own-there : 2 * i + 2 ≤ length (take (2 * n) t) → i < n
  own-there h = omega (arith, length-take (2 * n) t)

-- it has none, and is to stand at this place
above-place : (t : List ℕ) (n p k : ℕ) (r : Option ℕ) → 2 * n ≤ length t → r ≡ position (above p) (entries (take (2 * n) t)) → k ≡ unwrap_or r n → k ≡ place_where (above p) (entries (take (2 * n) t))
above-place t n p k r fits value e =
    e ∙ ap (λ (x : Option ℕ). unwrap_or x n) value ∙ place_or (above p) (take (2 * n) t) n (lent_length t n fits)

pub put_respared-requires : goal.put_respared-requires
unfolding none
put_respared-requires c = let a = c.args in
    let q = c.requires.free_lt_n in
    let own = c.in-Some.own in
    let there = own-there a.table.now a.n a.p.0 own _ c.find_entry.ensures.value c.in-Some.is (rw c.in-Some.is at c.find_entry.ensures.bound) in
    (respared-before a.table.now a.n a.free q.1 c.requires.ordered c.requires.free_value a.p.0 q.3 own (own-place a.table.now a.n a.p.0 own _ c.find_entry.ensures.value c.in-Some.is) there, q.0, q.1, q.2)

pub returns-in-Some : goal.returns-in-Some
unfolding none
returns-in-Some c = let a = c.args in
    let q = c.requires.free_lt_n in
    let own = c.in-Some.own in
    let there = own-there a.table.now a.n a.p.0 own _ c.find_entry.ensures.value c.in-Some.is (rw c.in-Some.is at c.find_entry.ensures.bound) in
    c.put_respared.ensures
    ∙ ap (λ (l : List ℕ). splice a.sector.now 56 (quads l))
    (sym (respared-is a.table.now a.n a.free q.1 c.requires.ordered c.requires.free_value a.p.0 q.3 own (own-place a.table.now a.n a.p.0 own _ c.find_entry.ensures.value c.in-Some.is) there))

pub put_spared-requires : goal.put_spared-requires
unfolding none
put_spared-requires c = let a = c.args in
    let q = c.requires.free_lt_n in
    let place = above-place a.table.now a.n a.p.0 c.unwrap_or-place.result _ q.1 c.find_above.ensures.value c.unwrap_or-place.ensures in
    (spared-before a.table.now a.n a.free q.1 c.requires.ordered c.requires.free_value a.p.0 q.3 c.unwrap_or-place.result place (entry-missing (has a.p.0) (take (2 * a.n) a.table.now) (sym c.find_entry.ensures.value ∙ c.in-None.is)), q.0, q.1, q.2)

pub returns-in-None : goal.returns-in-None
unfolding none
returns-in-None c = let a = c.args in
    let q = c.requires.free_lt_n in
    let place = above-place a.table.now a.n a.p.0 c.unwrap_or-place.result _ q.1 c.find_above.ensures.value c.unwrap_or-place.ensures in
    c.put_spared.ensures
    ∙ ap (λ (l : List ℕ). splice a.sector.now 56 (quads l))
    (sym (spared-is a.table.now a.n a.free q.1 c.requires.ordered c.requires.free_value a.p.0 q.3 c.unwrap_or-place.result place (entry-missing (has a.p.0) (take (2 * a.n) a.table.now) (sym c.find_entry.ensures.value ∙ c.in-None.is))))

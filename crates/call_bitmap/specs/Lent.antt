-- What C sees of the calls that are lent a result (02, slip 10): one number; a result of another length belongs to line 3.
use Rattle.std.specs.Prelude.{ℕ, cond, List, length, eqb, Result, Ok, Err}
use Rattle.refusal.specs.declared.Refusal.{Refusal}
use Rattle.refusal.specs.declared.Refusal.TheVariants.{LentLength}
use Rattle.bitmap.specs.Counted.{counted, counted_values}
use Rattle.bitmap_find.specs.Nearest.{found, found_values}

-- what counting answers that is lent the result
unfoldable pub lent_count : List ℕ → ℕ → List ℕ → Result ℕ Refusal
lent_count b l result = cond (eqb (length result) 1) (counted b l) (Err LentLength)

-- the lent result after it
abbrev pub counted_after : Result ℕ Refusal → List ℕ → List ℕ
counted_after (Ok n) result = counted_values (Ok n)
counted_after (Err why) result = result

-- what finding answers that is lent the result
unfoldable pub lent_find : List ℕ → ℕ → ℕ → ℕ → List ℕ → Result ℕ Refusal
lent_find b l w near result = cond (eqb (length result) 1) (found b l w near) (Err LentLength)

-- the lent result after it
abbrev pub found_after : Result ℕ Refusal → List ℕ → List ℕ
found_after (Ok f) result = found_values (Ok f)
found_after (Err why) result = result

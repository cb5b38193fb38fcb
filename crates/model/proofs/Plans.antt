-- Laws of plans: what a call shows, by the way it ends. Assumes nothing.
use Prim.Native.Nat.{ℕ}
use mathlib.Core.Path.{◌≡◌}
use mathlib.Core.List.{List}
use mathlib.Core.Bool.{true, false}
use lib.ListN.{length}
use Rattle.refusal.specs.declared.Refusal.{Refusal}
use Rattle.model.specs.declared.Cut.{Cut}
use Rattle.model.specs.declared.Record.{Record}
use Rattle.model.specs.declared.Reply.{Reply}
use Rattle.std.specs.Prelude.{Ok, Err}
use Rattle.model.specs.Disc.{Disc}
use Rattle.model.specs.Writes.{Write, writes, struck}
use Rattle.model.specs.Plan.{Plan, refuse, carry, reply_of, plan_number, disc_after, table_after, Meets}

-- a call that is turned down
pub refused : (p : Plan) (c : Cut) (d : Disc) (t : List ℕ) {why : Refusal} → p ≡ refuse why → Meets p c d t (Err why) d t
unfolding reply_of plan_number disc_after table_after
refused p c d t e = record { reply = rw e; number = rw e; disc = rw e; table = rw e }

-- a call at one of whose writes the power fails
pub cut_short : (p : Plan) (c : Cut) (d₀ : Disc) (t₀ : List ℕ) {ws : List Write} {t' : List ℕ} {r : Record} {d : Disc} → p ≡ carry ws t' r → struck c (length ws) ≡ true → d ≡ writes 1 c ws d₀ → Meets p c d₀ t₀ (Ok Reply.Cut) d t₀
unfolding reply_of plan_number disc_after table_after
cut_short p c d₀ t₀ e h w = record { reply = rw (e, h); number = rw (e, h); disc = rw e w; table = rw (e, h) }

-- a call that is carried out
pub carried : (p : Plan) (c : Cut) (d₀ : Disc) (t₀ : List ℕ) {ws : List Write} {t t' : List ℕ} {r r' : Record} {d : Disc} → p ≡ carry ws t' r' → struck c (length ws) ≡ false → d ≡ writes 1 c ws d₀ → r ≡ r' → t ≡ t' → Meets p c d₀ t₀ (Ok (Reply.Done r)) d t
unfolding reply_of plan_number disc_after table_after
carried p c d₀ t₀ e h w er et = record { reply = rw (e, h, er); number = rw (e, h); disc = rw e w; table = rw (e, h) et }

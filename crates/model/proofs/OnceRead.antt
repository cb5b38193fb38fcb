-- What holds between the calls on a write-once disc, and that reading then shows what the plain store does. Assumes nothing.
use Prim.Native.Nat.{ℕ, ◌≤◌, ◌<◌}
use mathlib.Core.Bool.{true}
use mathlib.Core.Path.{◌≡◌, sym, ap, ◌∙◌}
use mathlib.Core.List.{List}
use native.Mathlib.Omega.{arith}
use lib.ListN.{length, get_or, take}
use Rattle.std.specs.Prelude.{Ok}
use Rattle.maps.specs.Kinds.{read_maps}
use Rattle.model.specs.Vat.{all_below}
use Rattle.model.specs.Examine.{Setting, write_once}
use Rattle.model.specs.Once.{next_on, entries_held, next_held, last_held, held_fits}
use Rattle.model.specs.Calls.{State}
use Rattle.model.specs.Store.{Slot, unused, entry_slot, Store, look}
use Rattle.model.specs.Demand.{seen}
use Rattle.model.proofs.Scan.{icb-recorded}
use Rattle.model.proofs.Sectors.{nwa-above}
use Rattle.model.proofs.Once.{Kept}
use Rattle.model.proofs.OnceFits.{once_held, held-true, Fits, slots-count, slots_at, blocks_of, fits_read}
use Rattle.refusal.specs.Verdict.{verdict_of}

-- what holds between calls where the power did not fail: the record's last ICB is the topmost, its NWA is the disc's, and the table's blocks
-- are the plain store's
pub record Live (e : Setting) (st : State) (σ : Store) : Type 0 where
  pub once : once_held st.held ≡ true
  pub kept : Kept e.start e.span st.disc (last_held st.held) σ.copy
  pub top : next_held st.held ≡ next_on e st.disc
  pub fresh : all_below (next_held st.held) (take (entries_held st.held) st.table) ≡ true
  pub few : entries_held st.held ≤ 4096
  pub lent : 4096 ≤ length st.table
  pub now : blocks_of e st ≡ σ.blocks

-- the last ICB is below NWA
pub live-last : (e : Setting) (st : State) (σ : Store) → Live e st σ → last_held st.held < next_held st.held
unfolding next_on
live-last e st σ i =
    let w = i.kept.newest in
    rw i.top
    (nwa-above st.disc e.start e.span (last_held st.held) w.below (λ q. omega (arith, icb-recorded st.disc e.start (last_held st.held) w.here)))

pub live-held : (e : Setting) (st : State) (σ : Store) → Live e st σ → held_fits e st.disc st.table st.held ≡ true
live-held e st σ i = held-true e st.disc st.table st.held i.once i.top i.few i.fresh (live-last e st σ i)

-- N blocks
pub live-length : (e : Setting) (st : State) (σ : Store) → Live e st σ → length σ.blocks ≡ entries_held st.held
live-length e st σ i = ap length (sym i.now) ∙ slots-count st.disc e.start (entries_held st.held) st.table (omega (arith, i.few, i.lent))

-- block v is that of entry v
pub live-block : (e : Setting) (st : State) (σ : Store) → Live e st σ → (v : ℕ) → v < entries_held st.held
    → get_or σ.blocks v unused ≡ entry_slot st.disc e.start (get_or st.table v 0)
live-block e st σ i v h =
    ap (λ (l : List Slot). get_or l v unused) (sym i.now)
    ∙ slots_at st.disc e.start (entries_held st.held) st.table v (omega (arith, i.few, i.lent)) h

module _ (e : Setting) (once : write_once e ≡ true) (maps-go : verdict_of (read_maps e.maps) ≡ Ok tt) where
  -- lines 1 to 7 and 11 let a call go on
  pub live-fits : (st : State) (σ : Store) → Live e st σ → Fits e st
  live-fits st σ i =
      record {
        kind = once;
        maps = maps-go;
        shape = i.kept.shape;
        within = i.kept.within;
        lent = i.lent;
        once = i.once;
        top = i.top;
        few = i.few;
        fresh = i.fresh;
        last = live-last e st σ i;
      }

  -- reading shows what the plain store does
  pub read-once : (st : State) (σ : Store) → Live e st σ → (v : ℕ) (out : List ℕ) → length out ≡ 2048 → seen e st v out ≡ look σ v
  read-once st σ i v out long = fits_read e st (live-fits st σ i) v out long σ i.now

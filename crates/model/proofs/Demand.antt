-- Demand 3, for both kinds of disc. Assumes nothing.
use Rattle.model.specs.Examine.{write_once}
use Rattle.model.specs.Demand.{Demand3}
use Rattle.model.proofs.Basics.{by_bool}
use Rattle.model.proofs.OnceDemand.{once-demand}
use Rattle.model.proofs.ReadyDemand.{again-demand}

-- every opening is accepted, and every block reads as in the plain store
pub demand-3 : Demand3
unfolding Demand3
demand-3 e d t low a cs p =
    by_bool (write_once e)
    (λ one. once-demand e d t one a cs p)
    (λ again. again-demand e d t low again a cs p)

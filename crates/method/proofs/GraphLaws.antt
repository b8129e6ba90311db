-- The test of a decision against cycles of the rows themselves, and what the sweep's test reaches. Assumes nothing.
use mathlib.Core.Path.{◌≡◌}
use mathlib.Core.Bool.{true}
use mathlib.Core.List.{List, ◌∷◌, map}
use mathlib.Core.Logic.{◌↔◌}
use Rattle.graph.specs.Lists.{◌∈◌}
use Rattle.graph.specs.Path.{Cycle}
use Rattle.graph.specs.Acyclic.{acyclic}
use Rattle.graph.specs.Reached.{Reached}
use Rattle.graph.proofs.MapLaws.{mapped_cycle_iff}
use Rattle.graph.proofs.ReachedLaws.{reachedb→reached, reached→reachedb, reached_of_weaker}
use Rattle.orders.specs.Arrow.{Arrow, arrowb}
use Rattle.orders.proofs.ArrowLaws.{acyclic_iff_no_cycle}
use Rattle.method.specs.declared.Row.{Row}
use Rattle.method.specs.declared.Table.{Table}
use Rattle.method.specs.Records.{tickets_of, Goes, goesb}
use Rattle.method.specs.Slots.{kept}
use Rattle.method.specs.Conditions.{HeldBack, held_back}
use Rattle.method.specs.Effects.{stays}
use Rattle.method.proofs.ConditionLaws.{goes_iff, held_back_iff}

-- a decision's test passes exactly if the rows make no cycle
pub no_cycle_iff : (r : Row) (ks : List Row) → (acyclic arrowb (tickets_of r ∷ map tickets_of ks) ≡ true) ↔ (¬ Cycle Goes (r ∷ ks))
no_cycle_iff r ks = (
  λ e c. (acyclic_iff_no_cycle (map tickets_of (r ∷ ks))).0 e ((mapped_cycle_iff tickets_of (r ∷ ks) Arrow).0 c),
  λ n. (acyclic_iff_no_cycle (map tickets_of (r ∷ ks))).1 (λ c. n ((mapped_cycle_iff tickets_of (r ∷ ks) Arrow).1 c)),
)

-- a kept row stays in a sweep exactly if a path, possibly of no arrows, reaches it from one that is held back
pub stays_iff : (t : Table) (r : Row) → r ∈ kept t → (stays t r ≡ true) ↔ Reached Goes (HeldBack t) (kept t) r
unfolding stays
stays_iff t r m = (
  λ e. reached_of_weaker (λ a b. (goes_iff a b).0) (λ a. (held_back_iff t a).0) (reachedb→reached goesb (held_back t) (kept t) r m e),
  λ p. reached→reachedb goesb (held_back t) (kept t) r (reached_of_weaker (λ a b. (goes_iff a b).1) (λ a. (held_back_iff t a).1) p),
)

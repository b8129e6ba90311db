-- Every run keeps the invariant, whatever calls it makes; and so all that it ever committed has an order. Assumes nothing.
use mathlib.Core.List.{List}
use Prim.Native.Nat.{ℕ}
use Rattle.orders.specs.Good.{Apart}
use Rattle.orders.specs.Order.{InOrder}
use Rattle.orders.proofs.OrderLaws.{order_exists_iff_no_cycle}
use Rattle.invariant.specs.Invariant.{Invariant}
use Rattle.invariant.proofs.OpenLaws.{invariant_closed}
use Rattle.invariant.proofs.InvariantLaws.{invariant_step}
use Rattle.runs.specs.Run.{Run, Run.start, Run.call, after}
use Rattle.runs.specs.History.{history}

pub invariant_run : (r : Run) → Invariant (after r) (history r)
unfolding after history
invariant_run start = invariant_closed
invariant_run (call r c) = invariant_step (after r) (history r) c (invariant_run r)

-- all that was committed since the opening, forgotten ones too: different numbers, different tickets at each site, and an order
pub history_apart : (r : Run) → Apart (history r)
history_apart r = (invariant_run r).sound.apart

pub history_ordered : (r : Run) → (order : List ℕ) × InOrder (history r) order
history_ordered r = (order_exists_iff_no_cycle (history r) (history_apart r).numbers).1 (invariant_run r).sound.acyclic

-- How far the picking of an order has come, and what it gives. No public contract cites it.
use Rattle.std.specs.Prelude.{◌≡◌, true, false, List, ◌++◌, ℕ, ◌-◌, ◌/◌, length, take, Option, Some, None}
use Rattle.graph.specs.Acyclic.{acyclic}
use Rattle.graph.specs.Order.{write, greedy}
use Rattle.graph.specs.Smallest.{left}
use Rattle.orders.specs.Entries.{number_of, entry_arrowb, entries_in}
use Rattle.arrows.specs.Placed.{Marked}

-- k numbers are picked
pub record Placing (flat : List ℕ) (numbers : List ℕ) (w k : ℕ) : Type 0 where
  -- they are the front of the order; the rest of it is written of the rows that are left
  pub front : greedy entry_arrowb number_of (entries_in flat) ≡ take k numbers ++ write entry_arrowb number_of (length flat / 9 - k) (left number_of (entries_in flat) (take k numbers))
  -- a row's bit is set exactly if its number is picked
  pub marked : Marked flat w (take k numbers)

-- the numbers of all rows, as the greedy choice gives them; or the rows have no order
abbrev pub Picked : List ℕ → Option (List ℕ) → Type 0
Picked flat (Some numbers) = (length numbers ≡ 32) × (acyclic entry_arrowb (entries_in flat) ≡ true)
    × (take (length flat / 9) numbers ≡ greedy entry_arrowb number_of (entries_in flat))
Picked flat None = acyclic entry_arrowb (entries_in flat) ≡ false

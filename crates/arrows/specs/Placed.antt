-- What is placed of an order, as a word: bit i says that row i is. Check and writer both keep such a word. No public contract that a user
-- meets cites it.
use Rattle.std.specs.Prelude.{◌≡◌, Bool, not, ◌&&◌, List, ℕ, ◌/◌, ◌<◌, length}
use Rattle.graph.specs.Smallest.{placed}
use Rattle.words.specs.Word.{has}
use Rattle.words.specs.Below.{any_below}
use Rattle.orders.specs.Entries.{number_of, entry_at}
use Rattle.arrows.specs.Preds.{leads}

-- a row's bit is set exactly if its number stands in `before`
abbrev pub Marked : List ℕ → ℕ → List ℕ → Type 0
Marked flat w before = (i : ℕ) → i < length flat / 9 → has w i ≡ placed number_of before (entry_at flat i)

-- row j is not placed, and goes before row i
abbrev pub waits : List ℕ → ℕ → ℕ → ℕ → Bool
waits flat w i j = not (has w j) && leads flat i j

-- row i may stand at the next place: it is not placed, and waits for no row
unfoldable pub may_stand : List ℕ → ℕ → ℕ → Bool
may_stand flat w i = not (has w i) && not (any_below (waits flat w i) (length flat / 9))

-- What the functions inside this crate find of one number of the order. No public contract cites it.
use Rattle.std.specs.Prelude.{◌≡◌, Bool, false, List, ℕ, ◌/◌, ◌<◌, length, Option, Some, None}
use Rattle.orders.specs.Entries.{entry_at}
use Rattle.arrows.specs.Placed.{may_stand}

-- row i has the number n; or none has it
abbrev pub RowOf : List ℕ → ℕ → Option ℕ → Type 0
RowOf flat n (Some i) = (i < length flat / 9) × ((entry_at flat i).number ≡ n)
RowOf flat n None = (j : ℕ) → j < length flat / 9 → (entry_at flat j).number ≡ n → ⊥

-- that row may stand behind those of the word; a number that no row has stands nowhere
abbrev pub row_stands : List ℕ → ℕ → Option ℕ → Bool
row_stands flat w (Some i) = may_stand flat w i
row_stands flat w None = false

-- Which row the writer of an order places next, asked of the rows by their places in the flat list. No public contract cites it.
use Rattle.std.specs.Prelude.{◌≡◌, Bool, true, false, cond, List, ℕ, zero, suc, ◌/◌, ◌<◌, ◌≤◌, ltb, length, Option, Some, None}
use Rattle.orders.specs.Entries.{entry_at}
use Rattle.arrows.specs.Placed.{may_stand}

-- of the best place so far and place j the one with the smaller number
abbrev pub lower : (ℕ → ℕ) → Option ℕ → ℕ → Option ℕ
lower num None j = Some j
lower num (Some b) j = cond (ltb (num j) (num b)) (Some j) (Some b)

module _ (may : ℕ → Bool) (num : ℕ → ℕ) where
  -- of the places below k that pass, b has the smallest number; or none passes
  abbrev pub Least : ℕ → Option ℕ → Type 0
  Least k (Some b) = (b < k) × (may b ≡ true) × ((j : ℕ) → j < k → may j ≡ true → num b ≤ num j)
  Least k None = (j : ℕ) → j < k → may j ≡ false

  -- the same, computed
  unfoldable pub least_below : ℕ → Option ℕ
  least_below zero = None
  least_below (suc k) = cond (may k) (lower num (least_below k) k) (least_below k)

abbrev pub number_at : List ℕ → ℕ → ℕ
number_at flat i = (entry_at flat i).number

-- the row to place next, by the word of those that are placed
abbrev pub next_of : List ℕ → ℕ → Option ℕ
next_of flat w = least_below (may_stand flat w) (number_at flat) (length flat / 9)

-- What the greedy choice promises at each place, said of the numbers that stand before it.
use Rattle.std.specs.Prelude.{◌≡◌, Bool, not, List, ℕ, ◌≤◌, eqb, take}
use Rattle.graph.specs.Lists.{◌∈◌, At, any_of, keep}

module _ {A : Type 0} (Arrow : A → A → Type 0) (num : A → ℕ) (rows : List A) where
  -- the numbers of all rows with an arrow to x stand before
  abbrev pub Ready : List ℕ → A → Type 0
  Ready before x = (y : A) → y ∈ rows → Arrow y x → num y ∈ before

  -- x is the row to place next: not placed, ready, and of those rows the one with the smallest number
  pub record NextAfter (before : List ℕ) (x : A) : Type 0 where
    pub row : x ∈ rows
    pub new : num x ∈ before → ⊥
    pub ready : Ready before x
    pub least : (y : A) → y ∈ rows → (num y ∈ before → ⊥) → Ready before y → num x ≤ num y

  -- at each place of the order stands the number of the row to place next
  abbrev pub SmallestFirst : List ℕ → Type 0
  SmallestFirst order = (i n : ℕ) → At order i n → (x : A) × (num x ≡ n) × NextAfter (take i order) x

module _ {A : Type 0} (num : A → ℕ) where
  -- the row's number stands in the list
  abbrev pub placed : List ℕ → A → Bool
  placed before r = any_of (λ n. eqb (num r) n) before

  -- the rows not yet placed
  unfoldable pub left : List A → List ℕ → List A
  left rows before = keep (λ r. not (placed before r)) rows

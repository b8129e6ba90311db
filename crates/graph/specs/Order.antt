-- An order of numbered rows that agrees with their arrows (the meaning), and the greedy choice of one (the computation).
use Rattle.std.specs.Prelude.{◌≡◌, Bool, not, cond, List, [], ◌∷◌, ℕ, zero, suc, ◌<◌, ltb, eqb, length}
use Rattle.std.proofs.Math.Option.{Option, none, some}
use Rattle.graph.specs.Lists.{◌∈◌, At, Once, keep}
use Rattle.graph.specs.Acyclic.{into}

-- A list of numbers is an order of the rows
pub record OrderOf {A : Type 0} (Arrow : A → A → Type 0) (num : A → ℕ) (rows : List A) (order : List ℕ) : Type 0 where
  -- no number stands at two places
  pub once : Once order
  -- each row's number stands at some place
  pub each : (x : A) → x ∈ rows → (i : ℕ) × At order i (num x)
  -- and no other number does
  pub only : (n i : ℕ) → At order i n → (x : A) × (x ∈ rows) × (num x ≡ n)
  -- an arrow goes from an earlier place to a later one
  pub arrows : (x y : A) → x ∈ rows → y ∈ rows → Arrow x y → (i j : ℕ) → At order i (num x) → At order j (num y) → i < j

module _ {A : Type 0} (num : A → ℕ) where
  -- rows with the same number are the same row
  abbrev pub Distinct : List A → Type 0
  Distinct rows = (x y : A) → x ∈ rows → y ∈ rows → num x ≡ num y → x ≡ y

  -- the row with the smallest number, the first of them
  abbrev pub lesser : A → Option A → A
  lesser x none = x
  lesser x (some y) = cond (ltb (num y) (num x)) y x

  abbrev pub least : List A → Option A
  least [] = none
  least (x ∷ xs) = some (lesser x (least xs))

  -- the rows with another number than x has
  abbrev pub without : A → List A → List A
  without x rs = keep (λ r. not (eqb (num r) (num x))) rs

module _ {A : Type 0} (arrow : A → A → Bool) (num : A → ℕ) where
  -- of the rows not yet placed, the one with the smallest number that none of them has an arrow to
  unfoldable pub next : List A → Option A
  next rs = least num (keep (λ r. not (into arrow rs r)) rs)

  -- the next row's number, and so on, at most k numbers
  unfoldable pub write : ℕ → List A → List ℕ
  write zero rs = []
  write (suc k) rs = elim (next rs) [ none ↦ [] | some x ↦ num x ∷ write k (without num x rs) ]

  unfoldable pub greedy : List A → List ℕ
  greedy rows = write (length rows) rows

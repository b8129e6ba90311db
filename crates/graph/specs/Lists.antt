-- Members and places of a list, and the members that pass a test. Rests on the library's lists.
use Rattle.std.specs.Prelude.{◌≡◌, Bool, true, false, ℕ, zero, suc}
use Rattle.std.specs.Prelude.{filter}
use Rattle.std.specs.List.{list_any}
use mathlib.Core.List.{List, [], ◌∷◌, Memᴰ}

infix 4 ◌∈◌ ◌⊆◌
-- a stands in the list, at the place that the proof says
abbrev pub ◌∈◌ : {A : Type 0} → A → List A → Type 0
a ∈ rs = Memᴰ a rs

abbrev pub ◌⊆◌ : {A : Type 0} → List A → List A → Type 0
◌⊆◌ {A} rs qs = (a : A) → a ∈ rs → a ∈ qs

module _ {A : Type 0} where
  -- place i of the list holds a; places count from 0
  abbrev pub At : List A → ℕ → A → Type 0
  At [] i a = ⊥
  At (x ∷ l) zero a = x ≡ a
  At (x ∷ l) (suc i) a = At l i a

  -- no two places hold the same
  abbrev pub Once : List A → Type 0
  Once l = (a : A) (i j : ℕ) → At l i a → At l j a → i ≡ j

  -- some member passes
  abbrev pub any_of : (A → Bool) → List A → Bool
  any_of f xs = list_any f xs

  -- the members that pass, in their sequence
  abbrev pub keep : (A → Bool) → List A → List A
  keep f xs = filter f xs

  abbrev pub is_nil : List A → Bool
  is_nil [] = true
  is_nil (x ∷ xs) = false

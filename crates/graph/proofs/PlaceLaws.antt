-- Places of a list and its members: `get_or`, `At` and `∈` say the same. Assumes nothing.
use mathlib.Core.Path.{◌≡◌, refl, sym}
use mathlib.Core.List.Memᴰ.{head as here}
use mathlib.Core.List.Memᴰ.{tail as there}
use mathlib.Core.List.{List, [], ◌∷◌}
use Prim.Native.Nat.{ℕ, zero, suc, ◌<◌}
use native.Mathlib.Nat.{not-suc-le-zero, le_of_suc-le-suc}
use native.Mathlib.Omega.{arith}
use lib.ListN.{length, get_or, take}
use Rattle.graph.specs.Lists.{◌∈◌, At}
use Rattle.graph.specs.Order.{Distinct}

module _ {A : Type 0} where
  pub member_of_place : (rs : List A) (i : ℕ) (d : A) → i < length rs → get_or rs i d ∈ rs
  member_of_place [] i d h = absurd (not-suc-le-zero h)
  member_of_place (x ∷ xs) zero d h = here refl
  member_of_place (x ∷ xs) (suc i) d h = there (member_of_place xs i d (le_of_suc-le-suc h))

  pub place_of_member : {a : A} {rs : List A} (d : A) → a ∈ rs → (i : ℕ) × (i < length rs) × (get_or rs i d ≡ a)
  place_of_member d (here {xs = ys} e) = (zero, omega arith, sym e)
  place_of_member d (there m) = let (i, h, e) = place_of_member d m in (suc i, omega arith, e)

  pub at_of_place : (l : List A) (i : ℕ) (d : A) → i < length l → At l i (get_or l i d)
  at_of_place [] i d h = absurd (not-suc-le-zero h)
  at_of_place (x ∷ l) zero d h = refl
  at_of_place (x ∷ l) (suc i) d h = at_of_place l i d (le_of_suc-le-suc h)

  pub place_of_at : (l : List A) (i : ℕ) (a d : A) → At l i a → (i < length l) × (get_or l i d ≡ a)
  place_of_at [] i a d p = absurd p
  place_of_at (x ∷ l) zero a d p = (omega arith, p)
  place_of_at (x ∷ l) (suc i) a d p = let (h, e) = place_of_at l i a d p in (omega arith, e)

  pub at_of_member : {a : A} {l : List A} → a ∈ l → (i : ℕ) × At l i a
  at_of_member (here e) = (zero, sym e)
  at_of_member (there m) = let (i, p) = at_of_member m in (suc i, p)

  pub member_of_at : (l : List A) (i : ℕ) {a : A} → At l i a → a ∈ l
  member_of_at [] i p = absurd p
  member_of_at (x ∷ l) zero p = here (sym p)
  member_of_at (x ∷ l) (suc i) p = there (member_of_at l i p)

  pub same_of_at : (l : List A) (i : ℕ) (a b : A) → At l i a → At l i b → a ≡ b
  same_of_at [] i a b p q = absurd p
  same_of_at (x ∷ l) zero a b p q = cc
  same_of_at (x ∷ l) (suc i) a b p q = same_of_at l i a b p q

  -- the places of the first k
  pub at_of_take : (k : ℕ) (l : List A) (i : ℕ) (a : A) → At (take k l) i a → (i < k) × At l i a
  at_of_take zero l i a p = absurd p
  at_of_take (suc k) [] i a p = absurd p
  at_of_take (suc k) (x ∷ l) zero a p = (omega arith, p)
  at_of_take (suc k) (x ∷ l) (suc i) a p = let (h, q) = at_of_take k l i a p in (omega arith, q)

  pub take_of_at : (k : ℕ) (l : List A) (i : ℕ) (a : A) → i < k → At l i a → At (take k l) i a
  take_of_at zero l i a h p = absurd (not-suc-le-zero h)
  take_of_at (suc k) [] i a h p = absurd p
  take_of_at (suc k) (x ∷ l) zero a h p = p
  take_of_at (suc k) (x ∷ l) (suc i) a h p = take_of_at k l i a (le_of_suc-le-suc h) p

  -- rows are distinct where no two places have rows with the same number
  pub distinct_of_places : (num : A → ℕ) (rows : List A) → ((i j : ℕ) (x y : A) → At rows i x → At rows j y → num x ≡ num y → i ≡ j) → Distinct num rows
  distinct_of_places num rows h x y m n e =
      let (i, p) = at_of_member m in
      let (j, q) = at_of_member n in
      same_of_at rows j x y (rw (h i j x y p q e) at p) q

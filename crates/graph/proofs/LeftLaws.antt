-- The rows not yet placed: which they are, and how they grow fewer. Assumes nothing.
use mathlib.Core.Path.{◌≡◌, refl}
use mathlib.Core.Bool.{Bool, true, false, not, cond, ◌&&◌, ◌||◌}
use mathlib.Core.List.Memᴰ
use mathlib.Core.List.{List, [], ◌∷◌, ◌++◌}
use Prim.Native.Nat.{ℕ}
use lib.Dec.{eqb}
use borrow.Author.Tests.{eqb-true, eq-eqb}
use Rattle.graph.specs.Lists.{◌∈◌, ◌⊆◌, any_of, keep}
use Rattle.graph.specs.Order.{without}
use Rattle.graph.specs.Smallest.{placed, left}
use Rattle.graph.proofs.TestLaws.{not_of_false, false_of_not, false_of_not_true, true_not_false}
use Rattle.graph.proofs.MemberLaws.{any_of_member, member_of_any, kept_of_member, member_of_kept}

module _ {A : Type 0} where
  pub any_append : (f : A → Bool) (s t : List A) → any_of f (s ++ t) ≡ any_of f s || any_of f t
  any_append f [] t = refl
  any_append f (x ∷ s) t = go (f x) (any_append f s t)
    where
      go : (b : Bool) → any_of f (s ++ t) ≡ any_of f s || any_of f t → b || any_of f (s ++ t) ≡ b || any_of f s || any_of f t
      go true e = refl
      go false e = e

  -- one test after another is one test
  pub keep_keep : (f g h : A → Bool) → ((x : A) → h x ≡ f x && g x) → (rs : List A) → keep g (keep f rs) ≡ keep h rs
  keep_keep f g h e [] = refl
  keep_keep f g h e (x ∷ xs) = rw (e x) (go (f x) (g x) refl (keep_keep f g h e xs))
    where
      go : (b c : Bool) → g x ≡ c → keep g (keep f xs) ≡ keep h xs → keep g (cond b (x ∷ keep f xs) (keep f xs)) ≡ cond (b && c) (x ∷ keep h xs) (keep h xs)
      go true true p q = rw (p, q)
      go true false p q = rw (p, q)
      go false c p q = q

  pub keep_all : (f : A → Bool) → ((x : A) → f x ≡ true) → (rs : List A) → keep f rs ≡ rs
  keep_all f h [] = refl
  keep_all f h (x ∷ xs) = rw (h x, keep_all f h xs)

module _ {A : Type 0} (num : A → ℕ) where
  pub in_of_placed : (before : List ℕ) (r : A) → placed num before r ≡ true → num r ∈ before
  in_of_placed before r e = let (n, m, p) = member_of_any (λ n. eqb (num r) n) before e in Memᴰ.cast (eqb-true (num r) n p) m

  pub placed_of_in : {before : List ℕ} (r : A) → num r ∈ before → placed num before r ≡ true
  placed_of_in r m = any_of_member (λ n. eqb (num r) n) m (eq-eqb (num r) (num r) refl)

  pub left_of_new : (rows : List A) (before : List ℕ) {r : A} → r ∈ rows → (num r ∈ before → ⊥) → r ∈ left num rows before
  unfolding left
  left_of_new rows before {r} m n =
      kept_of_member (λ r. not (placed num before r)) m (not_of_false (false_of_not_true (placed num before r) (λ e. n (in_of_placed before r e))))

  pub new_of_left : (rows : List A) (before : List ℕ) {r : A} → r ∈ left num rows before → (r ∈ rows) × (num r ∈ before → ⊥)
  unfolding left
  new_of_left rows before {r} m =
      let (k, e) = member_of_kept (λ r. not (placed num before r)) rows m in
      (k, λ h. true_not_false (placed_of_in r h) (false_of_not (placed num before r) e))

  pub left_subset : (rows : List A) (before : List ℕ) → left num rows before ⊆ rows
  left_subset rows before r m = (new_of_left rows before m).0

  pub left_of_none : (rows : List A) → left num rows [] ≡ rows
  unfolding left
  left_of_none rows = keep_all (λ r. true) (λ r. refl) rows

  -- one more is placed
  pub left_of_one_more : (rows : List A) (before : List ℕ) (x : A) → without num x (left num rows before) ≡ left num rows (before ++ num x ∷ [])
  unfolding left
  left_of_one_more rows before x =
      keep_keep (λ r. not (placed num before r)) (λ r. not (eqb (num r) (num x))) (λ r. not (placed num (before ++ num x ∷ []) r)) same rows
    where
      not_or : (a b : Bool) → not (a || (b || false)) ≡ not a && not b
      not_or true b = refl
      not_or false true = refl
      not_or false false = refl

      same : (r : A) → not (placed num (before ++ num x ∷ []) r) ≡ not (placed num before r) && not (eqb (num r) (num x))
      same r = rw (any_append (λ n. eqb (num r) n) before (num x ∷ [])) (not_or (placed num before r) (eqb (num r) (num x)))

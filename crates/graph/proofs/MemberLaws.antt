-- Members of a list that pass a test: `any_of` and `keep`. Assumes nothing.
use mathlib.Core.Path.{◌≡◌, refl, sym, subst}
use mathlib.Core.Bool.{Bool, true, false, not, cond, false≢true}
use mathlib.Core.List.Memᴰ
use mathlib.Core.List.Memᴰ.{head as here}
use mathlib.Core.List.Memᴰ.{tail as there}
use mathlib.Core.List.{List, [], ◌∷◌}
use mathlib.Core.Logic.{◌⊎◌, ◌↔◌, inl, inr}
use Prim.Native.Nat.{ℕ, suc, ◌≤◌, ◌<◌}
use native.Mathlib.Decide.{ℕ_discrete}
use native.Mathlib.Omega.{arith}
use lib.Dec.{eqb}
use lib.ListN.{length}
use borrow.Author.Tests.{eqb-true, eq-eqb}
use Rattle.graph.specs.Lists.{◌∈◌, ◌⊆◌, any_of, keep, is_nil}
use Rattle.graph.proofs.TestLaws.{true_or_false, true_not_false, either_of_or, or_of_left, or_of_right}

module _ {A : Type 0} (f : A → Bool) where
  pub any_of_member : {x : A} {rs : List A} → x ∈ rs → f x ≡ true → any_of f rs ≡ true
  any_of_member (here {xs = ys} h) e = or_of_left (any_of f ys) (rw h at e)
  any_of_member (there {x = y} m) e = or_of_right (f y) (any_of_member m e)

  pub member_of_any : (rs : List A) → any_of f rs ≡ true → (x : A) × (x ∈ rs) × (f x ≡ true)
  member_of_any [] e = absurd (false≢true e)
  member_of_any (x ∷ xs) e = go (λ h. member_of_any xs h) (either_of_or (f x) (any_of f xs) e)
    where
      go : (any_of f xs ≡ true → (y : A) × (y ∈ xs) × (f y ≡ true)) → (f x ≡ true) ⊎ (any_of f xs ≡ true) → (y : A) × (y ∈ x ∷ xs) × (f y ≡ true)
      go k (inl h) = (x, here refl, h)
      go k (inr h) = let (y, m, p) = k h in (y, there m, p)

  pub keep_of_true : (x : A) (xs : List A) → f x ≡ true → keep f (x ∷ xs) ≡ x ∷ keep f xs
  keep_of_true x xs e = rw e

  pub keep_of_false : (x : A) (xs : List A) → f x ≡ false → keep f (x ∷ xs) ≡ keep f xs
  keep_of_false x xs e = rw e

  pub kept_of_member : {x : A} {rs : List A} → x ∈ rs → f x ≡ true → x ∈ keep f rs
  kept_of_member (here {x = y} {xs = ys} h) e = rw (keep_of_true y ys (rw h at e)) (here h)
  kept_of_member {x} (there {x = y} {xs = ys} m) e = go (f y) (kept_of_member m e)
    where
      go : (b : Bool) → x ∈ keep f ys → x ∈ cond b (y ∷ keep f ys) (keep f ys)
      go true k = there k
      go false k = k

  pub member_of_kept : (rs : List A) {x : A} → x ∈ keep f rs → (x ∈ rs) × (f x ≡ true)
  member_of_kept [] m = absurd (Memᴰ.not-nil m)
  member_of_kept (y ∷ ys) {x} m = go (λ k. member_of_kept ys k) (f y) refl m
    where
      next : (x ∈ ys) × (f x ≡ true) → (x ∈ y ∷ ys) × (f x ≡ true)
      next (k, e) = (there k, e)

      go : (x ∈ keep f ys → (x ∈ ys) × (f x ≡ true)) → (b : Bool) → f y ≡ b → x ∈ cond b (y ∷ keep f ys) (keep f ys) → (x ∈ y ∷ ys) × (f x ≡ true)
      go r true e (here h) = (here h, rw h e)
      go r true e (there k) = next (r k)
      go r false e k = next (r k)

  pub kept_subset : (rs : List A) → keep f rs ⊆ rs
  kept_subset rs x m = (member_of_kept rs m).0

  pub length_keep_le : (rs : List A) → length (keep f rs) ≤ length rs
  length_keep_le [] = omega arith
  length_keep_le (x ∷ xs) = go (f x) (length_keep_le xs)
    where
      go : (b : Bool) → length (keep f xs) ≤ length xs → length (cond b (x ∷ keep f xs) (keep f xs)) ≤ suc (length xs)
      go true h = omega arith
      go false h = omega arith

  pub length_keep_lt : {x : A} {rs : List A} → x ∈ rs → f x ≡ false → length (keep f rs) < length rs
  length_keep_lt (here {x = y} {xs = ys} h) e = rw (keep_of_false y ys (rw h at e)) (omega (arith, length_keep_le ys))
  length_keep_lt (there {x = y} {xs = ys} m) e = go (f y) (length_keep_lt m e)
    where
      go : (b : Bool) → length (keep f ys) < length ys → length (cond b (y ∷ keep f ys) (keep f ys)) < suc (length ys)
      go true h = omega arith
      go false h = omega arith

  -- all pass, or one fails
  pub all_or_one : (rs : List A) → ((x : A) → x ∈ rs → f x ≡ true) ⊎ ((x : A) × (x ∈ rs) × (f x ≡ false))
  all_or_one [] = inl (λ x m. absurd (Memᴰ.not-nil m))
  all_or_one (y ∷ ys) = go (true_or_false (f y)) (all_or_one ys)
    where
      go : (f y ≡ true) ⊎ (f y ≡ false) → ((x : A) → x ∈ ys → f x ≡ true) ⊎ ((x : A) × (x ∈ ys) × (f x ≡ false))
          → ((x : A) → x ∈ y ∷ ys → f x ≡ true) ⊎ ((x : A) × (x ∈ y ∷ ys) × (f x ≡ false))
      go (inr e) r = inr (y, here refl, e)
      go (inl e) (inr (x, m, h)) = inr (x, there m, h)
      go (inl e) (inl h) = inl each
        where
          each : (x : A) → x ∈ y ∷ ys → f x ≡ true
          each x (here p) = rw p e
          each x (there m) = h x m

-- a test on some member stands for a condition on some member
pub iff_any : {A : Type 0} (f : A → Bool) (P : A → Type 0) → ((x : A) → (f x ≡ true) ↔ P x) → (rs : List A) → (any_of f rs ≡ true) ↔ ((x : A) × (x ∈ rs) × P x)
iff_any f P h rs = (
  λ e. let (x, m, p) = member_of_any f rs e in (x, m, (h x).0 p),
  λ p. any_of_member f p.1 ((h p.0).1 p.2),
)

pub nil_of_is_nil : {A : Type 0} (rs : List A) → is_nil rs ≡ true → rs ≡ []
nil_of_is_nil [] e = refl
nil_of_is_nil (x ∷ xs) e = absurd (false≢true e)

pub iff_nil : {A : Type 0} (rs : List A) → (is_nil rs ≡ true) ↔ (rs ≡ [])
iff_nil rs = (nil_of_is_nil rs, λ e. rw e)

pub nil_of_length : {A : Type 0} (rs : List A) → length rs ≤ 0 → rs ≡ []
nil_of_length [] h = refl
nil_of_length (x ∷ xs) h = absurd (omega arith)

pub member_or_not : (n : ℕ) (l : List ℕ) → (n ∈ l) ⊎ (¬ (n ∈ l))
member_or_not n [] = inr Memᴰ.not-nil
member_or_not n (x ∷ l) = go (ℕ_discrete n x) (member_or_not n l)
  where
    go : Dec (n ≡ x) → (n ∈ l) ⊎ (¬ (n ∈ l)) → (n ∈ x ∷ l) ⊎ (¬ (n ∈ x ∷ l))
    go (yes e) r = inl (here e)
    go (no e) (inl m) = inl (there m)
    go (no e) (inr f) = inr (λ m. elim (Memᴰ.cases_cons m) [ inl p ↦ e p | inr k ↦ f k ])

-- membership among numbers, by a test that computes
pub member_of_test : (n : ℕ) (l : List ℕ) → any_of (eqb n) l ≡ true → n ∈ l
member_of_test n l e = let (m, i, p) = member_of_any (eqb n) l e in subst (λ (x : ℕ). x ∈ l) (sym (eqb-true n m p)) i

pub not_member_of_test : (n : ℕ) (l : List ℕ) → any_of (eqb n) l ≡ false → ¬ (n ∈ l)
not_member_of_test n l e m = true_not_false (any_of_member (eqb n) m (eq-eqb n n refl)) e

pub subset_of_test : (l m : List ℕ) → any_of (λ n. not (any_of (eqb n) m)) l ≡ false → l ⊆ m
subset_of_test l m e n i = elim (true_or_false (any_of (eqb n) m)) [
  | inl h ↦ member_of_test n m h
  | inr h ↦ absurd (true_not_false (any_of_member (λ k. not (any_of (eqb k) m)) i (rw h)) e)
]

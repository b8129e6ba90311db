-- The row with the smallest number, and the rows without one row. Assumes nothing.
use mathlib.Core.Path.{◌≡◌, refl}
use mathlib.Core.Bool.{Bool, true, false, not, cond}
use mathlib.Core.List.Memᴰ
use mathlib.Core.List.Memᴰ.{head as here}
use mathlib.Core.List.Memᴰ.{tail as there}
use mathlib.Core.List.{List, [], ◌∷◌}
use mathlib.Core.Option.{Option, none, some}
use Prim.Native.Nat.{ℕ, ◌≤◌, ◌<◌}
use native.Mathlib.Omega.{arith}
use lib.Dec.{ltb, eqb}
use lib.ListN.{length}
use borrow.Author.Tests.{ltb-true, ltb-false, eqb-false, eq-eqb, ne_eqb}
use Rattle.graph.specs.Lists.{◌∈◌, ◌⊆◌}
use Rattle.graph.specs.Order.{Distinct, lesser, least, without}
use Rattle.graph.proofs.TestLaws.{not_of_false, not_of_true, false_of_not}
use Rattle.graph.proofs.MemberLaws.{kept_of_member, member_of_kept, kept_subset, length_keep_lt}

module _ {A : Type 0} (num : A → ℕ) where
  pub nil_of_no_least : (rs : List A) → least num rs ≡ none → rs ≡ []
  nil_of_no_least [] e = refl
  nil_of_no_least (x ∷ xs) e = let z : ◌≡◌ {A = ℕ} 0 1 = cc in absurd (omega arith)

  -- x is a member, and no member has a smaller number
  abbrev pub IsLeast : List A → A → Type 0
  IsLeast rs x = (x ∈ rs) × ((y : A) → y ∈ rs → num x ≤ num y)

  is_least_of_lesser : (x : A) (xs : List A) (o : Option A) → least num xs ≡ o → ((y : A) → o ≡ some y → IsLeast xs y) → IsLeast (x ∷ xs) (lesser num x o)
  is_least_of_lesser x xs none e h = (here refl, alone)
    where
      alone : (y : A) → y ∈ x ∷ xs → num x ≤ num y
      alone y (here p) = rw p (omega arith)
      alone y (there m) = absurd (Memᴰ.not-nil (rw (nil_of_no_least xs e) at m))
  is_least_of_lesser x xs (some z) e h = go (ltb (num z) (num x)) refl (h z refl)
    where
      go : (b : Bool) → ltb (num z) (num x) ≡ b → IsLeast xs z → IsLeast (x ∷ xs) (cond b z x)
      go true t (m, l) = (there m, low)
        where
          low : (y : A) → y ∈ x ∷ xs → num z ≤ num y
          low y (here p) = rw p (omega (arith, ltb-true (num z) (num x) t))
          low y (there n) = l y n
      go false t (m, l) = (here refl, low)
        where
          low : (y : A) → y ∈ x ∷ xs → num x ≤ num y
          low y (here p) = rw p (omega arith)
          low y (there n) = omega (arith, ltb-false (num z) (num x) t, l y n)

  pub is_least_of_least : (rs : List A) (x : A) → least num rs ≡ some x → IsLeast rs x
  is_least_of_least [] x e = let z : ◌≡◌ {A = ℕ} 0 1 = cc in absurd (omega arith)
  is_least_of_least (y ∷ ys) x e =
      let p : lesser num y (least num ys) ≡ x = cc in
      rw p at (is_least_of_lesser y ys (least num ys) refl (is_least_of_least ys))

  pub without_of_other : (x : A) {y : A} {rs : List A} → y ∈ rs → (num y ≡ num x → ⊥) → y ∈ without num x rs
  without_of_other x {y} m d = kept_of_member (λ r. not (eqb (num r) (num x))) m (not_of_false (ne_eqb (num y) (num x) d))

  pub other_of_without : (x : A) (rs : List A) {y : A} → y ∈ without num x rs → (y ∈ rs) × (num y ≡ num x → ⊥)
  other_of_without x rs {y} m =
      let (k, e) = member_of_kept (λ r. not (eqb (num r) (num x))) rs m in
      (k, eqb-false (num y) (num x) (false_of_not (eqb (num y) (num x)) e))

  pub without_subset : (x : A) (rs : List A) → without num x rs ⊆ rs
  without_subset x rs = kept_subset (λ r. not (eqb (num r) (num x))) rs

  pub length_without_lt : {x : A} {rs : List A} → x ∈ rs → length (without num x rs) < length rs
  length_without_lt {x} m = length_keep_lt (λ r. not (eqb (num r) (num x))) m (not_of_true (eq-eqb (num x) (num x) refl))

  pub distinct_of_subset : {rs qs : List A} → rs ⊆ qs → Distinct num qs → Distinct num rs
  distinct_of_subset s d x y m n e = d x y (s x m) (s y n) e

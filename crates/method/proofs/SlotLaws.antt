-- The first that passes, where the library leaves something to be said, and the members that pass, by their places. A place past the end reads as the default. Assumes nothing.
use mathlib.Core.Path.{◌≡◌, refl, ◌∙◌}
use mathlib.Core.Bool.{Bool, true, false}
use mathlib.Core.List.{List, [], ◌∷◌}
use mathlib.Core.Logic.{◌≢◌, ◌⊎◌, inl, inr}
use Prim.Native.Nat.{ℕ, zero, suc, ◌<◌}
use native.Mathlib.Omega.{arith}
use native.Mathlib.Decide.{ℕ_discrete}
use lib.ListN.{length, get_or, set}
use lib.Seq.{get_or-set_same, get_or-set_other}
use Rattle.std.specs.Prelude.{◌+◌, nat_lt, not, ◌||◌, cond}
use Rattle.std.specs.List.{position_or_len}
use Rattle.std.proofs.lemmas.List.Sums.{passes_at_first}
use borrow.Author.Tests.{ltb-true, lt-ltb}
use Rattle.graph.specs.Lists.{◌∈◌, any_of, keep}
use Rattle.graph.proofs.TestLaws.{true_not_false, same_of_iff}
use Rattle.graph.proofs.MemberLaws.{any_of_member, kept_of_member, member_of_kept}
use Rattle.graph.proofs.PlaceLaws.{member_of_place, place_of_member}

ltb_suc : (a b : ℕ) → nat_lt (1 + a) (suc b) ≡ nat_lt a b
ltb_suc a b = same_of_iff (nat_lt (1 + a) (suc b)) (nat_lt a b)
    (λ h. lt-ltb a b (omega (arith, ltb-true (1 + a) (suc b) h)))
    (λ h. lt-ltb (1 + a) (suc b) (omega (arith, ltb-true a b h)))

module _ {A : Type 0} (f : A → Bool) where
  -- the first that passes has a place in the list exactly where one passes
  pub place_of_first : (xs : List A) → nat_lt (position_or_len f xs) (length xs) ≡ any_of f xs
  place_of_first [] = refl
  place_of_first (x ∷ xs) = go (f x) (place_of_first xs)
    where
      go : (b : Bool) → nat_lt (position_or_len f xs) (length xs) ≡ any_of f xs → nat_lt (cond (not b) (1 + position_or_len f xs) 0) (suc (length xs)) ≡ (b || any_of f xs)
      go true e = lt-ltb 0 (suc (length xs)) (omega arith)
      go false e = ltb_suc (position_or_len f xs) (length xs) ∙ e

  -- and passes
  pub first_found : (xs : List A) (d : A) → any_of f xs ≡ true → (position_or_len f xs < length xs) × (f (get_or xs (position_or_len f xs) d) ≡ true)
  first_found xs d e = let h : position_or_len f xs < length xs = ltb-true _ _ (place_of_first xs ∙ e) in (h, passes_at_first f xs d h)

  -- one that passes at a place, where the default does not
  place_of_pass : (xs : List A) (i : ℕ) (d : A) → f d ≡ false → f (get_or xs i d) ≡ true → i < length xs
  place_of_pass [] i d n e = absurd (true_not_false e n)
  place_of_pass (x ∷ xs) zero d n e = omega arith
  place_of_pass (x ∷ xs) (suc i) d n e = omega (arith, place_of_pass xs i d n e)

  pub any_of_place : (xs : List A) (i : ℕ) (d : A) → f d ≡ false → f (get_or xs i d) ≡ true → any_of f xs ≡ true
  any_of_place xs i d n e = any_of_member f (member_of_place xs i d (place_of_pass xs i d n e)) e

  pub kept_of_place : (xs : List A) (i : ℕ) (d : A) → f d ≡ false → f (get_or xs i d) ≡ true → get_or xs i d ∈ keep f xs
  kept_of_place xs i d n e = kept_of_member f (member_of_place xs i d (place_of_pass xs i d n e)) e

  pub place_of_kept : (xs : List A) (d : A) {x : A} → x ∈ keep f xs → (i : ℕ) × (i < length xs) × (get_or xs i d ≡ x) × (f x ≡ true)
  place_of_kept xs d m = let (n, e) = member_of_kept f xs m in let (i, h, p) = place_of_member d n in (i, h, p, e)

-- a place after another was set
pub set_cases : {A : Type 0} (xs : List A) (i : ℕ) (a d : A) → i < length xs → (j : ℕ)
    → ((j ≡ i) × (get_or (set xs i a) j d ≡ a)) ⊎ ((j ≢ i) × (get_or (set xs i a) j d ≡ get_or xs j d))
set_cases xs i a d h j = elim (ℕ_discrete j i) [
  | yes e ↦ inl (e, rw e (get_or-set_same xs i a d h))
  | no n ↦ inr (n, get_or-set_other xs i j a d n)
]

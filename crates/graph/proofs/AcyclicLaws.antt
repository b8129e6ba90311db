-- The computed test `acyclic` passes just where there is no cycle. Assumes nothing.
use mathlib.Core.Path.{◌≡◌, refl}
use mathlib.Core.Bool.{Bool, true, false}
use mathlib.Core.List.Memᴰ.{head as here}
use mathlib.Core.List.{List, [], ◌∷◌}
use mathlib.Core.Logic.{◌↔◌, ◌⊎◌, inl, inr}
use Prim.Native.Nat.{ℕ, zero, suc, ◌≤◌}
use native.Mathlib.Omega.{arith}
use lib.ListN.{length}
use Rattle.graph.specs.Lists.{◌∈◌, ◌⊆◌}
use Rattle.graph.specs.Path.{Cycle, Holds}
use Rattle.graph.specs.Acyclic.{into, pointed, peel, acyclic}
use Rattle.graph.proofs.TestLaws.{true_or_false, true_not_false, true_of_not_false}
use Rattle.graph.proofs.MemberLaws.{any_of_member, member_of_any, kept_of_member, kept_subset, length_keep_lt, all_or_one, nil_of_is_nil, nil_of_length}
use Rattle.graph.proofs.PathLaws.{start_of_path, last_of_path, path_of_kept, cycle_of_larger, no_path_of_nil}
use Rattle.graph.proofs.PointedLaws.{cycle_of_preds}

module _ {A : Type 0} (arrow : A → A → Bool) where
  pub pointed_of_arrow : (rs : List A) (y z : A) → y ∈ rs → z ∈ rs → arrow z y ≡ true → y ∈ pointed arrow rs
  unfolding pointed
  pointed_of_arrow rs y z m n e = kept_of_member (into arrow rs) m (any_of_member (λ s. arrow s y) n e)

  pub pointed_subset : (rs : List A) → pointed arrow rs ⊆ rs
  unfolding pointed
  pointed_subset rs = kept_subset (into arrow rs) rs

  pub pointed_of_cycle : (rs : List A) → Cycle (Holds arrow) rs → Cycle (Holds arrow) (pointed arrow rs)
  pointed_of_cycle rs (a, p) = let (b, m, e, s) = last_of_path p in (a, path_of_kept (pointed_of_arrow rs) (pointed_of_arrow rs a b (start_of_path p) m e) p)

  pub peeled_of_cycle : (k : ℕ) (rs : List A) → Cycle (Holds arrow) rs → Cycle (Holds arrow) (peel arrow k rs)
  unfolding peel
  peeled_of_cycle zero rs c = c
  peeled_of_cycle (suc k) rs c = peeled_of_cycle k (pointed arrow rs) (pointed_of_cycle rs c)

  pub cycle_of_all_pointed : (rs : List A) → ((y : A) → y ∈ rs → into arrow rs y ≡ true) → (a : A) → a ∈ rs → Cycle (Holds arrow) rs
  cycle_of_all_pointed rs h a m = cycle_of_preds rs arrow (λ y n. member_of_any (λ s. arrow s y) rs (h y n)) a m

  peel_of_nil : (k : ℕ) → peel arrow k [] ≡ []
  unfolding peel pointed
  peel_of_nil zero = refl
  peel_of_nil (suc k) = peel_of_nil k

  pub nil_or_cycle : (k : ℕ) (rs : List A) → length rs ≤ k → (peel arrow k rs ≡ []) ⊎ Cycle (Holds arrow) rs
  unfolding peel pointed
  nil_or_cycle zero rs h = inl (nil_of_length rs h)
  nil_or_cycle (suc k) [] h = inl (peel_of_nil k)
  nil_or_cycle (suc k) (x ∷ xs) h = go (λ l. nil_or_cycle k (pointed arrow (x ∷ xs)) l) (all_or_one (into arrow (x ∷ xs)) (x ∷ xs))
    where
      wide : (peel arrow k (pointed arrow (x ∷ xs)) ≡ []) ⊎ Cycle (Holds arrow) (pointed arrow (x ∷ xs)) → (peel arrow k (pointed arrow (x ∷ xs)) ≡ []) ⊎ Cycle (Holds arrow) (x ∷ xs)
      wide (inl e) = inl e
      wide (inr c) = inr (cycle_of_larger (pointed_subset (x ∷ xs)) c)

      go : (length (pointed arrow (x ∷ xs)) ≤ k → (peel arrow k (pointed arrow (x ∷ xs)) ≡ []) ⊎ Cycle (Holds arrow) (pointed arrow (x ∷ xs)))
          → ((y : A) → y ∈ x ∷ xs → into arrow (x ∷ xs) y ≡ true) ⊎ ((y : A) × (y ∈ x ∷ xs) × (into arrow (x ∷ xs) y ≡ false))
          → (peel arrow k (pointed arrow (x ∷ xs)) ≡ []) ⊎ Cycle (Holds arrow) (x ∷ xs)
      go r (inl all) = inr (cycle_of_all_pointed (x ∷ xs) all x (here refl))
      go r (inr (y, m, e)) = wide (r (omega (arith, length_keep_lt (into arrow (x ∷ xs)) m e)))

  pub no_cycle_of_acyclic : (rs : List A) → acyclic arrow rs ≡ true → ¬ Cycle (Holds arrow) rs
  unfolding acyclic
  no_cycle_of_acyclic rs e c = let (a, p) = peeled_of_cycle (length rs) rs c in no_path_of_nil (rw (nil_of_is_nil (peel arrow (length rs) rs) e) at p)

  pub cycle_of_not_acyclic : (rs : List A) → acyclic arrow rs ≡ false → Cycle (Holds arrow) rs
  unfolding acyclic
  cycle_of_not_acyclic rs e = go (nil_or_cycle (length rs) rs (omega arith))
    where
      go : (peel arrow (length rs) rs ≡ []) ⊎ Cycle (Holds arrow) rs → Cycle (Holds arrow) rs
      go (inl h) = absurd (true_not_false refl (rw h at e))
      go (inr c) = c

  pub acyclic_iff : (rs : List A) → (acyclic arrow rs ≡ true) ↔ (¬ Cycle (Holds arrow) rs)
  acyclic_iff rs = (no_cycle_of_acyclic rs, λ n. true_of_not_false (acyclic arrow rs) (λ e. n (cycle_of_not_acyclic rs e)))

  pub cycle_iff : (rs : List A) → (acyclic arrow rs ≡ false) ↔ Cycle (Holds arrow) rs
  cycle_iff rs = (cycle_of_not_acyclic rs, λ c. go c (true_or_false (acyclic arrow rs)))
    where
      go : Cycle (Holds arrow) rs → (acyclic arrow rs ≡ true) ⊎ (acyclic arrow rs ≡ false) → acyclic arrow rs ≡ false
      go c (inl e) = absurd (no_cycle_of_acyclic rs e c)
      go c (inr e) = e

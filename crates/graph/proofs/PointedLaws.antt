-- A list, not empty, in which a member has an arrow to each member has a cycle. Assumes nothing.
-- Members are taken out one after the other: where x is out, an arrow into it and one out of it count as one arrow.
use mathlib.Core.Path.{◌≡◌, refl}
use mathlib.Core.Bool.{Bool, true, ◌&&◌, ◌||◌}
use mathlib.Core.List.Memᴰ
use mathlib.Core.List.Memᴰ.{head as here}
use mathlib.Core.List.Memᴰ.{tail as there}
use mathlib.Core.List.{List, [], ◌∷◌}
use mathlib.Core.Logic.{◌⊎◌, inl, inr}
use Rattle.graph.specs.Lists.{◌∈◌}
use Rattle.graph.specs.Path.{ArrowPath, ArrowPath.one, ArrowPath.more, Cycle, Holds}
use Rattle.graph.proofs.TestLaws.{either_of_or, both_of_and, or_of_left, or_of_right, and_of_both}
use Rattle.graph.proofs.PathLaws.{path_of_paths}

module _ {A : Type 0} where
  -- some member has an arrow to y
  abbrev pub Pred : (A → A → Bool) → List A → A → Type 0
  Pred arrow rs y = (z : A) × (z ∈ rs) × (arrow z y ≡ true)

  through : (A → A → Bool) → A → A → A → Bool
  through arrow x a b = arrow a b || (arrow a x && arrow x b)

  path_of_through : (arrow : A → A → Bool) (x : A) (xs : List A) (a b : A) → a ∈ xs → b ∈ xs → through arrow x a b ≡ true → ArrowPath (Holds arrow) (x ∷ xs) a b
  unfolding through
  path_of_through arrow x xs a b m n e = go (either_of_or (arrow a b) (arrow a x && arrow x b) e)
    where
      go : (arrow a b ≡ true) ⊎ (arrow a x && arrow x b ≡ true) → ArrowPath (Holds arrow) (x ∷ xs) a b
      go (inl h) = one (there m) (there n) h
      go (inr h) = let (p, q) = both_of_and (arrow a x) (arrow x b) h in more (there m) p (one (here refl) (there n) q)

  pred_of_through : (arrow : A → A → Bool) (x : A) (xs : List A) (y z : A) → z ∈ xs → arrow z x ≡ true → Pred arrow (x ∷ xs) y → Pred (through arrow x) xs y
  unfolding through
  pred_of_through arrow x xs y z n f (w, here h, e) = (z, n, or_of_right (arrow z y) (and_of_both f (rw h at e)))
  pred_of_through arrow x xs y z n f (w, there m, e) = (w, m, or_of_left (arrow w x && arrow x y) e)

  pub cycle_of_preds : (rs : List A) (arrow : A → A → Bool) → ((y : A) → y ∈ rs → Pred arrow rs y) → (a : A) → a ∈ rs → Cycle (Holds arrow) rs
  cycle_of_preds [] arrow h a m = absurd (Memᴰ.not-nil m)
  cycle_of_preds (x ∷ xs) arrow h a m = go (λ k b n. cycle_of_preds xs (through arrow x) k b n) (h x (here refl))
    where
      go : (((y : A) → y ∈ xs → Pred (through arrow x) xs y) → (a : A) → a ∈ xs → Cycle (Holds (through arrow x)) xs) → Pred arrow (x ∷ xs) x → Cycle (Holds arrow) (x ∷ xs)
      go r (z, here e, f) = (x, one (here refl) (here refl) (rw e at f))
      go r (z, there n, f) =
          let (b, p) = r (λ y k. pred_of_through arrow x xs y z n f (h y (there k))) z n in
          (b, path_of_paths (path_of_through arrow x xs) p)

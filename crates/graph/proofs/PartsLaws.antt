-- Rows in two parts, of which the new one has no arrow to the old one: a cycle lies in one of them. Assumes nothing.
-- This is what forgetting rests on: a forgotten row is old, and no arrow leads back to it.
use mathlib.Core.List.{List}
use mathlib.Core.Logic.{◌⊎◌, inl, inr}
use Rattle.graph.specs.Lists.{◌∈◌}
use Rattle.graph.specs.Path.{ArrowPath, ArrowPath.one, ArrowPath.more, Cycle}
use Rattle.graph.proofs.PathLaws.{start_of_path}

module _ {A : Type 0} (Arrow : A → A → Type 0) (new old all : List A) where
  -- an old row, to which no new one has an arrow
  abbrev pub Old : A → Type 0
  Old x = (x ∈ old) × ((k : A) → k ∈ new → ¬ Arrow k x)

  module _ (split : (x : A) → x ∈ all → (x ∈ new) ⊎ Old x) where
    -- a path never leaves the new rows
    forth : {x y : A} → x ∈ new → ArrowPath Arrow all x y → ArrowPath Arrow new x y
    forth {x} {y} k (one m n a) = elim (split y n) [ inl l ↦ one k l a | inr o ↦ absurd (o.1 x k a) ]
    forth {x} {y = z} k (more {b = y} m a p) = go (λ l. forth l p) (split y (start_of_path p))
      where
        go : (y ∈ new → ArrowPath Arrow new y z) → (y ∈ new) ⊎ Old y → ArrowPath Arrow new x z
        go below (inl l) = more k a (below l)
        go below (inr o) = absurd (o.1 x k a)

    -- a path that ends at an old row never met a new one
    back : {x y : A} → Old y → ArrowPath Arrow all x y → Old x × ArrowPath Arrow old x y
    back {x} {y} o (one m n a) = elim (split x m) [ inl k ↦ absurd (o.1 x k a) | inr w ↦ (w, one w.0 o.0 a) ]
    back {x} {y = z} o (more {b = y} m a p) = go (back o p) (split x m)
      where
        go : Old y × ArrowPath Arrow old y z → (x ∈ new) ⊎ Old x → Old x × ArrowPath Arrow old x z
        go below (inl k) = absurd (below.0.1 x k a)
        go below (inr w) = (w, more w.0 a below.1)

    pub no_cycle_of_parts : ¬ Cycle Arrow new → ¬ Cycle Arrow old → ¬ Cycle Arrow all
    no_cycle_of_parts f g c = elim (split c.0 (start_of_path c.1)) [ inl k ↦ f (c.0, forth k c.1) | inr o ↦ g (c.0, (back o c.1).1) ]

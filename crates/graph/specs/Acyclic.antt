-- The computed test for a cycle: rows that no remaining row has an arrow to are peeled off, as often as there are rows.
-- That it finds exactly the cycles of specs/Path.antt is `acyclic_iff` of proofs/AcyclicLaws.antt.
use Rattle.std.specs.Prelude.{Bool, List, ℕ, zero, suc, length}
use Rattle.graph.specs.Lists.{any_of, keep, is_nil}

module _ {A : Type 0} (arrow : A → A → Bool) where
  -- some row of the list has an arrow to r
  abbrev pub into : List A → A → Bool
  into rs r = any_of (λ s. arrow s r) rs

  unfoldable pub pointed : List A → List A
  pointed rs = keep (into rs) rs

  unfoldable pub peel : ℕ → List A → List A
  peel zero rs = rs
  peel (suc k) rs = peel k (pointed rs)

  unfoldable pub acyclic : List A → Bool
  acyclic rs = is_nil (peel (length rs) rs)

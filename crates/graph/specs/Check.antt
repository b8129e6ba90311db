-- The computed test of a proposed order, place by place, and what it says of one place.
-- That it passes exactly the orders of specs/Order.antt is `orderb→order` and `order→orderb` of proofs/CheckLaws.antt.
use Rattle.std.specs.Prelude.{Bool, true, not, ◌&&◌, List, [], ◌∷◌, ◌++◌, ℕ, eqb, length}
use Rattle.graph.specs.Lists.{any_of}
use Rattle.graph.specs.Smallest.{placed}

module _ {A : Type 0} (arrow : A → A → Bool) (num : A → ℕ) (rows : List A) where
  -- some row with an arrow to x does not stand before
  abbrev pub unready : List ℕ → A → Bool
  unready before x = any_of (λ y. arrow y x && not (placed num before y)) rows

  -- n may stand after `before`: it is new there, and a row that is ready has it
  unfoldable pub may_stand : List ℕ → ℕ → Bool
  may_stand before n = not (any_of (eqb n) before) && any_of (λ x. eqb (num x) n && not (unready before x)) rows

  -- each number of the list may stand at its place, after `before`
  unfoldable pub all_stand : List ℕ → List ℕ → Bool
  all_stand before [] = true
  all_stand before (n ∷ ns) = may_stand before n && all_stand (before ++ n ∷ []) ns

  -- each may stand at its place, and none is missing
  unfoldable pub orderb : List ℕ → Bool
  orderb order = all_stand [] order && eqb (length order) (length rows)

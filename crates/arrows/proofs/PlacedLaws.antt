-- A row that may stand at the next place by the word of what is placed, and by the numbers that stand before. Assumes nothing.
use mathlib.Core.Path.{◌≡◌, refl, sym, ◌∙◌}
use mathlib.Core.Bool.{Bool, true, false, not, ◌||◌, or-false}
use mathlib.Core.List.{List, [], ◌∷◌, ◌++◌, map}
use Prim.Native.Nat.{ℕ, ◌/◌, ◌<◌}
use native.Mathlib.Decide.{ℕ_discrete}
use lib.Dec.{eqb}
use lib.ListN.{length}
use borrow.Author.Tests.{eq-eqb, ne_eqb}
use Rattle.graph.specs.Lists.{◌∈◌, Once}
use Rattle.graph.specs.Path.{Holds}
use Rattle.graph.specs.Smallest.{Ready, placed}
use Rattle.graph.proofs.TestLaws.{true_not_false, false_of_not_true, not_of_false, false_of_not, both_of_and, and_of_both, or_of_right}
use Rattle.graph.proofs.PlaceLaws.{member_of_at}
use Rattle.graph.proofs.CountLaws.{at_of_map}
use Rattle.graph.proofs.LeftLaws.{any_append, in_of_placed, placed_of_in}
use Rattle.words.specs.Word.{has, with}
use Rattle.words.specs.Below.{any_below}
use Rattle.words.proofs.WordLaws.{has_zero, has_with_same, has_with_other}
use Rattle.words.proofs.BelowLaws.{any_below_none, false_of_none_below}
use Rattle.orders.specs.Entries.{Entry, number_of, entry_arrowb, entry_at, entries_in}
use Rattle.orders.proofs.EntriesLaws.{at_entries_in, row_of_member}
use Rattle.arrows.specs.Preds.{leads}
use Rattle.arrows.specs.Placed.{Marked, waits, may_stand}

pub row_in : (flat : List ℕ) (i : ℕ) → i < length flat / 9 → entry_at flat i ∈ entries_in flat
row_in flat i h = member_of_at (entries_in flat) i (at_entries_in flat i h)

-- two rows with the same number are one place
pub same_place : (flat : List ℕ) → Once (map number_of (entries_in flat)) → (i j : ℕ) → i < length flat / 9 → j < length flat / 9 → (entry_at flat i).number ≡ (entry_at flat j).number → i ≡ j
same_place flat u i j h g e =
    u (entry_at flat j).number i j (rw e at (at_of_map number_of (entries_in flat) i (entry_at flat i) (at_entries_in flat i h))) (at_of_map number_of (entries_in flat) j (entry_at flat j) (at_entries_in flat j g))

-- nothing is placed
pub marked_none : (flat : List ℕ) → Marked flat 0 []
marked_none flat i h = has_zero i

module _ (flat : List ℕ) (w : ℕ) (before : List ℕ) (marked : Marked flat w before) where
  abbrev pub IsReady : Entry → Type 0
  IsReady x = Ready (Holds entry_arrowb) number_of (entries_in flat) before x

  unmarked : (i : ℕ) → i < length flat / 9 → ¬ ((entry_at flat i).number ∈ before) → has w i ≡ false
  unmarked i h n = marked i h ∙ false_of_not_true (placed number_of before (entry_at flat i)) (λ e. n (in_of_placed number_of before (entry_at flat i) e))

  new_of_unmarked : (i : ℕ) → i < length flat / 9 → has w i ≡ false → ¬ ((entry_at flat i).number ∈ before)
  new_of_unmarked i h e m = true_not_false (marked i h ∙ placed_of_in number_of (entry_at flat i) m) e

  pub ready_of_may : (i : ℕ) → i < length flat / 9 → may_stand flat w i ≡ true → (¬ ((entry_at flat i).number ∈ before)) × IsReady (entry_at flat i)
  unfolding may_stand
  ready_of_may i h e = (new_of_unmarked i h (false_of_not (has w i) parts.0), ready)
    where
      parts : (not (has w i) ≡ true) × (not (any_below (waits flat w i) (length flat / 9)) ≡ true)
      parts = both_of_and (not (has w i)) (not (any_below (waits flat w i) (length flat / 9))) e

      go : (j : ℕ) → j < length flat / 9 → leads flat i j ≡ true → (b : Bool) → has w j ≡ b → (entry_at flat j).number ∈ before
      go j l a true q = in_of_placed number_of before (entry_at flat j) (sym (marked j l) ∙ q)
      go j l a false q =
          absurd (true_not_false (and_of_both (not_of_false q) a) (false_of_none_below (waits flat w i) (length flat / 9) (false_of_not _ parts.1) j l))

      ready : IsReady (entry_at flat i)
      ready y m a =
          let (j, l, p) = row_of_member flat y m in
          rw p at (go j l (rw p a) (has w j) refl)

  pub may_of_ready : (i : ℕ) → i < length flat / 9 → ¬ ((entry_at flat i).number ∈ before) → IsReady (entry_at flat i) → may_stand flat w i ≡ true
  unfolding may_stand
  may_of_ready i h n r = and_of_both (not_of_false (unmarked i h n)) (not_of_false (any_below_none (waits flat w i) (length flat / 9) free))
    where
      free : (j : ℕ) → j < length flat / 9 → waits flat w i j ≡ false
      free j l = false_of_not_true (waits flat w i j) waited
        where
          waited : waits flat w i j ≡ true → ⊥
          waited e =
              let (u, a) = both_of_and (not (has w j)) (leads flat i j) e in
              new_of_unmarked j l (false_of_not (has w j) u) (r (entry_at flat j) (row_in flat j l) a)

  -- row j is placed behind them
  pub marked_more : Once (map number_of (entries_in flat)) → (j : ℕ) → j < length flat / 9 → Marked flat (with w j) (before ++ ((entry_at flat j).number ∷ []))
  marked_more u j l i f = go (ℕ_discrete i j)
    where
      number : ℕ → ℕ
      number k = (entry_at flat k).number

      more : (k : ℕ) → placed number_of (before ++ (number j ∷ [])) (entry_at flat k) ≡ placed number_of before (entry_at flat k) || (eqb (number k) (number j) || false)
      more k = any_append (λ n. eqb (number k) n) before (number j ∷ [])

      go : Dec (i ≡ j) → has (with w j) i ≡ placed number_of (before ++ (number j ∷ [])) (entry_at flat i)
      go (yes e) = rw (e, has_with_same w j, more j, eq-eqb (number j) (number j) refl) (sym (or_of_right (placed number_of before (entry_at flat j)) refl))
      go (no e) =
          rw (has_with_other w j i e, more i, ne_eqb (number i) (number j) (λ q. e (same_place flat u i j f l q))) (marked i f ∙ sym (or-false (placed number_of before (entry_at flat i))))

-- what a search over the rows shows of row i
module _ (flat : List ℕ) (w i : ℕ) where
  pub not_may_of_marked : has w i ≡ true → may_stand flat w i ≡ false
  unfolding may_stand
  not_may_of_marked e = rw e

  pub may_of_unmarked : has w i ≡ false → may_stand flat w i ≡ not (any_below (waits flat w i) (length flat / 9))
  unfolding may_stand
  may_of_unmarked e = rw e

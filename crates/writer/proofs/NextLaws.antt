-- The row that is found for the next place is the one that the greedy choice places there, and which rows may stand is told by words.
-- Assumes nothing.
use mathlib.Core.Path.{◌≡◌, refl, sym, ◌∙◌}
use mathlib.Core.Bool.{Bool, true, false, not, ◌&&◌}
use mathlib.Core.List.{List}
use Rattle.std.specs.Prelude.{Some, None}
use Prim.Native.Nat.{ℕ, ◌/◌, ◌^◌, ◌<◌, ◌≤◌}
use native.Mathlib.Nat.{min-eq_left}
use native.Mathlib.Omega.{arith}
use lib.Dec.{eqb}
use lib.Bits.{bit_and}
use lib.ListN.{length, get_or}
use borrow.Author.Tests.{lt-ltb}
use Rattle.graph.specs.Lists.{◌∈◌}
use Rattle.graph.specs.Path.{Holds}
use Rattle.graph.specs.Smallest.{NextAfter}
use Rattle.graph.proofs.TestLaws.{true_not_false}
use Rattle.words.specs.Word.{has, others}
use Rattle.words.proofs.BelowLaws.{none_missing}
use Rattle.orders.specs.Entries.{Entry, number_of, entry_arrowb, entry_at, entries_in}
use Rattle.orders.proofs.EntriesLaws.{row_of_member}
use Rattle.arrows.specs.Preds.{leads, pred_word, worded, preds_of}
use Rattle.arrows.specs.Placed.{Marked, may_stand}
use Rattle.arrows.proofs.PredsLaws.{get_or_preds_of}
use Rattle.arrows.proofs.PlacedLaws.{IsReady, row_in, ready_of_may, may_of_ready, not_may_of_marked, may_of_unmarked}
use Rattle.writer.specs.Next.{Least, number_at}

module _ (flat : List ℕ) (w : ℕ) (before : List ℕ) (marked : Marked flat w before) where
  abbrev IsNext : Entry → Type 0
  IsNext x = NextAfter (Holds entry_arrowb) number_of (entries_in flat) before x

  pub next_of_least : (j : ℕ) → Least (may_stand flat w) (number_at flat) (length flat / 9) (Some j) → IsNext (entry_at flat j)
  next_of_least j (l, m, low) = record { row = row_in flat j l; new = (ready_of_may flat w before marked j l m).0; ready = (ready_of_may flat w before marked j l m).1; least = least }
    where
      least : (y : Entry) → y ∈ entries_in flat → ¬ (y.number ∈ before) → IsReady flat w before marked y → (entry_at flat j).number ≤ y.number
      least y k n r =
          let (i, g, p) = row_of_member flat y k in
          let q : (entry_at flat j).number ≤ (entry_at flat i).number = low i g (may_of_ready flat w before marked i g (rw p n) (rw p r)) in
          rw p at q

  pub no_next_of_none : Least (may_stand flat w) (number_at flat) (length flat / 9) None → (x : Entry) → ¬ IsNext x
  no_next_of_none none x n =
      let (i, g, p) = row_of_member flat x n.row in
      true_not_false (may_of_ready flat w before marked i g (rw p n.new) (rw p n.ready)) (none i g)

-- a word of what is placed, and the words of predecessors
module _ (flat : List ℕ) (few : length flat ≤ 288) (w : ℕ) (fits : w < 2 ^ 32) where
  word_of_row : (i : ℕ) → i < length flat / 9 → get_or (preds_of flat) i 0 ≡ pred_word flat (length flat / 9) i
  word_of_row i h =
      let e : worded flat ≡ length flat / 9 = min-eq_left (omega arith) in
      get_or_preds_of flat i (omega arith) ∙ rw (e, lt-ltb i (length flat / 9) h)

  -- a row that is not placed may stand exactly if its word has nothing that is not placed
  may_of_word : (i : ℕ) → i < length flat / 9 → has w i ≡ false → may_stand flat w i ≡ eqb (bit_and (get_or (preds_of flat) i 0) (others w)) 0
  may_of_word i h e = may_of_unmarked flat w i e ∙ sym (rw (word_of_row i h) (none_missing (leads flat i) (length flat / 9) w (omega arith) fits))

  -- what is asked of the two words says whether the row may stand
  pub may_of_words : (i : ℕ) → i < length flat / 9 → may_stand flat w i ≡ not (has w i) && eqb (bit_and (get_or (preds_of flat) i 0) (others w)) 0
  may_of_words i h = go (has w i) refl
    where
      go : (b : Bool) → has w i ≡ b → may_stand flat w i ≡ not b && eqb (bit_and (get_or (preds_of flat) i 0) (others w)) 0
      go true e = not_may_of_marked flat w i e
      go false e = may_of_word i h e

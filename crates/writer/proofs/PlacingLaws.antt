-- The picking of an order, a place at a time: its start, a place more, the end, and where no row may stand. Assumes nothing.
use mathlib.Core.Path.{◌≡◌, sym, ◌∙◌, subst}
use mathlib.Core.List.{List, [], ◌∷◌, ◌++◌, append-nil, map}
use Prim.Native.Nat.{ℕ, suc, ◌+◌, ◌-◌, ◌/◌, ◌<◌, ◌≤◌}
use native.Mathlib.Numerals.{add-one}
use native.Mathlib.Omega.{arith}
use lib.ListN.{length, set, take}
use lib.Seq.{take-suc-set}
use Rattle.graph.specs.Lists.{Once}
use Rattle.graph.specs.Path.{Holds}
use Rattle.graph.specs.Order.{write, greedy}
use Rattle.graph.specs.Smallest.{NextAfter, left}
use Rattle.graph.proofs.CountLaws.{distinct_of_once}
use Rattle.graph.proofs.SmallestLaws.{greedy_of_left, order_of_one_more, write_of_no_next_after}
use Rattle.words.specs.Word.{with}
use Rattle.orders.specs.Entries.{number_of, entry_arrowb, entry_at, entries_in}
use Rattle.orders.proofs.EntriesLaws.{length_entries_in}
use Rattle.arrows.specs.Placed.{Marked, may_stand}
use Rattle.arrows.proofs.PlacedLaws.{marked_none, marked_more}
use Rattle.std.specs.Prelude.{Option, Some, None}
use Rattle.writer.specs.Next.{Least, number_at, next_of}
use Rattle.writer.specs.Picks.{Placing}
use Rattle.writer.proofs.BelowLaws.{least_of_least_below}
use Rattle.writer.proofs.NextLaws.{next_of_least, no_next_of_none}

module _ (flat : List ℕ) where
  pub placing_none : (numbers : List ℕ) → Placing flat numbers 0 0
  placing_none numbers = record { front = front; marked = marked_none flat }
    where
      front : greedy entry_arrowb number_of (entries_in flat) ≡ write entry_arrowb number_of (length flat / 9 - 0) (left number_of (entries_in flat) [])
      front =
          let e : length flat / 9 - 0 ≡ length flat / 9 = omega arith in
          rw (e, ← length_entries_in flat) (greedy_of_left entry_arrowb number_of (entries_in flat))

  module _ (numbers : List ℕ) (w k : ℕ) (p : Placing flat numbers w k) where
    module _ (u : Once (map number_of (entries_in flat))) (h : k < length flat / 9) (g : length flat / 9 ≤ length numbers) (j : ℕ) (q : Some j ≡ next_of flat w) where
      least : Least (may_stand flat w) (number_at flat) (length flat / 9) (Some j)
      least = subst (λ (b : Option ℕ). Least (may_stand flat w) (number_at flat) (length flat / 9) b) (sym q) (least_of_least_below (may_stand flat w) (number_at flat) (length flat / 9))

      pub placing_row : j < length flat / 9
      placing_row = least.0

      pub placing_more : Placing flat (set numbers k (number_at flat j)) (with w j) (k + 1)
      placing_more = record { front = front; marked = marked }
        where
          more : take (k + 1) (set numbers k (number_at flat j)) ≡ take k numbers ++ (number_at flat j ∷ [])
          more = rw (add-one k) (take-suc-set numbers k (number_at flat j) (omega arith))

          next : NextAfter (Holds entry_arrowb) number_of (entries_in flat) (take k numbers) (entry_at flat j)
          next = next_of_least flat w (take k numbers) p.marked j least

          front : greedy entry_arrowb number_of (entries_in flat)
              ≡ take (k + 1) (set numbers k (number_at flat j)) ++ write entry_arrowb number_of (length flat / 9 - (k + 1)) (left number_of (entries_in flat) (take (k + 1) (set numbers k (number_at flat j))))
          front =
              let e : length flat / 9 - k ≡ suc (length flat / 9 - (k + 1)) = omega arith in
              rw more (order_of_one_more entry_arrowb number_of (entries_in flat) (length flat / 9 - (k + 1)) (take k numbers) (entry_at flat j) (distinct_of_once number_of (entries_in flat) u) next (rw e at p.front))

          marked : Marked flat (with w j) (take (k + 1) (set numbers k (number_at flat j)))
          marked = rw more (marked_more flat w (take k numbers) p.marked u j placing_row)

    pub order_of_stuck : None ≡ next_of flat w → take k numbers ≡ greedy entry_arrowb number_of (entries_in flat)
    order_of_stuck q =
        let none : Least (may_stand flat w) (number_at flat) (length flat / 9) None = subst (λ (b : Option ℕ). Least (may_stand flat w) (number_at flat) (length flat / 9) b) (sym q) (least_of_least_below (may_stand flat w) (number_at flat) (length flat / 9)) in
        let e = write_of_no_next_after entry_arrowb number_of (entries_in flat) (length flat / 9 - k) (take k numbers) (no_next_of_none flat w (take k numbers) p.marked none) in
        sym (p.front ∙ rw e (append-nil (take k numbers)))

    pub order_of_all : length flat / 9 ≤ k → take k numbers ≡ greedy entry_arrowb number_of (entries_in flat)
    unfolding write
    order_of_all h =
        let e : length flat / 9 - k ≡ 0 = omega arith in
        let f : greedy entry_arrowb number_of (entries_in flat) ≡ take k numbers ++ write entry_arrowb number_of 0 (left number_of (entries_in flat) (take k numbers)) = rw e at p.front in
        sym (f ∙ append-nil (take k numbers))

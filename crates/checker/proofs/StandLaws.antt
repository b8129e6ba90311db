-- The test of an order, place by place: what is left of it from place p on. Assumes nothing.
use mathlib.Core.Path.{◌≡◌, sym, ◌∙◌}
use mathlib.Core.Bool.{Bool, true, false, and-true}
use mathlib.Core.List.{List, [], map}
use Prim.Native.Nat.{ℕ, ◌+◌, ◌/◌, ◌<◌, ◌≤◌}
use native.Mathlib.Numerals.{add-one}
use lib.ListN.{length, get_or, take, drop, drop_of_length-le}
use lib.Seq.{drop-cons, take-suc}
use borrow.Author.Tests.{eq-eqb}
use Rattle.graph.specs.Lists.{Once}
use Rattle.graph.specs.Check.{may_stand as mayStandAt, all_stand, orderb}
use Rattle.graph.proofs.TestLaws.{false_of_not_true, same_of_iff}
use Rattle.graph.proofs.CheckLaws.{may_stand→stands, stands→may_stand}
use Rattle.orders.specs.Entries.{Entry, number_of, entry_arrowb, entry_at, entries_in}
use Rattle.orders.specs.Order.{in_orderb}
use Rattle.orders.proofs.EntriesLaws.{length_entries_in, row_of_member}
use Rattle.std.specs.Prelude.{Option, Some, None}
use Rattle.checker.specs.Places.{RowOf, row_stands}
use Rattle.arrows.specs.Placed.{Marked, may_stand}
use Rattle.arrows.proofs.PlacedLaws.{row_in, same_place, ready_of_may, may_of_ready}

-- one place: what the word of the rows before it shows of a number
module _ (flat : List ℕ) (w : ℕ) (before : List ℕ) (marked : Marked flat w before) (u : Once (map number_of (entries_in flat))) (n : ℕ) where
  abbrev test : Bool
  test = mayStandAt entry_arrowb number_of (entries_in flat) before n

  pub stand_of_row : (i : ℕ) → i < length flat / 9 → (entry_at flat i).number ≡ n → test ≡ may_stand flat w i
  stand_of_row i h e = same_of_iff test (may_stand flat w i) there back
    where
      there : test ≡ true → may_stand flat w i ≡ true
      there t =
          let s = may_stand→stands entry_arrowb number_of (entries_in flat) before n t in
          let (j, l, p) = row_of_member flat s.row s.member in
          let q : j ≡ i = same_place flat u j i l h (rw p s.named ∙ sym e) in
          let r : entry_at flat i ≡ s.row = rw (sym q) p in
          may_of_ready flat w before marked i h (rw e s.new) (rw r s.ready)

      back : may_stand flat w i ≡ true → test ≡ true
      back t =
          let (new, ready) = ready_of_may flat w before marked i h t in
          stands→may_stand entry_arrowb number_of (entries_in flat) before n (record { new = rw e at new; row = entry_at flat i; member = row_in flat i h; named = e; ready = ready })

  pub stand_of_none : ((j : ℕ) → j < length flat / 9 → ¬ ((entry_at flat j).number ≡ n)) → test ≡ false
  stand_of_none none = false_of_not_true test named
    where
      named : test ≡ true → ⊥
      named t =
          let s = may_stand→stands entry_arrowb number_of (entries_in flat) before n t in
          let (j, l, p) = row_of_member flat s.row s.member in
          none j l (rw p s.named)

  -- where it may stand is told by what was found of it
  pub stand_of_found : (found : Option ℕ) → RowOf flat n found → test ≡ row_stands flat w found
  stand_of_found (Some i) (h, e) = stand_of_row i h e
  stand_of_found None none = stand_of_none none

module _ (rows : List Entry) where
  -- the places from p on
  module _ (order : List ℕ) (p : ℕ) where
    pub stand_end : length order ≤ p → all_stand entry_arrowb number_of rows (take p order) (drop p order) ≡ true
    unfolding all_stand
    stand_end h = rw (drop_of_length-le order h)

    module _ (h : p < length order) where
      pub stand_no : mayStandAt entry_arrowb number_of rows (take p order) (get_or order p 0) ≡ false → all_stand entry_arrowb number_of rows (take p order) (drop p order) ≡ false
      unfolding all_stand
      stand_no e = rw (drop-cons order p 0 h, e)

      pub stand_more : mayStandAt entry_arrowb number_of rows (take p order) (get_or order p 0) ≡ true
          → all_stand entry_arrowb number_of rows (take p order) (drop p order) ≡ all_stand entry_arrowb number_of rows (take (p + 1) order) (drop (p + 1) order)
      unfolding all_stand
      stand_more e = rw (drop-cons order p 0 h, e, add-one p, take-suc order p 0 h)

module _ (flat order : List ℕ) where
  -- as many numbers as rows: the places decide
  pub order_of_places : length order ≡ length flat / 9 → in_orderb (entries_in flat) order ≡ all_stand entry_arrowb number_of (entries_in flat) (take 0 order) (drop 0 order)
  unfolding in_orderb orderb
  order_of_places h = rw (eq-eqb (length order) (length (entries_in flat)) (h ∙ sym (length_entries_in flat))) (and-true (all_stand entry_arrowb number_of (entries_in flat) [] order))

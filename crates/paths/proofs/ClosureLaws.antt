-- Warshall's steps on the square of arrows: after k of them it holds `reach` of k, and after all 32 the paths. The step of a
-- slot without a ticket would change nothing, since no path leaves it. Assumes nothing.
use mathlib.Core.Path.{◌≡◌, sym, ◌∙◌}
use mathlib.Core.Bool.{Bool, true, false, and-false, or-false}
use mathlib.Core.List.{List, [], map}
use mathlib.Core.Logic.{◌↔◌}
use Prim.Native.Nat.{ℕ, zero, suc, ◌+◌, ◌<◌, ◌≤◌}
use native.Mathlib.Numerals.{add-one}
use native.Mathlib.Omega.{arith}
use lib.ListN.{length, replicate}
use Rattle.std.proofs.lemmas.List.{get_or-map, length-map}
use Rattle.graph.specs.Reach.{reach}
use Rattle.graph.proofs.PathLaws.{path_of_weaker}
use Rattle.graph.proofs.ReachLaws.{reach_zero, reach_step, reach_iff_path}
use Rattle.orders.specs.Arrow.{Tickets, arrowb}
use Rattle.orders.proofs.ArrowLaws.{arrowb→arrow, arrow→arrowb}
use Rattle.paths.specs.Paths.{ticket_row, SlotPath}
use Rattle.paths.specs.Entries.{slot_arrow, SquareIs, entry, over, After, PathSquare}
use Rattle.paths.proofs.SlotLaws.{no_arrow_from_none}

module _ (slots : List Tickets) where
  pub after_none : length slots ≡ 32 → After slots 0 (map (λ a. map (arrowb a) slots) slots)
  after_none e = record { size = length-map slots (λ a. map (arrowb a) slots) ∙ e; each = each }
    where
      each : (i : ℕ) → i < 32 → (j : ℕ) → j < 32 → entry (map (λ a. map (arrowb a) slots) slots) i j ≡ reach (slot_arrow slots) 0 i j
      each i h j g =
          let u : i < length slots = omega arith in
          let v : j < length slots = omega arith in
          rw (get_or-map (λ a. map (arrowb a) slots) slots i [] [] u, get_or-map (arrowb (ticket_row slots i)) slots j [] false v) (sym (reach_zero (slot_arrow slots) i j))

  pub after_step : {before square : List (List Bool)} {k : ℕ} → k < 32 → After slots k before → SquareIs (over before k) square → After slots (k + 1) square
  after_step {before} {k} l h s = record {
    size = s.size;
    each = λ i g j m. rw (add-one k, reach_step (slot_arrow slots) k i j, s.each i g j m, h.each i g j m, h.each i g k l, h.each k l j m);
  }

  reach_from_none : (i : ℕ) → ticket_row slots i ≡ replicate 8 0 → (k j : ℕ) → reach (slot_arrow slots) k i j ≡ false
  reach_from_none i z zero j = rw (reach_zero (slot_arrow slots) i j) (no_arrow_from_none (ticket_row slots i) (ticket_row slots j) z)
  reach_from_none i z (suc k) j = rw (reach_step (slot_arrow slots) k i j, reach_from_none i z k j, reach_from_none i z k k)

  pub after_skip : (k : ℕ) {square : List (List Bool)} → ticket_row slots k ≡ replicate 8 0 → After slots k square → After slots (k + 1) square
  after_skip k {square} z h = record { size = h.size; each = each }
    where
      each : (i : ℕ) → i < 32 → (j : ℕ) → j < 32 → entry square i j ≡ reach (slot_arrow slots) (k + 1) i j
      each i g j m =
          let f = slot_arrow slots in
          rw (add-one k, reach_step f k i j, reach_from_none k z k j, and-false (reach f k i k), h.each i g j m) (sym (or-false (reach f k i j)))

  module _ (size : length slots ≡ 32) where
    reach_iff : (i j : ℕ) → i < 32 → j < 32 → (reach (slot_arrow slots) 32 i j ≡ true) ↔ SlotPath slots i j
    reach_iff i j h g =
        let w = reach_iff_path arrowb slots [] i j (rw size h) (rw size g) in
        let e = rw size at w in
        (λ r. path_of_weaker arrowb→arrow (e.0 r), λ p. e.1 (path_of_weaker arrow→arrowb p))

    pub paths_of_all : {square : List (List Bool)} {k : ℕ} → k ≤ 32 → 32 ≤ k → After slots k square → PathSquare slots square
    paths_of_all {k} u v h i j l g = let e : k ≡ 32 = omega arith in rw (h.each i l j g, e) (reach_iff i j l g)

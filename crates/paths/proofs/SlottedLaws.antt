-- What the two answers say of a caller's own rows that stand in the slots: the computed test of a cycle, and what is reached.
-- Assumes nothing.
use mathlib.Core.Path.{◌≡◌, refl, sym, ◌∙◌}
use mathlib.Core.Bool.{Bool, not}
use mathlib.Core.List.Memᴰ
use mathlib.Core.List.{List, map}
use mathlib.Core.Logic.{◌↔◌, inl, inr}
use Prim.Native.Nat.{ℕ, ◌<◌}
use native.Mathlib.Omega.{arith}
use Rattle.graph.specs.Lists.{◌∈◌, ◌⊆◌}
use Rattle.graph.specs.Path.{ArrowPath, ArrowPath.one, ArrowPath.more, Cycle}
use Rattle.graph.specs.Acyclic.{acyclic}
use Rattle.graph.specs.Reached.{Reached}
use Rattle.graph.proofs.PathLaws.{path_of_larger}
use Rattle.graph.proofs.MapLaws.{mapped_of_path, path_of_mapped}
use Rattle.orders.specs.Arrow.{Tickets, ticket_at, Arrow, arrowb}
use Rattle.paths.specs.Paths.{TellsCycle, Marked, SlotReached, TellsReached}
use Rattle.paths.specs.Slotted.{Slotted, MarkedAs}
use Rattle.paths.proofs.SlotLaws.{member_of_slot, slot_of_member}
use Rattle.paths.proofs.AnswerLaws.{acyclic_of_tells}

module _ {A : Type 0} (of : A → Tickets) (rs : List A) (In : ℕ → A → Type 0) (slots : List Tickets) (st : Slotted of rs In slots) where
  slots_of_rows : map of rs ⊆ slots
  slots_of_rows b m =
      let (a, n, e) = Memᴰ.of_map of rs m in
      let (i, h, w) = st.slot a n in
      rw ((st.row i a w).1 ∙ e) at (member_of_slot slots st.size i h)

  row_of_held : (b : Tickets) (s : ℕ) → b ∈ slots → 0 < ticket_at b s → b ∈ map of rs
  row_of_held b s m l =
      let (i, h, e) = slot_of_member slots st.size m in
      let (a, w) = st.held i s h (rw e l) in
      let (n, q) = st.row i a w in
      rw (sym q ∙ e) at (Memᴰ.map of n)

  -- a path goes over slots with tickets alone
  path_of_slots : {b c : Tickets} → ArrowPath Arrow slots b c → ArrowPath Arrow (map of rs) b c
  path_of_slots (one {a = b} {b = c} m n (s, e)) = one (row_of_held b s m e.0) (row_of_held c s n (omega arith)) (s, e)
  path_of_slots (more {a = b} m (s, e) p) = more (row_of_held b s m e.0) (s, e) (path_of_slots p)

  pub slotted_cycle_iff : Cycle Arrow slots ↔ Cycle Arrow (map of rs)
  slotted_cycle_iff = (λ c. (c.0, path_of_slots c.1), λ c. (c.0, path_of_larger slots_of_rows c.1))

  -- the answer about cycles is the one that the computed test gives
  pub acyclic_of_answer : (b : Bool) → TellsCycle slots b → acyclic arrowb (map of rs) ≡ not b
  acyclic_of_answer b t = acyclic_of_tells (map of rs) b (λ e. slotted_cycle_iff.0 (t.0 e), λ c. t.1 (slotted_cycle_iff.1 c))

  -- a slot is told to be reached exactly if its row is
  module _ (Mark : A → Type 0) (marks : List Bool) (mk : MarkedAs Mark In marks) where
    abbrev Goes : A → A → Type 0
    Goes a b = Arrow (of a) (of b)

    reached_of_slot : (j : ℕ) (r : A) → j < 32 → In j r → SlotReached slots marks j → Reached Goes Mark rs r
    reached_of_slot j r l w (inl m) = (r, (st.row j r w).0, (mk.row j r w).0 m, inl refl)
    reached_of_slot j r l w (inr (i, h, m, p)) =
        let (a, q) = mk.slot i h m in
        let (n, e) = st.row i a q in
        let (u, f) = st.row j r w in
        (a, n, (mk.row i a q).0 m, inr (path_of_mapped of rs Arrow (path_of_slots p) a r n u (sym e) (sym f)))

    slot_of_reached : (j : ℕ) (r : A) → j < 32 → In j r → Reached Goes Mark rs r → SlotReached slots marks j
    slot_of_reached j r l w (a, n, m, inl e) = inl ((mk.row j r w).1 (rw e at m))
    slot_of_reached j r l w (a, n, m, inr p) =
        let (i, h, q) = st.slot a n in
        let g = path_of_larger slots_of_rows (mapped_of_path of rs Arrow p) in
        inr (i, h, (mk.row i a q).1 m, rw ((st.row i a q).1, (st.row j r w).1) g)

    pub reached_of_answer : (found : List Bool) → TellsReached slots marks found → (j : ℕ) (r : A) → j < 32 → In j r
        → Marked found j ↔ Reached Goes Mark rs r
    reached_of_answer found t j r l w = (λ e. reached_of_slot j r l w ((t.each j l).0 e), λ p. (t.each j l).1 (slot_of_reached j r l w p))

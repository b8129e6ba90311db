-- What aligned rows say to the graph: the slots hold just the rows that take part. Assumes nothing.
use mathlib.Core.Path.{◌≡◌, refl, sym, ap, ◌∙◌}
use mathlib.Core.Bool.{true}
use mathlib.Core.List.Memᴰ.{head as here}
use mathlib.Core.List.Memᴰ.{tail as there}
use mathlib.Core.List.{List, ◌∷◌}
use mathlib.Core.Logic.{inl, inr}
use Prim.Native.Nat.{ℕ, ◌<◌}
use native.Mathlib.Omega.{arith}
use lib.Dec.{eqb}
use lib.ListN.{length}
use borrow.Author.Tests.{eqb-true, eq-eqb}
use Rattle.std.specs.Prelude.{Option, Some, None}
use Rattle.std.specs.Option.{option_eq}
use Rattle.graph.specs.Lists.{◌∈◌}
use Rattle.graph.proofs.TestLaws.{true_or_false, either_of_or, or_of_left, or_of_right}
use Rattle.graph.proofs.MemberLaws.{kept_of_member, member_of_kept}
use Rattle.graph.proofs.PlaceLaws.{member_of_place, place_of_member}
use Rattle.orders.specs.Arrow.{Tickets, ticket_at}
use Rattle.paths.specs.Paths.{ticket_row}
use Rattle.paths.specs.Slotted.{Slotted}
use Rattle.paths.proofs.SlotLaws.{ticket_of_none}
use Rattle.method.specs.declared.Row.{Row}
use Rattle.method.specs.declared.Table.{Table}
use Rattle.method.specs.Records.{committed, past_end, row_at, tickets_of}
use Rattle.method.specs.Slots.{kept}
use Rattle.kept.specs.Aligned.{takes_part, Aligned}

-- slot i has the row a, and it takes part
abbrev pub In : Table → Option ℕ → ℕ → Row → Type 0
In t chosen i a = (i < 32) × (row_at t i ≡ a) × (takes_part t chosen i ≡ true)

module _ (t : Table) (chosen : Option ℕ) (slots : List Tickets) where
  slotted_of_aligned : (rs : List Row) → ((i : ℕ) (a : Row) → In t chosen i a → a ∈ rs) → ((a : Row) → a ∈ rs → (i : ℕ) × (i < 32) × In t chosen i a)
      → Aligned t chosen slots → Slotted tickets_of rs (In t chosen) slots
  slotted_of_aligned rs into slot al =
      record { size = al.size; row = λ i a w. (into i a w, al.each i w.0 ∙ rw w.2 (ap tickets_of w.1)); slot = slot; held = held }
    where
      held : (i s : ℕ) → i < 32 → 0 < ticket_at (ticket_row slots i) s → (a : Row) × In t chosen i a
      held i s h l = elim (true_or_false (takes_part t chosen i)) [
        | inl e ↦ (row_at t i, (h, refl, e))
        | inr e ↦ let z : ticket_at (ticket_row slots i) s ≡ 0 = rw (al.each i h, e) (ticket_of_none s) in absurd (omega arith)
      ]

module _ (t : Table) (l : length t.rows ≡ 32) where
  -- a slot with a committed row has a kept one, and each kept row has a slot
  kept_of_slot : (j : ℕ) (a : Row) → j < 32 → row_at t j ≡ a → committed (row_at t j) ≡ true → a ∈ kept t
  unfolding kept
  kept_of_slot j a h e p = rw e at (kept_of_member committed (member_of_place t.rows j past_end (omega arith)) p)

  slot_of_kept : (chosen : Option ℕ) (a : Row) → a ∈ kept t → (j : ℕ) × (j < 32) × In t chosen j a
  unfolding kept
  slot_of_kept chosen a m =
      let (n, e) = member_of_kept committed t.rows m in
      let (j, h, q) = place_of_member past_end n in
      let g : j < 32 = rw l at h in
      (j, g, (g, q, or_of_right (option_eq eqb chosen (Some j)) (rw q e)))

  -- sweep's graph: the kept rows
  pub slotted_kept : (slots : List Tickets) → Aligned t None slots → Slotted tickets_of (kept t) (In t None) slots
  slotted_kept slots = slotted_of_aligned t None slots (kept t) (λ j a w. kept_of_slot j a w.0 w.1 w.2) (slot_of_kept None)

  -- decide's graph: the kept rows, and the one to be decided
  pub slotted_with : (i : ℕ) → i < 32 → (slots : List Tickets) → Aligned t (Some i) slots → Slotted tickets_of (row_at t i ∷ kept t) (In t (Some i)) slots
  slotted_with i g slots = slotted_of_aligned t (Some i) slots (row_at t i ∷ kept t) into slot
    where
      into : (j : ℕ) (a : Row) → In t (Some i) j a → a ∈ row_at t i ∷ kept t
      into j a w = elim (either_of_or (eqb i j) (committed (row_at t j)) w.2) [
        | inl e ↦ here (sym w.1 ∙ ap (λ (k : ℕ). row_at t k) (sym (eqb-true i j e)))
        | inr e ↦ there (kept_of_slot j a w.0 w.1 e)
      ]

      slot : (a : Row) → a ∈ row_at t i ∷ kept t → (j : ℕ) × (j < 32) × In t (Some i) j a
      slot a (here e) = (i, g, (g, sym e, or_of_left (committed (row_at t i)) (eq-eqb i i refl)))
      slot a (there m) = slot_of_kept (Some i) a m

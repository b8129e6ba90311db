-- A sweep keeps the invariant: it frees committed rows that no active one holds back and that no row that stays has an arrow
-- to. Assumes nothing.
use mathlib.Core.Path.{◌≡◌, refl, ◌∙◌}
use mathlib.Core.Bool.{Bool, true, false, not, ◌&&◌, cond}
use mathlib.Core.List.{List}
use mathlib.Core.Logic.{◌⊎◌, inl, inr}
use Prim.Native.Nat.{ℕ}
use lib.ListN.{length-map, get_or-map}
use Rattle.graph.specs.Lists.{◌∈◌}
use Rattle.graph.proofs.TestLaws.{true_or_false, true_not_false}
use Rattle.graph.proofs.ReachedLaws.{reached_of_next}
use Rattle.orders.specs.Entries.{Entry}
use Rattle.method.specs.declared.Row.{Row}
use Rattle.method.specs.declared.Table.{Table}
use Rattle.method.specs.Records.{free_row, past_end, row_at, high_at, committed, Goes}
use Rattle.method.specs.Slots.{kept, entry_of}
use Rattle.method.specs.Conditions.{Closed, HeldBack}
use Rattle.method.specs.Effects.{stays, swept_row, swept_table}
use Rattle.method.proofs.RecordLaws.{committed_iff}
use Rattle.method.proofs.SlotLaws.{kept_of_place}
use Rattle.method.proofs.GraphLaws.{stays_iff}
use Rattle.method.specs.Seen.{IsCommitted}
use Rattle.invariant.specs.Sound.{Past, Gone}
use Rattle.invariant.specs.Invariant.{Invariant}
use Rattle.invariant.proofs.FreeLaws.{Blank, sound_freed, blank_past}
use Rattle.invariant.proofs.OrderlyLaws.{orderly_freed}
use Rattle.invariant.proofs.ShapeLaws.{shape_freed}
use Rattle.invariant.proofs.KnownLaws.{blank_free, no_site_free, later_of_free}
use Rattle.invariant.proofs.DropLaws.{past_of_loose}

module _ (t : Table) where
  abbrev row' : ℕ → Row
  row' = row_at (swept_table t)

  pub kept_of_slot : (j : ℕ) → IsCommitted (row_at t j) → row_at t j ∈ kept t
  unfolding kept
  kept_of_slot j c = kept_of_place committed t.rows j past_end refl ((committed_iff (row_at t j).state).1 c)

  -- each slot is what the sweep makes of it
  pub swept_slot : (j : ℕ) → row' j ≡ swept_row t (row_at t j)
  unfolding swept_row
  swept_slot j = get_or-map (swept_row t) t.rows j past_end

  -- a slot goes if it is committed and does not stay
  pub slot_goes : (j : ℕ) → IsCommitted (row_at t j) → stays t (row_at t j) ≡ false → row' j ≡ free_row
  unfolding swept_row
  slot_goes j c s = swept_slot j ∙ rw ((committed_iff (row_at t j).state).1 c, s)

  pub slot_stays : (j : ℕ) → stays t (row_at t j) ≡ true → row' j ≡ row_at t j
  unfolding swept_row
  slot_stays j s = swept_slot j ∙ go (committed (row_at t j))
    where
      go : (b : Bool) → cond (b && not (stays t (row_at t j))) free_row (row_at t j) ≡ row_at t j
      go true = rw s
      go false = refl

  pub slot_other : (j : ℕ) → ¬ IsCommitted (row_at t j) → row' j ≡ row_at t j
  unfolding swept_row
  slot_other j n = swept_slot j ∙ go (true_or_false (committed (row_at t j)))
    where
      go : (committed (row_at t j) ≡ true) ⊎ (committed (row_at t j) ≡ false) → swept_row t (row_at t j) ≡ row_at t j
      go (inl e) = absurd (n ((committed_iff (row_at t j).state).0 e))
      go (inr e) = rw e

  -- so a slot is as it was, or was committed and is free
  pub slot_swept : (j : ℕ) → (row' j ≡ row_at t j) ⊎ (IsCommitted (row_at t j) × (row' j ≡ free_row))
  slot_swept j = elim (true_or_false (stays t (row_at t j))) [
    | inl s ↦ inl (slot_stays j s)
    | inr s ↦ elim (true_or_false (committed (row_at t j))) [
      | inl c ↦ let k = (committed_iff (row_at t j).state).0 c in inr (k, slot_goes j k s)
      | inr c ↦ inl (slot_other j (λ k. true_not_false ((committed_iff (row_at t j).state).1 k) c))
    ]
  ]

  slot_cases : (j : ℕ) → (row' j ≡ row_at t j) ⊎ (row' j ≡ free_row)
  slot_cases j = elim (slot_swept j) [ inl e ↦ inl e | inr e ↦ inr e.1 ]

  -- one that does not stay is not held back, and nothing that stays has an arrow to it
  module _ (i : ℕ) (c : IsCommitted (row_at t i)) (s : stays t (row_at t i) ≡ false) where
    pub free_of_hold : ¬ HeldBack t (row_at t i)
    free_of_hold h = true_not_false ((stays_iff t (row_at t i) (kept_of_slot i c)).1 (row_at t i, kept_of_slot i c, h, inl refl)) s

    pub no_arrow_in : (j : ℕ) → IsCommitted (row_at t j) → stays t (row_at t j) ≡ true → ¬ Goes (row_at t j) (row_at t i)
    no_arrow_in j d k a = true_not_false
        ((stays_iff t (row_at t i) (kept_of_slot i c)).1 (reached_of_next (kept_of_slot i c) ((stays_iff t (row_at t j) (kept_of_slot j d)).0 k) (kept_of_slot j d) a)) s

  pub invariant_sweep : (es : List Entry) → Invariant t es → ¬ Closed t → Invariant (swept_table t) es
  invariant_sweep es v nc = record {
    shape = shape_freed t (swept_table t) v.shape (length-map t.rows (swept_row t) ∙ v.shape.slots) refl refl slot_cases no_site_free;
    sound = sound_freed (row_at t) row' free lost (high_at t) t.last.0 es v.sound;
    orderly = orderly_freed (row_at t) row' free v.orderly;
    shut = λ k. absurd (nc k);
  }
    where
      free : (j : ℕ) → (row' j ≡ row_at t j) ⊎ Blank (row' j)
      free j = elim (slot_cases j) [ inl e ↦ inl e | inr e ↦ inr (rw e blank_free) ]

      past : (i : ℕ) → IsCommitted (row_at t i) → stays t (row_at t i) ≡ false → (j : ℕ) → Past (entry_of (row_at t i)) (row' j)
      past i c s j = go (true_or_false (stays t (row_at t j))) (true_or_false (committed (row_at t j)))
        where
          loose : (IsCommitted (row_at t j) → ¬ Goes (row_at t j) (row_at t i)) → Past (entry_of (row_at t i)) (row_at t j)
          loose = past_of_loose (row_at t) (high_at t) t.last.0 es v.sound i c (later_of_free t (row_at t i) (free_of_hold i c s)) j

          go : (stays t (row_at t j) ≡ true) ⊎ (stays t (row_at t j) ≡ false) → (committed (row_at t j) ≡ true) ⊎ (committed (row_at t j) ≡ false) → Past (entry_of (row_at t i)) (row' j)
          go (inl k) d = rw (slot_stays j k) (loose (λ x. no_arrow_in i c s j x k))
          go (inr k) (inl d) = rw (slot_goes j ((committed_iff (row_at t j).state).0 d) k) (blank_past blank_free (entry_of (row_at t i)))
          go (inr k) (inr d) =
              let n : ¬ IsCommitted (row_at t j) = λ x. true_not_false ((committed_iff (row_at t j).state).1 x) d in
              rw (slot_other j n) (loose (λ x. absurd (n x)))

      lost : (i : ℕ) → IsCommitted (row_at t i) → (row' i ≡ row_at t i) ⊎ Gone row' (entry_of (row_at t i))
      lost i c = elim (true_or_false (stays t (row_at t i))) [ inl s ↦ inl (slot_stays i s) | inr s ↦ inr (past i c s) ]

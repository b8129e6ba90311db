-- Abort and forget: one slot is freed. What a committed row must show so that it may be forgotten. Assumes nothing.
use mathlib.Core.Path.{◌≡◌, refl, sym, subst}
use mathlib.Core.List.{List}
use mathlib.Core.Logic.{◌≢◌, ◌⊎◌, inl, inr}
use Prim.Native.Nat.{ℕ, ◌<◌}
use lib.ListN.{length}
use Rattle.orders.specs.Entries.{Entry}
use Rattle.method.specs.declared.Row.{Row}
use Rattle.method.specs.declared.Table.{Table}
use Rattle.method.specs.Records.{free_row, row_at, high_at, with_row, Goes}
use Rattle.method.specs.Slots.{slot_of, row_of_number, entry_of}
use Rattle.method.specs.Conditions.{Closed, Unknown, MayNotForget}
use Rattle.method.specs.Effects.{freed}
use Rattle.method.specs.Seen.{IsActive, IsCommitted, num}
use Rattle.invariant.specs.Sound.{Past, Gone, Sound}
use Rattle.invariant.specs.Invariant.{Invariant}
use Rattle.invariant.proofs.ChangeLaws.{Changed, not_committed, not_free, every}
use Rattle.invariant.proofs.FreeLaws.{Blank, sound_freed, blank_past}
use Rattle.invariant.proofs.OrderlyLaws.{orderly_freed}
use Rattle.invariant.proofs.ShapeLaws.{shape_set}
use Rattle.invariant.proofs.KnownLaws.{found, changed, blank_free, no_site_free, later_of_free, unpointed_of_free}

-- a committed row that no active one holds back is past, for each row without an arrow to it
pub past_of_loose : (row : ℕ → Row) (high : ℕ → ℕ) (last : ℕ) (es : List Entry) → Sound row high last es → (i : ℕ) → IsCommitted (row i)
    → ((j : ℕ) → IsActive (row j) → (row i).last.0 < num (row j)) → (j : ℕ) → (IsCommitted (row j) → ¬ Goes (row j) (row i)) → Past (entry_of (row i)) (row j)
unfolding entry_of
past_of_loose row high last es v i c late j u = record {
  unpointed = u;
  other = λ a. (v.pairs j i (two a)).numbers ((v.rows j).named (not_free a));
  above = λ a. (v.pairs i j (λ e. two a (sym e))).later c a (late j a);
}
  where
    two : IsActive (row j) → j ≢ i
    two a e = not_committed a (subst (λ (k : ℕ). IsCommitted (row k)) (sym e) c)

-- one slot freed
pub invariant_freed : (t : Table) (es : List Entry) (i : ℕ) → Invariant t es → ¬ Closed t → i < length t.rows
    → (IsCommitted (row_at t i) → (j : ℕ) → j ≢ i → Past (entry_of (row_at t i)) (row_at t j)) → Invariant (with_row t i free_row) es
invariant_freed t es i v nc h past = record {
  shape = shape_set t (with_row t i free_row) i free_row v.shape h refl refl v.shape.highs refl (λ f. refl) (λ s m. absurd (no_site_free s m));
  sound = sound_freed (row_at t) (row_at (with_row t i free_row)) free lost (high_at t) t.last.0 es v.sound;
  orderly = orderly_freed (row_at t) (row_at (with_row t i free_row)) free v.orderly;
  shut = λ c. absurd (nc c);
}
  where
    ch : Changed (row_at t) i free_row (row_at (with_row t i free_row))
    ch = changed t i free_row h

    free : (j : ℕ) → (row_at (with_row t i free_row) j ≡ row_at t j) ⊎ Blank (row_at (with_row t i free_row) j)
    free j = elim (ch j) [ inl e ↦ inr (rw e.1 blank_free) | inr e ↦ inl e.1 ]

    lost : (j : ℕ) → IsCommitted (row_at t j) → (row_at (with_row t i free_row) j ≡ row_at t j) ⊎ Gone (row_at (with_row t i free_row)) (entry_of (row_at t j))
    lost j c = elim (ch j) [
      | inl e ↦ inr (subst (λ (k : ℕ). Gone (row_at (with_row t i free_row)) (entry_of (row_at t k))) (sym e.0)
          (every ch (Past (entry_of (row_at t i))) (blank_past blank_free (entry_of (row_at t i))) (past (subst (λ (k : ℕ). IsCommitted (row_at t k)) e.0 c))))
      | inr e ↦ inl e.1
    ]

pub invariant_abort : (t : Table) (es : List Entry) (n : ℕ) → Invariant t es → ¬ Closed t → ¬ Unknown t n → ¬ ¬ IsActive (row_of_number t n) → Invariant (freed t n) es
invariant_abort t es n v nc nu na = invariant_freed t es (slot_of t n) v nc (found t n nu).slot (λ c. absurd (na (λ a. not_committed a c)))

pub invariant_forget : (t : Table) (es : List Entry) (n : ℕ) → Invariant t es → ¬ Closed t → ¬ Unknown t n → ¬ MayNotForget t (row_of_number t n) → Invariant (freed t n) es
invariant_forget t es n v nc nu nf = invariant_freed t es (slot_of t n) v nc (found t n nu).slot
    (λ c j d. past_of_loose (row_at t) (high_at t) t.last.0 es v.sound (slot_of t n) c
    (later_of_free t (row_of_number t n) (λ h. nf (inr h))) j (unpointed_of_free t (row_of_number t n) (λ h. nf (inl h)) j))

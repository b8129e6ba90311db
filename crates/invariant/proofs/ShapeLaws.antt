-- The shape of a table after one slot was set, and after slots were freed. Assumes nothing.
use mathlib.Core.Path.{◌≡◌, ◌∙◌}
use mathlib.Core.Logic.{◌≢◌, ◌⊎◌, inl, inr}
use Prim.Native.Nat.{ℕ, ◌<◌}
use lib.ListN.{length, set, length-set}
use Rattle.method.specs.declared.Row.{Row}
use Rattle.method.specs.declared.Table.{Table}
use Rattle.method.specs.Records.{free_row, past_end, row_at}
use Rattle.method.proofs.SlotLaws.{set_cases}
use Rattle.method.specs.Seen.{IsFree, Has}
use Rattle.invariant.specs.Invariant.{Shape}

-- slot i became r, and nothing else that the shape is about changed
pub shape_set : (t t' : Table) (i : ℕ) (r : Row) → Shape t → i < length t.rows → t'.rows ≡ set t.rows i r → t'.sites ≡ t.sites → length t'.high ≡ 8
    → length r.parts ≡ 8 → (IsFree r → r ≡ free_row) → ((s : ℕ) → Has r s → s < t.sites) → Shape t'
shape_set t t' i r h l e q k p f o = record {
  slots = rw (e, length-set t.rows i r) h.slots;
  parts = λ j m. elim (cases j) [ inl c ↦ rw c.1 p | inr c ↦ rw c.1 (h.parts j m) ];
  highs = k;
  zeros = λ j m z. elim (cases j) [ inl c ↦ c.1 ∙ f (rw c.1 at z) | inr c ↦ c.1 ∙ h.zeros j m (rw c.1 at z) ];
  sites = rw q h.sites;
  own = λ j s m. rw q (elim (cases j) [ inl c ↦ o s (rw c.1 at m) | inr c ↦ h.own j s (rw c.1 at m) ]);
}
  where
    cases : (j : ℕ) → ((j ≡ i) × (row_at t' j ≡ r)) ⊎ ((j ≢ i) × (row_at t' j ≡ row_at t j))
    cases j = rw e (set_cases t.rows i r past_end l j)

-- each slot stayed or became free
pub shape_freed : (t t' : Table) → Shape t → length t'.rows ≡ 32 → t'.sites ≡ t.sites → t'.high ≡ t.high
    → ((i : ℕ) → (row_at t' i ≡ row_at t i) ⊎ (row_at t' i ≡ free_row)) → ((s : ℕ) → ¬ Has free_row s) → Shape t'
shape_freed t t' h n q k c none = record {
  slots = n;
  parts = λ i l. elim (c i) [ inl e ↦ rw e (h.parts i l) | inr e ↦ rw e ];
  highs = rw k h.highs;
  zeros = λ i l f. elim (c i) [ inl e ↦ e ∙ h.zeros i l (rw e at f) | inr e ↦ e ];
  sites = rw q h.sites;
  own = λ i s m. rw q (elim (c i) [ inl e ↦ h.own i s (rw e at m) | inr e ↦ absurd (none s (rw e at m)) ]);
}

-- A table in which one slot was changed: what holds of every slot, and of every two, after the change. Assumes nothing.
use mathlib.Core.Path.{◌≡◌, refl, sym, ap, subst, ◌∙◌}
use mathlib.Core.Logic.{◌≢◌, ◌⊎◌, inl, inr}
use Prim.Native.Nat.{ℕ}
use Rattle.orders.specs.Entries.{Entry}
use Rattle.method.specs.declared.State.{State}
use Rattle.method.specs.declared.Row.{Row}
use Rattle.method.specs.Slots.{entry_of}
use Rattle.method.proofs.RecordLaws.{never}
use Rattle.method.specs.Seen.{IsCommitted}
use Rattle.invariant.specs.Sound.{Still}

-- slot i became r, the others stayed
abbrev pub Changed : (ℕ → Row) → ℕ → Row → (ℕ → Row) → Type 0
Changed row i r row' = (j : ℕ) → ((j ≡ i) × (row' j ≡ r)) ⊎ ((j ≢ i) × (row' j ≡ row j))

-- a slot is in one state only
pub not_committed : {x : State} → x ≡ State.Active → ¬ (x ≡ State.Committed)
not_committed a c = never (cc)

pub not_free : {x : State} → x ≡ State.Active → ¬ (x ≡ State.Free)
not_free a f = never (cc)

module _ {row row' : ℕ → Row} {i : ℕ} {r : Row} (ch : Changed row i r row') where
  pub every : (P : Row → Type 0) → P r → ((j : ℕ) → j ≢ i → P (row j)) → (j : ℕ) → P (row' j)
  every P p f j = elim (ch j) [ inl e ↦ subst P (sym e.1) p | inr e ↦ subst P (sym e.1) (f j e.0) ]

  pub both : (R : Row → Row → Type 0) → ((j : ℕ) → j ≢ i → R r (row j)) → ((j : ℕ) → j ≢ i → R (row j) r)
      → ((j k : ℕ) → j ≢ k → R (row j) (row k)) → (j k : ℕ) → j ≢ k → R (row' j) (row' k)
  both R a b f j k h = elim (ch j) [
    | inl e ↦ elim (ch k) [
      | inl g ↦ absurd (h (e.0 ∙ sym g.0))
      | inr g ↦ subst (R (row' j)) (sym g.1) (subst (λ (x : Row). R x (row k)) (sym e.1) (a k g.0))
    ]
    | inr e ↦ elim (ch k) [
      | inl g ↦ subst (R (row' j)) (sym g.1) (subst (λ (x : Row). R x r) (sym e.1) (b j e.0))
      | inr g ↦ subst (R (row' j)) (sym g.1) (subst (λ (x : Row). R x (row k)) (sym e.1) (f j k h))
    ]
  ]

  -- the new row is there
  pub there : (P : Row → Type 0) → P r → P (row' i)
  there P p = elim (ch i) [ inl e ↦ subst P (sym e.1) p | inr e ↦ absurd (e.0 refl) ]

  -- what stood in the table still does, if the slot that changed held no committed one
  pub keeps : ¬ IsCommitted (row i) → {e : Entry} → Still row e → Still row' e
  keeps n k = elim (ch k.0) [
    | inl g ↦ absurd (n (subst (λ (j : ℕ). IsCommitted (row j)) g.0 k.1))
    | inr g ↦ (k.0, subst IsCommitted (sym g.1) k.1, ap entry_of g.1 ∙ k.2)
  ]

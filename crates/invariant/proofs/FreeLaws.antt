-- A table in which some slots became free, and no committed one was lost that an arrow could still reach. This is all that
-- abort, a decision for cycle, forget and sweep do. Assumes nothing.
use mathlib.Core.Path.{◌≡◌, sym, ap, subst, ◌∙◌}
use mathlib.Core.Logic.{◌≢◌, ◌⊎◌, inl, inr}
use mathlib.Core.List.{List}
use Prim.Native.Nat.{ℕ}
use native.Mathlib.Omega.{arith}
use Rattle.orders.specs.Entries.{Entry}
use Rattle.method.specs.declared.Row.{Row}
use Rattle.method.specs.Slots.{entry_of}
use Rattle.method.proofs.RecordLaws.{never}
use Rattle.method.specs.Seen.{IsFree, IsCommitted, num, Has, tick}
use Rattle.invariant.specs.Sound.{RowSound, PairSound, Past, Still, Gone, Sound}

-- a free row: no number, no tickets
pub record Blank (r : Row) : Type 0 where
  pub free : IsFree r
  pub number : num r ≡ 0
  pub tickets : (s : ℕ) → tick r s ≡ 0
  pub last : r.last.0 ≡ 0
  pub sites : (s : ℕ) → ¬ Has r s

module _ {f : Row} (b : Blank f) where
  pub blank_row : (high : ℕ → ℕ) (last : ℕ) → RowSound high last f
  blank_row high last = record {
    blank = λ x. b.tickets;
    named = λ n. absurd (n b.free);
    counted = omega (arith, b.number);
    marked = omega (arith, b.last);
    listed = λ s h. absurd (omega (arith, b.tickets s));
    over = λ s h. absurd (omega (arith, b.tickets s));
    based = λ s h. absurd (b.sites s h);
    below = λ c. let z = b.free in never (cc);
    prepared = λ c. let z = b.free in never (cc);
  }

  pub blank_left : (q : Row) → PairSound f q
  blank_left q = record { numbers = λ h. absurd (omega (arith, b.number)); tickets = λ c. let z = b.free in never (cc); later = λ c. let z = b.free in never (cc) }

  pub blank_right : (q : Row) → PairSound q f
  blank_right q = record { numbers = λ h. omega (arith, b.number); tickets = λ c d. let z = b.free in never (cc); later = λ c a. let z = b.free in never (cc) }

  pub blank_past : (e : Entry) → Past e f
  blank_past e = let z = b.free in record { unpointed = λ c. never (cc); other = λ a. never (cc); above = λ a. never (cc) }

module _ (row row' : ℕ → Row) (freed : (i : ℕ) → (row' i ≡ row i) ⊎ Blank (row' i)) where
  every : (P : Row → Type 0) → ((i : ℕ) → Blank (row' i) → P (row' i)) → ((i : ℕ) → P (row i)) → (i : ℕ) → P (row' i)
  every P n f i = elim (freed i) [ inl e ↦ subst P (sym e) (f i) | inr b ↦ n i b ]

  -- what holds of every two slots and of a free one beside any holds of every two after it
  pub both : (R : Row → Row → Type 0) → ((f : Row) → Blank f → (q : Row) → R f q) → ((f : Row) → Blank f → (q : Row) → R q f)
      → ((i j : ℕ) → i ≢ j → R (row i) (row j)) → (i j : ℕ) → i ≢ j → R (row' i) (row' j)
  both R l m f i j h = elim (freed i) [
    | inl e ↦ elim (freed j) [
      | inl g ↦ subst (R (row' i)) (sym g) (subst (λ (x : Row). R x (row j)) (sym e) (f i j h))
      | inr b ↦ m (row' j) b (row' i)
    ]
    | inr b ↦ l (row' i) b (row' j)
  ]

  module _ (lost : (i : ℕ) → IsCommitted (row i) → (row' i ≡ row i) ⊎ Gone row' (entry_of (row i))) where
    place : (e : Entry) → Still row e ⊎ Gone row e → Still row' e ⊎ Gone row' e
    place e (inl k) = elim (lost k.0 k.1) [
      | inl p ↦ inl (k.0, subst IsCommitted (sym p) k.1, ap entry_of p ∙ k.2)
      | inr g ↦ inr (subst (Gone row') k.2 g)
    ]
    place e (inr g) = inr (every (Past e) (λ i b. blank_past b e) g)

    pub sound_freed : (high : ℕ → ℕ) (last : ℕ) (es : List Entry) → Sound row high last es → Sound row' high last es
    sound_freed high last es v = record {
      rows = every (RowSound high last) (λ i b. blank_row b high last) v.rows;
      pairs = both PairSound (λ f b. blank_left b) (λ f b. blank_right b) v.pairs;
      entries = λ e m. let k = v.entries e m in record { counted = k.counted; below = k.below; place = place e k.place };
      noted = λ i c. elim (freed i) [ inl e ↦ rw e (v.noted i (rw e at c)) | inr b ↦ let z = b.free in never (cc) ];
      apart = v.apart;
      acyclic = v.acyclic;
    }

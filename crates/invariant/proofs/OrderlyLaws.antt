-- No two transactions in the table hold the same ticket, over each kind of change. Assumes nothing.
use mathlib.Core.Path.{◌≡◌, sym}
use mathlib.Core.Logic.{◌≢◌, ◌⊎◌, inl, inr}
use Prim.Native.Nat.{ℕ}
use native.Mathlib.Omega.{arith}
use Rattle.method.specs.declared.Row.{Row}
use Rattle.method.specs.Seen.{tick}
use Rattle.invariant.specs.Sound.{Differs}
use Rattle.invariant.specs.Orderly.{Orderly}
use Rattle.invariant.proofs.ChangeLaws.{Changed}
use Rattle.invariant.proofs.ChangeLaws as one
use Rattle.invariant.proofs.FreeLaws.{Blank}
use Rattle.invariant.proofs.FreeLaws as some

blank_left : {f : Row} → Blank f → (q : Row) → Differs f q
blank_left b q s h = absurd (omega (arith, b.tickets s))

blank_right : {f : Row} → Blank f → (q : Row) → Differs q f
blank_right b q s h = omega (arith, b.tickets s)

pub orderly_empty : (row : ℕ → Row) → ((i : ℕ) → Blank (row i)) → Orderly row
orderly_empty row b i j n = blank_left (b i) (row j)

pub orderly_freed : (row row' : ℕ → Row) → ((i : ℕ) → (row' i ≡ row i) ⊎ Blank (row' i)) → Orderly row → Orderly row'
orderly_freed row row' f = some.both row row' f Differs (λ f b. blank_left b) (λ f b. blank_right b)

-- one row changed: each of its tickets is the old one, none, or one that no other slot holds
pub orderly_changed : {row row' : ℕ → Row} {i : ℕ} {r : Row} → Changed row i r row'
    → ((s : ℕ) → (tick r s ≡ tick (row i) s) ⊎ ((tick r s ≡ 0) ⊎ ((j : ℕ) → j ≢ i → tick r s ≢ tick (row j) s))) → Orderly row → Orderly row'
orderly_changed {row} {row'} {i} {r} ch new v = one.both ch Differs left right v
  where
    left : (j : ℕ) → j ≢ i → Differs r (row j)
    left j n s h = elim (new s) [
      | inl e ↦ omega (arith, v i j (λ x. n (sym x)) s (omega arith))
      | inr (inl e) ↦ absurd (omega arith)
      | inr (inr k) ↦ k j n
    ]

    right : (j : ℕ) → j ≢ i → Differs (row j) r
    right j n s h = elim (new s) [
      | inl e ↦ omega (arith, v j i n s h)
      | inr (inl e) ↦ omega arith
      | inr (inr k) ↦ λ x. k j n (sym x)
    ]

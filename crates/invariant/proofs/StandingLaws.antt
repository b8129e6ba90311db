-- Who stands where in a table with the invariant: one number has one slot, and a closed table is empty. Assumes nothing.
use mathlib.Core.Path.{◌≡◌, sym, ap, ◌∙◌}
use mathlib.Core.List.{List}
use mathlib.Core.Logic.{◌≢◌}
use Prim.Native.Nat.{ℕ, ◌<◌}
use native.Mathlib.Omega.{arith}
use native.Mathlib.Decide.{dec_lt}
use lib.ListN.{get_or-replicate, get_or-eq_default}
use Rattle.orders.specs.Entries.{Entry}
use Rattle.method.specs.declared.Row.{Row}
use Rattle.method.specs.declared.Table.{Table}
use Rattle.method.specs.Records.{free_row, past_end, closed, row_at}
use Rattle.method.specs.Seen.{IsFree, num}
use Rattle.method.specs.Conditions.{Closed}
use Rattle.invariant.specs.Invariant.{Invariant}

module _ (t : Table) (es : List Entry) (v : Invariant t es) where
  -- two slots do not have the same number
  pub one_slot : (i j n : ℕ) → j ≢ i → ¬ IsFree (row_at t i) → ¬ IsFree (row_at t j) → num (row_at t i) ≡ n → num (row_at t j) ≡ n → ⊥
  one_slot i j n d f g p q = (v.sound.pairs i j (λ e. d (sym e))).numbers ((v.sound.rows i).named f) (p ∙ sym q)

  pub closed_free : Closed t → (j : ℕ) → IsFree (row_at t j)
  closed_free cl j = rw (v.shut cl).1 (get_or_free (dec_lt j 32))
    where
      get_or_free : Dec (j < 32) → IsFree (row_at closed j)
      get_or_free (yes l) = ap (λ (r : Row). r.state) (get_or-replicate 32 j free_row past_end l)
      get_or_free (no l) = ap (λ (r : Row). r.state) (get_or-eq_default closed.rows past_end {n = j} (omega arith))

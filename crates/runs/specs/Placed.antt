-- In which slot a transaction stands, read off the run.
use Rattle.std.specs.Prelude.{◌≡◌, ◌⊎◌, ℕ, ◌<◌, length}
use Rattle.method.specs.declared.Table.{Table}
use Rattle.method.specs.Records.{free_row, row_at}
use Rattle.method.specs.Calls.{Call}
use Rattle.runs.specs.Run.{Run, Run.call, after, answer_to, Begins}
use Rattle.method.specs.Seen.{IsFree, num}

-- the slot is free, and no slot below it is
pub record Lowest (t : Table) (i : ℕ) : Type 0 where
  pub within : i < 32
  pub free : IsFree (row_at t i)
  pub below : (j : ℕ) → j < i → ¬ IsFree (row_at t j)

pub record Placed (r : Run) : Type 0 where
  -- there are 32 slots, and a free one holds only zeros
  pub slots : length (after r).rows ≡ 32
  pub zeros : (i : ℕ) → i < 32 → IsFree (row_at (after r) i) → row_at (after r) i ≡ free_row
  -- no two slots have the same number
  pub once : (i j : ℕ) → ¬ IsFree (row_at (after r) i) → ¬ IsFree (row_at (after r) j) → num (row_at (after r) i) ≡ num (row_at (after r) j) → i ≡ j
  -- whoever stands in a slot after one more call stood in it before, or was begun by this call in the lowest free one
  pub given : (c : Call) (i : ℕ) → ¬ IsFree (row_at (after (call r c)) i)
      → ((¬ IsFree (row_at (after r) i)) × (num (row_at (after (call r c)) i) ≡ num (row_at (after r) i)))
      ⊎ (Lowest (after r) i × ((sites : ℕ) × Begins (num (row_at (after (call r c)) i)) sites (after r) c (answer_to r c)))

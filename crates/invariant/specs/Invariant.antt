-- The invariant of a table: the shape of its lists, what every method keeps (specs/Sound.antt), and what this one adds
-- (specs/Orderly.antt).
use Rattle.std.specs.Prelude.{◌≡◌, List, [], ℕ, ◌≤◌, ◌<◌, length}
use Rattle.orders.specs.Entries.{Entry}
use Rattle.method.specs.declared.Table.{Table}
use Rattle.method.specs.Records.{free_row, closed, row_at, high_at}
use Rattle.method.specs.Conditions.{Closed}
use Rattle.method.specs.Seen.{IsFree, Has}
use Rattle.invariant.specs.Sound.{Sound}
use Rattle.invariant.specs.Orderly.{Orderly}

pub record Shape (t : Table) : Type 0 where
  -- 32 slots of 8 sites each, and 8 highest tickets
  pub slots : length t.rows ≡ 32
  pub parts : (i : ℕ) → i < 32 → length (row_at t i).parts ≡ 8
  pub highs : length t.high ≡ 8
  -- a free slot holds only zeros
  pub zeros : (i : ℕ) → i < 32 → IsFree (row_at t i) → row_at t i ≡ free_row
  -- transactions list the table's own sites
  pub sites : t.sites ≤ 8
  pub own : (i s : ℕ) → Has (row_at t i) s → s < t.sites

pub record Invariant (t : Table) (es : List Entry) : Type 0 where
  pub shape : Shape t
  pub sound : Sound (row_at t) (high_at t) t.last.0 es
  pub orderly : Orderly (row_at t)
  -- before the opening nothing was committed, and the table is all zeros
  pub shut : Closed t → (es ≡ []) × (t ≡ closed)

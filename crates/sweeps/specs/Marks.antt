-- A mark for each slot: the kept rows that are held back, and the kept rows that stay.
use Rattle.std.specs.Prelude.{◌≡◌, Bool, true, false, ◌&&◌, List, ℕ, ◌<◌, length, get_or}
use Rattle.method.specs.declared.Table.{Table}
use Rattle.method.specs.Records.{committed, row_at}
use Rattle.method.specs.Conditions.{held_back}
use Rattle.method.specs.Effects.{stays}

pub record HeldMarks (t : Table) (marks : List Bool) : Type 0 where
  pub size : length marks ≡ 32
  pub each : (i : ℕ) → i < 32 → get_or marks i false ≡ committed (row_at t i) && held_back t (row_at t i)

-- what it says of a slot that has no kept row is not looked at
pub record StayMarks (t : Table) (marks : List Bool) : Type 0 where
  pub size : length marks ≡ 32
  pub each : (i : ℕ) → i < 32 → committed (row_at t i) ≡ true → get_or marks i false ≡ stays t (row_at t i)

-- The kept rows' tickets, slot by slot, and with them the row that is to be decided.
use Rattle.std.specs.Prelude.{◌≡◌, Bool, cond, ◌||◌, List, ℕ, ◌<◌, Option, Some, eqb, length, replicate}
use Rattle.std.specs.Option.{option_eq}
use Rattle.orders.specs.Arrow.{Tickets}
use Rattle.paths.specs.Paths.{ticket_row}
use Rattle.method.specs.declared.Table.{Table}
use Rattle.method.specs.Records.{committed, row_at, tickets_of}

-- the committed rows take part, and the row in the chosen slot does
abbrev pub takes_part : Table → Option ℕ → ℕ → Bool
takes_part t chosen i = option_eq eqb chosen (Some i) || committed (row_at t i)

abbrev pub aligned_row : Table → Option ℕ → ℕ → Tickets
aligned_row t chosen i = cond (takes_part t chosen i) (tickets_of (row_at t i)) (replicate 8 0)

pub record Aligned (t : Table) (chosen : Option ℕ) (slots : List Tickets) : Type 0 where
  pub size : length slots ≡ 32
  pub each : (i : ℕ) → i < 32 → ticket_row slots i ≡ aligned_row t chosen i

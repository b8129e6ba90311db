-- The code's turn, from its parts.
use Rattle.std.specs.Prelude.{Bool, ℕ}
use Rattle.table.specs.declared.Table.{Table}
use Rattle.turns.specs.declared.Turn.{Turn}

abbrev pub turn_of : Table → ℕ → ℕ → Bool → Turn
turn_of t u w o = record { table = t; used = u; written = w; over = o }

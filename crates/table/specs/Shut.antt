-- The table that a caller holds, and what a call on it answers and leaves: those of the method's table within.
use Rattle.std.specs.Prelude.{cond, ℕ}
use Rattle.sites.specs.Sites.{sites_used}
use Rattle.method.specs.declared.Table as method
use Rattle.method.specs.Slots.{row_of_number}
use Rattle.method.specs.Conditions.{is_closed, unknown}
use Rattle.method.specs.Calls.{Call, CallAnswer}
use Rattle.method.specs.Effects.{step}
use Rattle.table.specs.declared.Table.{Table}

abbrev pub shut_table : method.Table → Table
shut_table t = record { held = t }

abbrev pub answer_to : Table → Call → CallAnswer
answer_to t c = (step t.held c).answer

abbrev pub table_after : Table → Call → Table
table_after t c = shut_table (step t.held c).table

-- how many sites a transaction uses, as far as the table knows it
abbrev pub used_by : method.Table → ℕ → ℕ
used_by t n = cond (is_closed t) 0 (cond (unknown t n) 0 (sites_used (row_of_number t n).sites))

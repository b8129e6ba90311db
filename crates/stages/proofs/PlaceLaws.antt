-- What a report does, by the place that it leads to. Assumes nothing.
use mathlib.Core.Path.{◌≡◌, sym}
use Prim.Native.Nat.{ℕ}
use Rattle.std.specs.Prelude.{Ok}
use Rattle.method.specs.declared.Ticket.{Ticket}
use Rattle.method.specs.declared.Answer.{Answer}
use Rattle.method.specs.declared.Stage.{Stage}
use Rattle.method.specs.declared.Report.{Report}
use Rattle.method.specs.declared.Row.{Row}
use Rattle.method.specs.declared.Table.{Table}
use Rattle.method.specs.Records.{part, row_at, part_at, with_row, with_part}
use Rattle.method.specs.Slots.{slot_of, row_of_number}
use Rattle.method.specs.Effects.{answered, reported}
use Rattle.stages.specs.Place.{next_stage}

-- what a report does, said of the slot and the stage that were found
pub reported_at : (t : Table) (n i s : ℕ) (p : Report) (g : Stage) (k : Row → Ticket) → i ≡ slot_of t n
    → g ≡ next_stage (row_at t i) s p
    → answered (with_row t (slot_of t n) (reported (row_of_number t n) s p (k (row_of_number t n)))) (Ok Answer.Done)
    ≡ answered (with_row t i (with_part (row_at t i) s (part g (part_at (row_at t i) s).base (k (row_at t i))))) (Ok Answer.Done)
unfolding reported
reported_at t n i s p g k e f = rw (sym e, f)

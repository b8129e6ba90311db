-- The stage table: from which stage which report leads to which. RULES, The table.
use Rattle.std.specs.Prelude.{Bool, true, false, ℕ, Option, Some, None}
use Rattle.method.specs.declared.Stage.{Stage}
use Rattle.method.specs.declared.Report.{Report}

-- a site of a new transaction
abbrev pub first_stage : Stage
first_stage = Stage.Begun

-- the next stage, or none: the report is refused with 4
abbrev pub step_of : Stage → Report → Option Stage
step_of Stage.Begun Report.Ticket = Some Stage.Ticketed
step_of Stage.Begun Report.Prepared = None
step_of Stage.Ticketed Report.Ticket = None
step_of Stage.Ticketed Report.Prepared = Some Stage.Prepared
step_of Stage.Prepared Report.Ticket = None
step_of Stage.Prepared Report.Prepared = None

-- the places of a stage and of a report in the code's table
abbrev pub stage_no : Stage → ℕ
stage_no Stage.Begun = 0
stage_no Stage.Ticketed = 1
stage_no Stage.Prepared = 2

abbrev pub report_no : Report → ℕ
report_no Report.Ticket = 0
report_no Report.Prepared = 1

-- a site at this stage has had this report: the ticket from ticketed on, prepared at prepared. proofs/StageLaws.antt holds it to the table.
abbrev pub given : Report → Stage → Bool
given Report.Ticket Stage.Begun = false
given Report.Ticket Stage.Ticketed = true
given Report.Ticket Stage.Prepared = true
given Report.Prepared Stage.Begun = false
given Report.Prepared Stage.Ticketed = false
given Report.Prepared Stage.Prepared = true

-- What a call does that no check refuses, and the step that every call makes. RULES, Calls.
use Rattle.std.specs.Prelude.{Bool, true, false, not, cond, ◌&&◌, List, [], ◌∷◌, map, ℕ, zero, suc, ◌+◌, ◌-◌, max, length, get_or, set, replicate, Option, Some, None, unwrap_or, Ok, Err}
use Rattle.refusals.specs.declared.Refusal.{Refusal}
use Rattle.graph.specs.Lists.{keep}
use Rattle.graph.specs.Acyclic.{acyclic}
use Rattle.graph.specs.Reached.{reachedb}
use Rattle.orders.specs.Arrow.{arrowb}
use Rattle.sites.specs.Sites.{sites_of}
use Rattle.method.specs.declared.Ticket.{Ticket}
use Rattle.method.specs.declared.State.{State}
use Rattle.method.specs.declared.Report.{Report}
use Rattle.method.specs.declared.Part.{Part}
use Rattle.method.specs.declared.Row.{Row}
use Rattle.method.specs.declared.Table.{Table}
use Rattle.method.specs.declared.Answer.{Answer}
use Rattle.method.specs.declared.Answered.{Answered}
use Rattle.method.specs.Records.{number, ticket, part, no_part, row_of, free_row, table_of, part_at, committed, tickets_of, goesb, with_rows, with_row, with_high, with_last, with_part}
use Rattle.method.specs.Stages.{first_stage, step_of}
use Rattle.method.specs.Slots.{slot_of, row_of_number, free_slot, kept}
use Rattle.method.specs.Conditions.{held_back}
use Rattle.method.specs.Calls.{Call, CallAnswer, checks, first_true}
use Rattle.method.specs.Calls.Call.{open_with, begin, report_ticket, report_prepared, abort, decide, forget, sweep}

abbrev pub answered : Table → CallAnswer → Answered Table Refusal
answered t a = record { table = t; answer = a }

-- open: the floors, and zeros for the sites that the table lacks
unfoldable pub padded : ℕ → List ℕ → List Ticket
padded zero fs = []
padded (suc k) [] = ticket 0 ∷ padded k []
padded (suc k) (f ∷ fs) = ticket f ∷ padded k fs

unfoldable pub opened : ℕ → List ℕ → Table
opened first floors = table_of (length floors) (number (first - 1)) (padded 8 floors) (replicate 32 free_row)

-- begin: each listed site starts at the first stage, its base the highest committed ticket there
unfoldable pub based : List Ticket → List ℕ → List Part → List Part
based high [] ps = ps
based high (s ∷ ss) ps = based high ss (set ps s (part first_stage (get_or high s (ticket 0)) (ticket 0)))

unfoldable pub new_row : Table → ℕ → Row
new_row t sites = row_of State.Active (number (t.last.0 + 1)) sites (number 0) (based t.high (sites_of sites) (replicate 8 no_part))

-- ticket and prepared: the site goes to the stage that the stage table gives, and holds the ticket
unfoldable pub reported : Row → ℕ → Report → Ticket → Row
reported r s p k = with_part r s (part (unwrap_or (step_of (part_at r s).stage p) (part_at r s).stage) (part_at r s).base k)

-- abort, cycle, forget: the slot is free
abbrev pub freed : Table → ℕ → Table
freed t n = with_row t (slot_of t n) free_row

-- commit: the row records the last number begun, and the highest tickets of its sites rise to its own
unfoldable pub committed_row : Table → Row → Row
committed_row t r = row_of State.Committed r.number r.sites t.last r.parts

unfoldable pub raised : Row → List ℕ → List Ticket → List Ticket
raised r [] hs = hs
raised r (s ∷ ss) hs = raised r ss (set hs s (ticket (max (get_or hs s (ticket 0)).0 (part_at r s).ticket.0)))

unfoldable pub decided : Table → ℕ → Bool → Answered Table Refusal
decided t n true = answered
    (with_high (with_row t (slot_of t n) (committed_row t (row_of_number t n))) (raised (row_of_number t n) (sites_of (row_of_number t n).sites) t.high))
    (Ok (Answer.Commit (number n)))
decided t n false = answered (freed t n) (Ok (Answer.Cycle (number n)))

-- sweep: what no path of arrows reaches from a row that is held back goes
unfoldable pub stays : Table → Row → Bool
stays t = reachedb goesb (held_back t) (kept t)

unfoldable pub swept_row : Table → Row → Row
swept_row t r = cond (committed r && not (stays t r)) free_row r

abbrev pub swept_table : Table → Table
swept_table t = with_rows t (map (swept_row t) t.rows)

unfoldable pub swept_count : Table → ℕ
swept_count t = length (keep (λ r. not (stays t r)) (kept t))

unfoldable pub effect : Table → Call → Answered Table Refusal
effect t (open_with first floors) = answered (opened first floors) (Ok Answer.Done)
effect t (begin sites) =
    answered (with_row (with_last t (number (t.last.0 + 1))) (free_slot t) (new_row t sites)) (Ok (Answer.Begun (number (t.last.0 + 1))))
effect t (report_ticket n s k) = answered (with_row t (slot_of t n) (reported (row_of_number t n) s Report.Ticket (ticket k))) (Ok Answer.Done)
effect t (report_prepared n s) =
    answered (with_row t (slot_of t n) (reported (row_of_number t n) s Report.Prepared (part_at (row_of_number t n) s).ticket)) (Ok Answer.Done)
effect t (abort n) = answered (freed t n) (Ok Answer.Done)
effect t (decide n) = decided t n (acyclic arrowb (tickets_of (row_of_number t n) ∷ map tickets_of (kept t)))
effect t (forget n) = answered (freed t n) (Ok Answer.Done)
effect t sweep = answered (swept_table t) (Ok (Answer.Swept (swept_count t)))

-- a refused call changes nothing
unfoldable pub act : Table → Call → Option Refusal → Answered Table Refusal
act t c None = effect t c
act t c (Some k) = answered t (Err k)

unfoldable pub step : Table → Call → Answered Table Refusal
step t c = act t c (first_true (checks t c))

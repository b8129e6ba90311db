-- A run of calls from the closed table on, and what can be read off it: which call was made when, and what it was answered.
use Rattle.std.specs.Prelude.{◌≡◌, List, ◌⊎◌, ℕ, ◌+◌}
use Rattle.method.specs.Calls.{CallAnswer}
use Rattle.std.specs.Prelude.{Ok, Err}
use Rattle.method.specs.declared.Report.{Report}
use Rattle.method.specs.declared.Table.{Table}
use Rattle.method.specs.declared.Answer.{Answer}
use Rattle.method.specs.Records.{number, closed}
use Rattle.method.specs.Seen.{Known, Active}
use Rattle.method.specs.Calls.{Call}
use Rattle.method.specs.Calls.Call.{open_with, begin, report_ticket, report_prepared, abort, decide, forget, sweep}
use Rattle.method.specs.Effects.{step}

-- the calls of a run, the latest last
pub data Run : Type 0 where
  start : Run
  call : Run → Call → Run

-- the table after a run, and what the next call would be answered
unfoldable pub after : Run → Table
after start = closed
after (call r c) = (step (after r) c).table

abbrev pub answer_to : Run → Call → CallAnswer
answer_to r c = (step (after r) c).answer

-- at some step of the run this held of the table before it, the call and its answer
unfoldable pub Happened : (Table → Call → CallAnswer → Type 0) → Run → Type 0
Happened P start = ⊥
Happened P (call r c) = P (after r) c (answer_to r c) ⊎ Happened P r

-- what a step is, told by its call and its answer
abbrev pub Opens : ℕ → List ℕ → Table → Call → CallAnswer → Type 0
Opens first floors t c a = (c ≡ open_with first floors) × (a ≡ Ok Answer.Done)

abbrev pub Begins : ℕ → ℕ → Table → Call → CallAnswer → Type 0
Begins n sites t c a = (c ≡ begin sites) × (a ≡ Ok (Answer.Begun (number n)))

abbrev pub TakesTicket : ℕ → ℕ → ℕ → Table → Call → CallAnswer → Type 0
TakesTicket n s k t c a = (c ≡ report_ticket n s k) × (a ≡ Ok Answer.Done)

-- a report taken for a number at a site; only that of a ticket brings one, and k is not looked at in the others
abbrev pub report_call : Report → ℕ → ℕ → ℕ → Call
report_call Report.Ticket n s k = report_ticket n s k
report_call Report.Prepared n s k = report_prepared n s

abbrev pub Reports : Report → ℕ → ℕ → Table → Call → CallAnswer → Type 0
Reports p n s t c a = (k : ℕ) × (c ≡ report_call p n s k) × (a ≡ Ok Answer.Done)

abbrev pub Commits : ℕ → Table → Call → CallAnswer → Type 0
Commits n t c a = (c ≡ decide n) × (a ≡ Ok (Answer.Commit (number n)))

-- aborted, also as one that made a cycle
abbrev pub Aborts : ℕ → Table → Call → CallAnswer → Type 0
Aborts n t c a = ((c ≡ abort n) × (a ≡ Ok Answer.Done)) ⊎ ((c ≡ decide n) × (a ≡ Ok (Answer.Cycle (number n))))

-- forgotten, by its number or by a sweep, which had it in the table and left it out
abbrev pub Forgets : ℕ → Table → Call → CallAnswer → Type 0
Forgets n t c a = ((c ≡ forget n) × (a ≡ Ok Answer.Done)) ⊎ ((c ≡ sweep) × Known t n × (¬ Known (step t c).table n))

-- it is over, and in the table no more
abbrev pub Over : Run → ℕ → Type 0
Over r n = Happened (Aborts n) r ⊎ Happened (Forgets n) r

abbrev pub BegunIn : Run → ℕ → Type 0
BegunIn r n = (sites : ℕ) × Happened (Begins n sites) r

-- a transaction that was active when this one committed
abbrev pub CommitsBeside : ℕ → ℕ → Table → Call → CallAnswer → Type 0
CommitsBeside n m t c a = Commits n t c a × Active t m

-- how many begins were answered with a number
abbrev pub is_begun : CallAnswer → ℕ
is_begun (Ok Answer.Done) = 0
is_begun (Ok (Answer.Begun n)) = 1
is_begun (Ok (Answer.Commit n)) = 0
is_begun (Ok (Answer.Cycle n)) = 0
is_begun (Ok (Answer.Swept k)) = 0
is_begun (Err k) = 0

unfoldable pub begins : Run → ℕ
begins start = 0
begins (call r c) = begins r + is_begun (answer_to r c)

-- The calls, and the refusals of each in their sequence: RULES, Calls, as one table. `rules` has the conditions as they are
-- meant, `checks` the tests that compute them, row by row the same.
use Rattle.std.specs.Prelude.{◌≡◌, Bool, true, false, not, cond, List, [], ◌∷◌, ◌≢◌, ◌⊎◌, ℕ, Option, Some, None, Result, Ok, Err}
use Rattle.refusals.specs.declared.Refusal.{Refusal}
use Rattle.method.specs.declared.State.{State}
use Rattle.method.specs.declared.Report.{Report}
use Rattle.method.specs.declared.Table.{Table}
use Rattle.method.specs.declared.Answer.{Answer}
use Rattle.method.specs.Records.{active, committed}
use Rattle.method.specs.Slots.{row_of_number}
use Rattle.method.specs.Conditions.{Closed, is_closed, BadOpening, bad_opening, Unknown, unknown, BadSites, bad_sites, NotListed, not_listed, NoStep, no_step, NotPrepared, not_prepared, NotAbove, not_above, Taken, taken, Full, is_full, UsedUp, used_up, MayNotForget, may_not_forget}

pub data Call : Type 0 where
  -- the first number, and a floor for each site
  open_with : ℕ → List ℕ → Call
  -- the site list
  begin : ℕ → Call
  -- the number, the site, the ticket
  report_ticket : ℕ → ℕ → ℕ → Call
  report_prepared : ℕ → ℕ → Call
  abort : ℕ → Call
  decide : ℕ → Call
  forget : ℕ → Call
  sweep : Call

-- what a call is answered: what it did, or why it is refused
abbrev pub CallAnswer : Type 0
CallAnswer = Result Answer Refusal

unfoldable pub rules : Table → Call → List (Refusal × Type 0)
rules t (open_with first floors) = (Refusal.OutOfTurn, ¬ Closed t) ∷ (Refusal.NotOpen, BadOpening first floors) ∷ []
rules t (begin sites) = (Refusal.NotOpen, Closed t) ∷ (Refusal.BadSite, BadSites t sites) ∷ (Refusal.UsedUp, UsedUp t) ∷ (Refusal.Full, Full t) ∷ []
rules t (report_ticket n s k) =
    (Refusal.NotOpen, Closed t) ∷ (Refusal.Unknown, Unknown t n) ∷ (Refusal.BadSite, NotListed (row_of_number t n) s) ∷ (Refusal.OutOfTurn, NoStep (row_of_number t n) s Report.Ticket)
    ∷ (Refusal.NotAbove, NotAbove (row_of_number t n) s k) ∷ (Refusal.Taken, Taken t n s k) ∷ []
rules t (report_prepared n s) =
    (Refusal.NotOpen, Closed t) ∷ (Refusal.Unknown, Unknown t n) ∷ (Refusal.BadSite, NotListed (row_of_number t n) s) ∷ (Refusal.OutOfTurn, NoStep (row_of_number t n) s Report.Prepared) ∷ []
rules t (abort n) = (Refusal.NotOpen, Closed t) ∷ (Refusal.Unknown, Unknown t n) ∷ (Refusal.OutOfTurn, (row_of_number t n).state ≢ State.Active) ∷ []
rules t (decide n) = (Refusal.NotOpen, Closed t) ∷ (Refusal.Unknown, Unknown t n) ∷ (Refusal.OutOfTurn, NotPrepared (row_of_number t n)) ∷ []
rules t (forget n) =
    (Refusal.NotOpen, Closed t) ∷ (Refusal.Unknown, Unknown t n) ∷ (Refusal.OutOfTurn, (row_of_number t n).state ≢ State.Committed) ∷ (Refusal.TooEarly, MayNotForget t (row_of_number t n)) ∷ []
rules t sweep = (Refusal.NotOpen, Closed t) ∷ []

unfoldable pub checks : Table → Call → List (Refusal × Bool)
checks t (open_with first floors) = (Refusal.OutOfTurn, not (is_closed t)) ∷ (Refusal.NotOpen, bad_opening first floors) ∷ []
checks t (begin sites) = (Refusal.NotOpen, is_closed t) ∷ (Refusal.BadSite, bad_sites t sites) ∷ (Refusal.UsedUp, used_up t) ∷ (Refusal.Full, is_full t) ∷ []
checks t (report_ticket n s k) =
    (Refusal.NotOpen, is_closed t) ∷ (Refusal.Unknown, unknown t n) ∷ (Refusal.BadSite, not_listed (row_of_number t n) s) ∷ (Refusal.OutOfTurn, no_step (row_of_number t n) s Report.Ticket)
    ∷ (Refusal.NotAbove, not_above (row_of_number t n) s k) ∷ (Refusal.Taken, taken t n s k) ∷ []
checks t (report_prepared n s) =
    (Refusal.NotOpen, is_closed t) ∷ (Refusal.Unknown, unknown t n) ∷ (Refusal.BadSite, not_listed (row_of_number t n) s) ∷ (Refusal.OutOfTurn, no_step (row_of_number t n) s Report.Prepared) ∷ []
checks t (abort n) = (Refusal.NotOpen, is_closed t) ∷ (Refusal.Unknown, unknown t n) ∷ (Refusal.OutOfTurn, not (active (row_of_number t n))) ∷ []
checks t (decide n) = (Refusal.NotOpen, is_closed t) ∷ (Refusal.Unknown, unknown t n) ∷ (Refusal.OutOfTurn, not_prepared (row_of_number t n)) ∷ []
checks t (forget n) =
    (Refusal.NotOpen, is_closed t) ∷ (Refusal.Unknown, unknown t n) ∷ (Refusal.OutOfTurn, not (committed (row_of_number t n))) ∷ (Refusal.TooEarly, may_not_forget t (row_of_number t n)) ∷ []
checks t sweep = (Refusal.NotOpen, is_closed t) ∷ []

-- every refusal of a call: RULES, Refusals
abbrev pub call_refusals : List Refusal
call_refusals =
    Refusal.NotOpen ∷ Refusal.Unknown ∷ Refusal.BadSite ∷ Refusal.OutOfTurn ∷ Refusal.NotAbove ∷ Refusal.Taken ∷ Refusal.Full ∷ Refusal.UsedUp ∷ Refusal.TooEarly ∷ []

-- refusal k is the first whose condition holds, whatever refusals are told by; no condition holds
abbrev pub FirstHolds : {K : Type 0} → List (K × Type 0) → K → Type 0
FirstHolds [] k = ⊥
FirstHolds (c ∷ cs) k = (c.1 × (c.0 ≡ k)) ⊎ ((¬ c.1) × FirstHolds cs k)

abbrev pub NoneHolds : {K : Type 0} → List (K × Type 0) → Type 0
NoneHolds [] = Unit {0}
NoneHolds (c ∷ cs) = (¬ c.1) × NoneHolds cs

-- the same, computed
abbrev pub first_true : List (Refusal × Bool) → Option Refusal
first_true [] = None
first_true (c ∷ cs) = elim c.1 [ true ↦ Some c.0 | false ↦ first_true cs ]

-- what a function gives that makes these checks one after the other: the first refusal whose test passes, or its value
abbrev pub checked : {A : Type 0} → List (Refusal × Bool) → A → Result A Refusal
checked [] a = Ok a
checked (c ∷ cs) a = cond c.1 (Err c.0) (checked cs a)

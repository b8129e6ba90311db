-- The worked cases P1 to P11, each with its label: what is asked, and what must come of it. The first number is 1 and the
-- floors are 0 unless a case says otherwise. proofs/TrialLaws.antt proves them all by computation.
use Rattle.std.specs.Prelude.{List, [], ◌∷◌, ◌++◌, ℕ, zero, suc, replicate, Ok, Err}
use Rattle.refusals.specs.declared.Refusal.{Refusal}
use Rattle.orders.specs.Reply.{Reply}
use Rattle.orders.specs.Reply.Reply.{refused, yes, no}
use Rattle.orders.specs.Order.{check_result}
use Rattle.orders.specs.Write.{write_result}
use Rattle.method.specs.declared.Answer.{Answer}
use Rattle.method.specs.Records.{number, closed}
use Rattle.method.specs.Calls.{Call, CallAnswer}
use Rattle.method.specs.Calls.Call.{open_with, begin, report_ticket, report_prepared, abort, decide, forget, sweep}
use Rattle.method.specs.Runs.{answers_of}

-- a run of calls on the closed table; a check of an order; a write of one, with the buffer's place
pub data Question : Type 0 where
  calls : List Call → Question
  check : List ℕ → List ℕ → Question
  write : List ℕ → ℕ → List ℕ → Question

pub data Outcome : Type 0 where
  answers : List CallAnswer → Outcome
  replies : Reply → Outcome
  leaves : Reply → List ℕ → Outcome

abbrev pub ask : Question → Outcome
ask (calls cs) = answers (answers_of closed cs)
ask (check flat order) = replies (check_result flat order)
ask (write flat place out) = let r = write_result flat place out in leaves r.0 r.1

pub record Trial : Type 0 where
  pub label : ℕ
  pub question : Question
  pub outcome : Outcome

abbrev trial : ℕ → Question → Outcome → Trial
trial n q o = record { label = n; question = q; outcome = o }

-- number n uses the site with ticket k there, and is prepared
abbrev uses : ℕ → ℕ → ℕ → List Call
uses n s k = report_ticket n s k ∷ report_prepared n s ∷ []

abbrev one_done : CallAnswer
one_done = Ok Answer.Done

abbrev done : ℕ → List CallAnswer
done k = replicate k one_done

abbrev begun : ℕ → CallAnswer
begun n = Ok (Answer.Begun (number n))

abbrev commit : ℕ → CallAnswer
commit n = Ok (Answer.Commit (number n))

abbrev cycle : ℕ → CallAnswer
cycle n = Ok (Answer.Cycle (number n))

-- begun from n on, k of them
abbrev begun_from : ℕ → ℕ → List CallAnswer
begun_from n zero = []
begun_from n (suc k) = begun n ∷ begun_from (suc n) k

-- two sites, both used by 1 and 2
abbrev two_at_two : List Call
two_at_two = open_with 1 (0 ∷ 0 ∷ []) ∷ begin 3 ∷ begin 3 ∷ []

-- a row of a flat ticket table with tickets at sites 0 and 1
abbrev row : ℕ → ℕ → ℕ → List ℕ
row n a b = n ∷ a ∷ b ∷ replicate 6 0

unfoldable pub trials : List Trial
trials =
    trial 1 (calls (two_at_two ++ uses 1 0 1 ++ uses 2 0 2 ++ uses 2 1 1 ++ uses 1 1 2 ++ (decide 1 ∷ decide 2 ∷ [])))
    (answers (one_done ∷ begun 1 ∷ begun 2 ∷ (done 8 ++ (commit 1 ∷ cycle 2 ∷ []))))
    ∷ trial 2 (calls (two_at_two ++ uses 1 0 1 ++ uses 2 0 2 ++ uses 1 1 1 ++ uses 2 1 2 ++ (decide 1 ∷ decide 2 ∷ forget 2 ∷ forget 1 ∷ forget 2 ∷ [])))
    (answers (one_done ∷ begun 1 ∷ begun 2 ∷ (done 8 ++ (commit 1 ∷ commit 2 ∷ Err Refusal.TooEarly ∷ done 2))))
    ∷ trial 3 (calls ((open_with 1 (0 ∷ 0 ∷ 0 ∷ []) ∷ begin 3 ∷ begin 6 ∷ begin 5 ∷ []) ++ uses 3 0 1 ++ uses 1 0 2 ++ uses 1 1 1 ++ uses 2 1 2 ++ uses 2 2 1 ++ uses 3 2 2
    ++ (decide 1 ∷ decide 2 ∷ decide 3 ∷ [])))
    (answers (one_done ∷ begun 1 ∷ begun 2 ∷ begun 3 ∷ (done 12 ++ (commit 1 ∷ commit 2 ∷ cycle 3 ∷ []))))
    ∷ trial 4 (calls ((open_with 1 (0 ∷ []) ∷ begin 1 ∷ begin 1 ∷ []) ++ uses 1 0 1 ++ uses 2 0 2 ++ (decide 2 ∷ decide 1 ∷ [])))
    (answers (one_done ∷ begun 1 ∷ begun 2 ∷ (done 4 ++ (commit 2 ∷ commit 1 ∷ []))))
    ∷ trial 5 (calls ((open_with 1 (0 ∷ []) ∷ begin 1 ∷ []) ++ uses 1 0 7 ++ (decide 1 ∷ begin 1 ∷ report_ticket 2 0 6 ∷ report_ticket 2 0 7 ∷ report_ticket 2 0 8 ∷ [])))
    (answers (one_done ∷ begun 1 ∷ (done 2 ++ (commit 1 ∷ begun 2 ∷ Err Refusal.NotAbove ∷ Err Refusal.NotAbove ∷ one_done ∷ []))))
    ∷ trial 5 (calls ((open_with 1 (0 ∷ []) ∷ begin 1 ∷ begin 1 ∷ []) ++ uses 1 0 7 ++ (decide 1 ∷ report_ticket 2 0 7 ∷ report_ticket 2 0 6 ∷ [])))
    (answers (one_done ∷ begun 1 ∷ begun 2 ∷ (done 2 ++ (commit 1 ∷ Err Refusal.Taken ∷ one_done ∷ []))))
    ∷ trial 6 (calls ((open_with 1 (0 ∷ []) ∷ begin 1 ∷ begin 1 ∷ []) ++ uses 1 0 1 ++ (decide 1 ∷ forget 1 ∷ sweep ∷ [])))
    (answers (one_done ∷ begun 1 ∷ begun 2 ∷ (done 2 ++ (commit 1 ∷ Err Refusal.TooEarly ∷ Ok (Answer.Swept 0) ∷ []))))
    ∷ trial 7 (calls (open_with 1 (5 ∷ []) ∷ begin 1 ∷ begin 1 ∷ report_ticket 1 0 5 ∷ report_ticket 1 0 6 ∷ report_ticket 2 0 4294967295 ∷ []))
    (answers (one_done ∷ begun 1 ∷ begun 2 ∷ Err Refusal.NotAbove ∷ done 2))
    ∷ trial 8 (calls (open_with 1 (0 ∷ []) ∷ (replicate 33 (begin 1) ++ (abort 5 ∷ begin 1 ∷ []))))
    (answers (one_done ∷ (begun_from 1 32 ++ (Err Refusal.Full ∷ one_done ∷ begun 33 ∷ []))))
    ∷ trial 9 (calls (open_with 4294967295 (0 ∷ []) ∷ begin 1 ∷ begin 1 ∷ []))
    (answers (one_done ∷ begun 4294967295 ∷ Err Refusal.UsedUp ∷ []))
    ∷ trial 10 (check (row 1 2 0 ++ row 2 1 0) (2 ∷ 1 ∷ [])) (replies yes)
    ∷ trial 10 (check (row 1 2 0 ++ row 2 1 0) (1 ∷ 2 ∷ [])) (replies no)
    ∷ trial 10 (check (row 1 2 0 ++ row 2 1 0) (2 ∷ [])) (replies no)
    ∷ trial 10 (check (row 1 2 0 ++ row 2 1 0) (2 ∷ 2 ∷ [])) (replies no)
    ∷ trial 11 (write (row 1 1 2 ++ row 2 2 1) 1 (7 ∷ 7 ∷ 7 ∷ [])) (leaves (refused 12) (7 ∷ 7 ∷ 7 ∷ []))
    ∷ []

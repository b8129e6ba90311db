-- What the reports that a site has had say of its stage: it is prepared exactly if that was reported, and at the first stage exactly if
-- it holds no ticket. Assumes nothing.
use mathlib.Core.Path.{◌≡◌, refl, sym, ap, ◌∙◌}
use mathlib.Core.Bool.{true, false}
use mathlib.Core.Logic.{◌↔◌, ◌⊎◌, inl, inr}
use Prim.Native.Nat.{ℕ, ◌<◌}
use native.Mathlib.Omega.{arith}
use native.Mathlib.Decide.{dec_lt}
use Rattle.graph.proofs.TestLaws.{true_or_false, true_not_false}
use Rattle.method.specs.Calls.{CallAnswer}
use Rattle.method.specs.declared.Stage.{Stage}
use Rattle.method.specs.declared.Report.{Report}
use Rattle.method.specs.declared.Row.{Row}
use Rattle.method.specs.declared.Table.{Table}
use Rattle.method.specs.Records.{row_at, part_at}
use Rattle.method.specs.Seen.{IsFree, num, tick}
use Rattle.method.specs.Stages.{given}
use Rattle.method.specs.Calls.{Call}
use Rattle.method.specs.Effects.{step}
use Rattle.method.proofs.RecordLaws.{never}
use Rattle.runs.specs.Run.{Run, Run.start, Run.call, after, answer_to, Happened, TakesTicket, report_call, Reports}
use Rattle.runs.specs.Follows.{RowFollows}
use Rattle.runs.proofs.EventLaws.{Told, same_told, report_of_ticket, no_report_open, happened_map}
use Rattle.runs.proofs.StepLaws.{Change, Change.refuses, Change.opens, Change.begins, Change.reports, Change.commits, Change.clears}
use Rattle.runs.proofs.PresentLaws.{change_of_run}
use Rattle.runs.proofs.RowsFollowLaws.{rows_follow_run}

-- the stages that say so
prepared_iff_given : (g : Stage) → (g ≡ Stage.Prepared) ↔ (given Report.Prepared g ≡ true)
prepared_iff_given Stage.Begun = (λ e. never (cc), λ e. absurd (true_not_false e refl))
prepared_iff_given Stage.Ticketed = (λ e. never (cc), λ e. absurd (true_not_false e refl))
prepared_iff_given Stage.Prepared = (λ e. refl, λ e. refl)

begun_iff_given : (g : Stage) → (g ≡ Stage.Begun) ↔ (given Report.Ticket g ≡ false)
begun_iff_given Stage.Begun = (λ e. refl, λ e. refl)
begun_iff_given Stage.Ticketed = (λ e. never (cc), λ e. absurd (true_not_false refl e))
begun_iff_given Stage.Prepared = (λ e. never (cc), λ e. absurd (true_not_false refl e))

-- a ticket that was taken is not 0
module _ (t : Table) (c : Call) (a : CallAnswer) (u : Table) where
  taken_now : Change t c a u → (n s : ℕ) → Reports Report.Ticket n s t c a → (k : ℕ) × (0 < k) × TakesTicket n s k t c a
  taken_now (refuses j e st q) n s x = let y = x.2 in never (cc)
  taken_now (opens first floors e f st cl b q) n s x = absurd (no_report_open t c a first floors e Report.Ticket n s x)
  taken_now (begins sites i e f st nc fr ch l h w) n s x = let y = x.2 in never (cc)
  taken_now (reports p m y k i e f st w sm) n s (j, d, g) =
      let z = same_told p Report.Ticket m n y s k j (sym e ∙ d) in
      let q : p ≡ Report.Ticket = ap (λ (x : Told). x.report) z in
      (k, w.positive q, (e ∙ ap (λ (x : Told). report_call x.report x.number x.site k) z, f))
  taken_now (commits m e f st w) n s x = let y = x.2 in never (cc)
  taken_now (clears q w sm) n s x = absurd (q.reports Report.Ticket n s x)

taken : (n s : ℕ) (r : Run) → Happened (Reports Report.Ticket n s) r → (k : ℕ) × (0 < k) × Happened (TakesTicket n s k) r
unfolding Happened
taken n s start x = absurd x
taken n s (call r c) (inl x) = let (k, h, y) = taken_now (after r) c (answer_to r c) (step (after r) c).table (change_of_run r c) n s x in (k, h, inl y)
taken n s (call r c) (inr x) = let (k, h, y) = taken n s r x in (k, h, inr y)

module _ (r : Run) (i : ℕ) (f : ¬ IsFree (row_at (after r) i)) (s : ℕ) where
  abbrev q : Row
  q = row_at (after r) i

  v : RowFollows r q
  v = rows_follow_run r i f

  pub prepared_iff_reported : ((part_at q s).stage ≡ Stage.Prepared) ↔ Happened (Reports Report.Prepared (num q) s) r
  prepared_iff_reported = (
    λ e. (v.reports s Report.Prepared).0 ((prepared_iff_given (part_at q s).stage).0 e),
    λ x. (prepared_iff_given (part_at q s).stage).1 ((v.reports s Report.Prepared).1 x),
  )

  pub begun_iff_no_ticket : ((part_at q s).stage ≡ Stage.Begun) ↔ (tick q s ≡ 0)
  begun_iff_no_ticket = (λ e. forth ((begun_iff_given (part_at q s).stage).0 e) (dec_lt 0 (tick q s)), λ e. (begun_iff_given (part_at q s).stage).1 (back e (true_or_false (given Report.Ticket (part_at q s).stage))))
    where
      forth : given Report.Ticket (part_at q s).stage ≡ false → Dec (0 < tick q s) → tick q s ≡ 0
      forth e (yes h) = absurd (true_not_false ((v.reports s Report.Ticket).1 (happened_map (λ t c a x. report_of_ticket t c a (num q) s (tick q s) x) r ((v.tickets s (tick q s) h).0 refl))) e)
      forth e (no h) = omega arith

      back : tick q s ≡ 0 → (given Report.Ticket (part_at q s).stage ≡ true) ⊎ (given Report.Ticket (part_at q s).stage ≡ false) → given Report.Ticket (part_at q s).stage ≡ false
      back e (inr g) = g
      back e (inl g) = let (k, h, x) = taken (num q) s r ((v.reports s Report.Ticket).0 g) in absurd (omega (arith, (v.tickets s k h).1 x))

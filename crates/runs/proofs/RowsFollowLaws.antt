-- Every row in use is what its reports made it, after every run. Assumes nothing.
use mathlib.Core.Path.{◌≡◌, refl, sym, ap, subst, ◌∙◌}
use mathlib.Core.Logic.{◌≢◌, inl, inr}
use Prim.Native.Nat.{ℕ}
use Rattle.method.specs.Calls.{CallAnswer}
use Rattle.std.specs.Prelude.{Ok}
use Rattle.method.specs.declared.Report.{Report}
use Rattle.method.specs.declared.Row.{Row}
use Rattle.method.specs.declared.Table.{Table}
use Rattle.method.specs.declared.Answer.{Answer}
use Rattle.method.specs.Records.{number, closed, row_at}
use Rattle.method.specs.Slots.{slot_of, row_of_number}
use Rattle.method.specs.Calls.{Call}
use Rattle.method.specs.Calls.Call.{decide}
use Rattle.method.specs.Effects.{committed_row, new_row, reported, step}
use Rattle.method.proofs.RecordLaws.{never}
use Rattle.method.specs.Seen.{IsFree, IsActive, num, Known}
use Rattle.runs.specs.Run.{Run, Run.start, Run.call, after, answer_to, Happened, report_call, Reports, Commits, BegunIn}
use Rattle.runs.specs.History.{history}
use Rattle.runs.specs.Follows.{RowFollows}
use Rattle.invariant.proofs.ChangeLaws.{every, not_free}
use Rattle.invariant.proofs.OpenLaws.{invariant_closed, free_after_open}
use Rattle.runs.proofs.HistoryLaws.{invariant_run}
use Rattle.runs.proofs.StepLaws.{Change, Change.refuses, Change.opens, Change.begins, Change.reports, Change.commits, Change.clears}
use Rattle.invariant.proofs.StandingLaws.{closed_free, one_slot}
use Rattle.runs.proofs.EventLaws.{Told, same_told, no_report_open}
use Rattle.runs.proofs.PresentLaws.{change_of_run, census}
use Rattle.runs.proofs.RowFollowLaws.{Silent, row_silent, row_begun}
use Rattle.runs.proofs.RowReportLaws.{row_reported, row_committed}

-- a report is taken for an active one, and whoever commits stands in the table then
module _ (t : Table) (c : Call) (a : CallAnswer) (u : Table) where
  pub active_of_report : Change t c a u → (p : Report) (n s : ℕ) → Reports p n s t c a → (i : ℕ) × IsActive (row_at t i) × (num (row_at t i) ≡ n)
  active_of_report (refuses j e st q) p n s x = let y = x.2 in never (cc)
  active_of_report (opens first floors e f st cl b q) p n s x = absurd (no_report_open t c a first floors e p n s x)
  active_of_report (begins sites i e f st nc fr ch l h w) p n s x = let y = x.2 in never (cc)
  active_of_report (reports z m y k i e f st w sm) p n s (j, d, g) =
      (i, w.active, w.named ∙ ap (λ (q : Told). q.number) (same_told z p m n y s k j (sym e ∙ d)))
  active_of_report (commits m e f st w) p n s x = let y = x.2 in never (cc)
  active_of_report (clears q w sm) p n s x = absurd (q.reports p n s x)

  known_of_report : Change t c a u → (p : Report) (n s : ℕ) → Reports p n s t c a → Known t n
  known_of_report ch p n s x = let (i, ac, e) = active_of_report ch p n s x in (i, not_free ac, e)

  known_of_commit : Change t c a u → (n : ℕ) → Commits n t c a → Known t n
  known_of_commit (refuses j e st p) n x = never (cc)
  known_of_commit (opens first floors e f st cl b p) n x = never (cc)
  known_of_commit (begins sites i e f st nc fr ch l h w) n x = never (cc)
  known_of_commit (reports p m s k i e f st w sm) n x = never (cc)
  known_of_commit (commits m e f st w) n x = (slot_of t m, not_free w.active, w.named ∙ (let q : decide m ≡ decide n = cc in cc))
  known_of_commit (clears q w sm) n x = absurd (q.commits n x)

-- and so was begun before
pub begun_of_happened : (P : Table → Call → CallAnswer → Type 0) (n : ℕ) → ((t : Table) (c : Call) (a : CallAnswer) (u : Table) → Change t c a u → P t c a → Known t n)
    → (r : Run) → Happened P r → BegunIn r n
unfolding Happened
begun_of_happened P n h start x = absurd x
begun_of_happened P n h (call r c) (inl x) = let (s, b) = (census r).first n (inl (h (after r) c (answer_to r c) (step (after r) c).table (change_of_run r c) x)) in (s, inr b)
begun_of_happened P n h (call r c) (inr x) = let (s, b) = begun_of_happened P n h r x in (s, inr b)

pub begun_of_commit : (n : ℕ) (r : Run) → Happened (Commits n) r → BegunIn r n
begun_of_commit n = begun_of_happened (Commits n) n (λ t c a u d. known_of_commit t c a u d n)

abbrev pub RowsFollow : Run → Type 0
RowsFollow r = (i : ℕ) → ¬ IsFree (row_at (after r) i) → RowFollows r (row_at (after r) i)

module _ (r : Run) (c : Call) (v : RowsFollow r) where
  abbrev t : Table
  t = after r

  abbrev u : Table
  u = (step (after r) c).table

  abbrev a : CallAnswer
  a = answer_to r c

  abbrev Next : Row → Type 0
  Next x = ¬ IsFree x → RowFollows (call r c) x

  -- the rows that a change leaves alone, where it tells nothing of their numbers
  others : (i : ℕ) → ((j : ℕ) → j ≢ i → ¬ IsFree (row_at t j) → Silent r c (num (row_at t j))) → (j : ℕ) → j ≢ i → Next (row_at t j)
  others i s j d f = row_silent r c (row_at t j) (s j d f) (v j f)

  -- another slot has another number
  other_number : (i j : ℕ) → j ≢ i → ¬ IsFree (row_at t i) → ¬ IsFree (row_at t j) → num (row_at t j) ≢ num (row_at t i)
  other_number i j d f g e = one_slot t (history r) (invariant_run r) i j (num (row_at t i)) d f g refl e

  rows_follow : Change t c a u → (i : ℕ) → Next (row_at u i)
  unfolding new_row reported committed_row
  rows_follow (refuses k e st p) = λ i. subst (λ (z : Table). Next (row_at z i)) (sym p)
      (λ f. row_silent r c (row_at t i) (record { reports = λ p s x. let y = x.2 in never (cc); commit = λ x. never (cc) }) (v i f))
  rows_follow (opens first floors e f st cl b p) = λ i. subst (λ (z : Table). Next (row_at z i)) (sym p) (λ g. absurd (g (free_after_open first floors i).free))
  rows_follow (begins sites i e f st nc fr ch l h w) = every ch Next
      (λ g. row_begun r c sites e f (λ n b. ((census r).counted n b).1)
      (λ p n s. begun_of_happened (Reports p n s) n (λ t c a u d. known_of_report t c a u d p n s) r) (λ n. begun_of_commit n r))
      (others i (λ j d g. record { reports = λ p s x. let y = x.2 in never (cc); commit = λ x. never (cc) }))
  rows_follow (reports p m s k i e f st w sm) = every w.changed Next
      (λ g. row_reported r c (row_at t i) (v i (not_free w.active)) p s k (e ∙ ap {B = Call} (λ (y : ℕ). report_call p y s k) (sym w.named)) f w.active w.listed w.inside w.leads w.positive)
      (others i (λ j d g. record {
        reports = λ x y (z, h, o). other_number i j d (not_free w.active) g (sym (w.named ∙ ap (λ (q : Told). q.number) (same_told p x m (num (row_at t j)) s y k z (sym e ∙ h))));
        commit = λ z. never (cc);
      }))
  rows_follow (commits m e f st w) = every w.changed Next
      (λ g. row_committed r c (row_of_number t m) (v (slot_of t m) (not_free w.active)) t (e ∙ ap {B = Call} decide (sym w.named)) (f ∙ ap {B = CallAnswer} (λ (y : ℕ). Ok (Answer.Commit (number y))) (sym w.named)))
      (others (slot_of t m) (λ j d g. record {
        reports = λ p x z. let y = z.2 in never (cc);
        commit = λ z. other_number (slot_of t m) j d (not_free w.active) g (sym (w.named ∙ (let q : decide m ≡ decide (num (row_at t j)) = cc in cc)));
      }))
  rows_follow (clears q w sm) = λ i. elim (w.slots i) [
    | inl z ↦ subst Next (sym z) (λ g. row_silent r c (row_at t i) (record { reports = λ p s. q.reports p (num (row_at t i)) s; commit = q.commits (num (row_at t i)) }) (v i g))
    | inr z ↦ subst Next (sym z.0) (λ g. absurd (g refl))
  ]

pub rows_follow_run : (r : Run) → RowsFollow r
unfolding after
rows_follow_run start i f = absurd (f (closed_free closed _ invariant_closed refl i))
rows_follow_run (call r c) i f = rows_follow r c (rows_follow_run r) (change_of_run r c) i f

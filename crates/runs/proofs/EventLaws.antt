-- What a call and its answer tell: a report is of one kind, for one number, at one site; and an event that does not happen at a step
-- happened before it. Assumes nothing.
use mathlib.Core.Path.{◌≡◌, refl, sym, ap, ◌∙◌}
use mathlib.Core.List.{List}
use mathlib.Core.Logic.{◌↔◌, inl, inr}
use mathlib.Core.Option.{Option, none, some}
use Prim.Native.Nat.{ℕ}
use Rattle.method.specs.Calls.{CallAnswer}
use Rattle.method.specs.declared.Report.{Report}
use Rattle.method.specs.declared.Table.{Table}
use Rattle.method.specs.Calls.{Call}
use Rattle.method.specs.Calls.Call.{open_with, begin, report_ticket, report_prepared, abort, decide, forget, sweep}
use Rattle.method.proofs.RecordLaws.{never}
use Rattle.runs.specs.Run.{Run, Run.start, Run.call, after, answer_to, Happened, TakesTicket, report_call, Reports}

-- which report a call makes, for whom and where
pub record Told : Type 0 where
  pub report : Report
  pub number : ℕ
  pub site : ℕ

abbrev told : Report → ℕ → ℕ → Told
told p n s = record { report = p; number = n; site = s }

report_in : Call → Option Told
report_in (open_with first floors) = none
report_in (begin sites) = none
report_in (report_ticket n s k) = some (told Report.Ticket n s)
report_in (report_prepared n s) = some (told Report.Prepared n s)
report_in (abort n) = none
report_in (decide n) = none
report_in (forget n) = none
report_in sweep = none

report_in_lem : (p : Report) (n s k : ℕ) → report_in (report_call p n s k) ≡ some (told p n s)
unfolding report_in
report_in_lem Report.Ticket n s k = refl
report_in_lem Report.Prepared n s k = refl

pub same_told : (p x : Report) (n m s y k j : ℕ) → report_call p n s k ≡ report_call x m y j → told p n s ≡ told x m y
same_told p x n m s y k j e =
    let z : some (told p n s) ≡ some (told x m y) = sym (report_in_lem p n s k) ∙ ap report_in e ∙ report_in_lem x m y j in
    cc

module _ (t : Table) (c : Call) (a : CallAnswer) where
  -- a call that makes no report
  module _ (none_in : report_in c ≡ none) where
    no_report : (p : Report) (n s : ℕ) → ¬ Reports p n s t c a
    no_report p n s (k, e, f) = let z : none ≡ some (told p n s) = sym none_in ∙ ap report_in e ∙ report_in_lem p n s k in never (cc)

  pub no_report_open : (first : ℕ) (floors : List ℕ) → c ≡ open_with first floors → (p : Report) (n s : ℕ) → ¬ Reports p n s t c a
  unfolding report_in
  no_report_open first floors e = no_report (ap report_in e)

  pub no_report_abort : (m : ℕ) → c ≡ abort m → (p : Report) (n s : ℕ) → ¬ Reports p n s t c a
  unfolding report_in
  no_report_abort m e = no_report (ap report_in e)

  pub no_report_forget : (m : ℕ) → c ≡ forget m → (p : Report) (n s : ℕ) → ¬ Reports p n s t c a
  unfolding report_in
  no_report_forget m e = no_report (ap report_in e)

  -- a ticket that is taken is such a report
  pub report_of_ticket : (n s k : ℕ) → TakesTicket n s k t c a → Reports Report.Ticket n s t c a
  report_of_ticket n s k x = (k, x.0, x.1)

pub happened_map : {P Q : Table → Call → CallAnswer → Type 0} → ((t : Table) (c : Call) (a : CallAnswer) → P t c a → Q t c a) → (r : Run) → Happened P r → Happened Q r
unfolding Happened
happened_map f start x = x
happened_map f (call r c) (inl x) = inl (f (after r) c (answer_to r c) x)
happened_map f (call r c) (inr x) = inr (happened_map f r x)

pub later_iff : (r : Run) (c : Call) {A : Type 0} (P : Table → Call → CallAnswer → Type 0) → ¬ P (after r) c (answer_to r c) → A ↔ Happened P r → A ↔ Happened P (call r c)
unfolding Happened
later_iff r c P n h = (λ x. inr (h.0 x), λ y. elim y [ inl z ↦ absurd (n z) | inr z ↦ h.1 z ])

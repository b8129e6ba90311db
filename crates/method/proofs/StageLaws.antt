-- What the stage table says of every stage and report, by one computed test; and with it that a stage tells which reports a site has had.
-- Assumes nothing.
use mathlib.Core.Path.{◌≡◌, refl, sym, ap, ◌∙◌}
use mathlib.Core.Bool.{Bool, true, false, not, ◌||◌}
use mathlib.Core.List.Memᴰ.{head as here}
use mathlib.Core.List.Memᴰ.{tail as behind}
use mathlib.Core.List.{List, [], ◌∷◌}
use mathlib.Core.Logic.{◌↔◌, ◌≢◌}
use Prim.Native.Nat.{ℕ, zero, suc}
use lib.Dec.{eqb}
use borrow.Author.Tests.{eq-eqb, eqb-true}
use Rattle.graph.specs.Lists.{◌∈◌, any_of}
use Rattle.graph.proofs.TestLaws.{true_not_false, false_of_not_true, or_of_left, or_of_right}
use Rattle.graph.proofs.MemberLaws.{any_of_member}
use Rattle.method.specs.declared.Stage.{Stage}
use Rattle.method.specs.declared.Report.{Report}
use Rattle.std.specs.Prelude.{Option, Some, None}
use Rattle.method.specs.Stages.{first_stage, step_of, given, report_no}

-- all of them
abbrev stages : List Stage
stages = Stage.Begun ∷ Stage.Ticketed ∷ Stage.Prepared ∷ []

abbrev reports : List Report
reports = Report.Ticket ∷ Report.Prepared ∷ []

every_stage : (g : Stage) → g ∈ stages
every_stage Stage.Begun = here refl
every_stage Stage.Ticketed = behind (here refl)
every_stage Stage.Prepared = behind (behind (here refl))

every_report : (p : Report) → p ∈ reports
every_report Report.Ticket = here refl
every_report Report.Prepared = behind (here refl)

-- the same report
abbrev pub same : Report → Report → Bool
same x p = eqb (report_no x) (report_no p)

report_at : ℕ → Report
report_at zero = Report.Ticket
report_at (suc n) = Report.Prepared

report_of_number : (p : Report) → report_at (report_no p) ≡ p
unfolding report_at
report_of_number Report.Ticket = refl
report_of_number Report.Prepared = refl

pub same_iff : (x p : Report) → (same x p ≡ true) ↔ (x ≡ p)
same_iff x p = (λ e. sym (report_of_number x) ∙ ap report_at (eqb-true (report_no x) (report_no p) e) ∙ report_of_number p, λ e. eq-eqb (report_no x) (report_no p) (ap report_no e))

differ : Bool → Bool → Bool
differ true b = not b
differ false b = b

equal_of_differ : (a b : Bool) → differ a b ≡ false → a ≡ b
unfolding differ
equal_of_differ true true e = refl
equal_of_differ true false e = absurd (true_not_false refl e)
equal_of_differ false true e = absurd (true_not_false refl e)
equal_of_differ false false e = refl

-- the table is wrong at an entry that leads on, if the site has had the report before, or then has had others than before and this one
wrong : Stage → Report → Option Stage → Bool
wrong g p None = false
wrong g p (Some h) = given p g || any_of (λ x. differ (given x h) (given x g || same x p)) reports

nowhere_wrong : any_of (λ g. any_of (λ p. wrong g p (step_of g p)) reports) stages ≡ false
unfolding wrong differ
nowhere_wrong = refl

none_of : {A : Type 0} (f : A → Bool) {x : A} {xs : List A} → x ∈ xs → any_of f xs ≡ false → f x ≡ false
none_of f {x} m e = false_of_not_true (f x) (λ h. true_not_false (any_of_member f m h) e)

module _ (g h : Stage) (p : Report) (st : step_of g p ≡ Some h) where
  right : wrong g p (Some h) ≡ false
  right =
      let q : wrong g p (step_of g p) ≡ false = none_of (λ x. wrong g x (step_of g x)) (every_report p) (none_of (λ y. any_of (λ x. wrong y x (step_of y x)) reports) (every_stage g) nowhere_wrong) in
      rw st at q

  -- a report is taken once
  pub given_new : given p g ≡ false
  unfolding wrong
  given_new = false_of_not_true (given p g) (λ e. true_not_false (or_of_left _ e) right)

  -- and then the site has had it, beside what it had
  pub given_step : (x : Report) → given x h ≡ given x g || same x p
  unfolding wrong
  given_step x = equal_of_differ (given x h) (given x g || same x p)
      (none_of (λ y. differ (given y h) (given y g || same y p)) (every_report x) (false_of_not_true _ (λ e. true_not_false (or_of_right (given p g) e) right)))

pub given_first : (p : Report) → given p first_stage ≡ false
given_first Report.Ticket = refl
given_first Report.Prepared = refl

-- where the table leads, and that it leads nowhere from prepared
pub to_of_step : (g : Stage) (p : Report) → step_of g p ≢ None → (h : Stage) × (step_of g p ≡ Some h)
to_of_step g p n = go (step_of g p) refl
  where
    go : (x : Option Stage) → step_of g p ≡ x → (h : Stage) × (step_of g p ≡ Some h)
    go (Some h) e = (h, e)
    go None e = absurd (n e)

no_step_of_prepared : (p : Report) → step_of Stage.Prepared p ≡ None
no_step_of_prepared Report.Ticket = refl
no_step_of_prepared Report.Prepared = refl

pub not_prepared_of_step : (g : Stage) (p : Report) → step_of g p ≢ None → g ≢ Stage.Prepared
not_prepared_of_step g p n e = n (rw e (no_step_of_prepared p))

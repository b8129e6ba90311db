-- `reports::ticketed` meets its contract. Assumes nothing.
use mathlib.Core.Path.{◌≡◌, sym, ap, ◌∙◌}
use mathlib.Core.Bool.{Bool, true, false}
use mathlib.Core.List.{List, [], ◌∷◌}
use borrow.Author.Rules.{rules}
use Rattle.std.specs.Prelude.{Err}
use Rattle.refusals.specs.declared.Refusal.{Refusal}
use Rattle.method.specs.declared.Report.{Report}
use Prim.Native.Nat.{ℕ}
use Rattle.method.specs.declared.Table.{Table}
use Rattle.method.specs.Records.{row_at}
use Rattle.method.specs.Slots.{row_of_number}
use Rattle.method.specs.Conditions.{not_above, taken}
use Rattle.method.specs.Calls.{checks}
use Rattle.method.specs.Effects.{reported}
use Rattle.reports.specs.Reported.{ticketed}
use Rattle.reports.proofs.PlacedLaws.{place_stops, place_goes_on}
use Rattle.reports.proofs.ticketed.Goals as goal

-- the checks of a ticket alone
abbrev rest : Table → ℕ → ℕ → ℕ → List (Refusal × Bool)
rest t n s k = (Refusal.NotAbove, not_above (row_of_number t n) s k) ∷ (Refusal.Taken, taken t n s k) ∷ []

pub returns-in_err-slot : goal.returns-in_err-slot
unfolding checks
returns-in_err-slot c =
    let t = c.args.t.now in
    let n = c.args.n.0 in
    let s = c.args.s in
    let k = c.args.k.0 in
    let e : c.from_residual.result ≡ Err c.in_err-slot.field-0.0 = search rules in
    record { answer = e ∙ sym (place_stops t n s Report.Ticket (rest t n s k) (ticketed t n s k) (sym c.place.ensures.answer ∙ c.in_err-slot.was)) }

pub returns-then-le : goal.returns-then-le
unfolding checks
returns-then-le c =
    let t = c.args.t.now in
    let n = c.args.n.0 in
    let s = c.args.s in
    let k = c.args.k.0 in
    let (on, i, g) = place_goes_on t n s Report.Ticket (rest t n s k) (ticketed t n s k) (sym c.place.ensures.answer ∙ c.in_ok-slot.was) in
    let low : not_above (row_at t c.in_ok-slot.slot) s k ≡ true = search rules in
    let low2 : not_above (row_of_number t n) s k ≡ true = ap (λ j. not_above (row_at t j) s k) (sym i) ∙ low in
    record { answer = sym (on ∙ rw low2) }

pub returns-then-is_taken : goal.returns-then-is_taken
unfolding checks
returns-then-is_taken c =
    let t = c.args.t.now in
    let n = c.args.n.0 in
    let s = c.args.s in
    let k = c.args.k.0 in
    let (on, i, g) = place_goes_on t n s Report.Ticket (rest t n s k) (ticketed t n s k) (sym c.place.ensures.answer ∙ c.in_ok-slot.was) in
    let high : not_above (row_at t c.in_ok-slot.slot) s k ≡ false = search rules in
    let high2 : not_above (row_of_number t n) s k ≡ false = ap (λ j. not_above (row_at t j) s k) (sym i) ∙ high in
    let held : taken t n s k ≡ true = sym c.is_taken.ensures.answer ∙ c.if-is_taken.true in
    record { answer = sym (on ∙ rw (high2, held)) }

pub returns : goal.returns
unfolding checks reported
returns c =
    let t = c.args.t.now in
    let n = c.args.n.0 in
    let s = c.args.s in
    let k = c.args.k.0 in
    let (on, i, g) = place_goes_on t n s Report.Ticket (rest t n s k) (ticketed t n s k) (sym c.place.ensures.answer ∙ c.in_ok-slot.was) in
    let high : not_above (row_at t c.in_ok-slot.slot) s k ≡ false = search rules in
    let high2 : not_above (row_of_number t n) s k ≡ false = ap (λ j. not_above (row_at t j) s k) (sym i) ∙ high in
    let held : taken t n s k ≡ false = sym c.is_taken.ensures.answer ∙ c.if-is_taken.false in
    record { answer = rw (c.with_part.ensures.answer, i, g) (sym (on ∙ rw (high2, held))) }

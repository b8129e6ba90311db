-- `reports::prepared` meets its contract. Assumes nothing.
use mathlib.Core.Path.{◌≡◌, sym, ◌∙◌}
use mathlib.Core.List.{[]}
use borrow.Author.Rules.{rules}
use Rattle.std.specs.Prelude.{Err}
use Rattle.method.specs.declared.Report.{Report}
use Rattle.method.specs.Calls.{checks}
use Rattle.method.specs.Effects.{reported}
use Rattle.reports.specs.Reported.{prepared}
use Rattle.reports.proofs.PlacedLaws.{place_stops, place_goes_on}
use Rattle.reports.proofs.prepared.Goals as goal

pub returns-in_err-slot : goal.returns-in_err-slot
unfolding checks
returns-in_err-slot c =
    let t = c.args.t.now in
    let n = c.args.n.0 in
    let s = c.args.s in
    let e : c.from_residual.result ≡ Err c.in_err-slot.field-0.0 = search rules in
    record { answer = e ∙ sym (place_stops t n s Report.Prepared [] (prepared t n s) (sym c.place.ensures.answer ∙ c.in_err-slot.was)) }

pub returns : goal.returns
unfolding checks reported
returns c =
    let t = c.args.t.now in
    let n = c.args.n.0 in
    let s = c.args.s in
    let (on, i, g) = place_goes_on t n s Report.Prepared [] (prepared t n s) (sym c.place.ensures.answer ∙ c.in_ok-slot.was) in
    record { answer = rw (c.with_part.ensures.answer, i, g) (sym on) }

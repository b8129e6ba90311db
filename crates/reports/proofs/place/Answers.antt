-- `reports::place` meets its contract: the checks of the gate, and behind them those of the place. Assumes nothing.
use mathlib.Core.Path.{◌≡◌, sym, ap, ◌∙◌}
use mathlib.Core.List.{[]}
use borrow.Author.Rules.{rules}
use Prim.Native.Nat.{ℕ}
use Rattle.std.specs.Prelude.{Ok, Err}
use Rattle.method.specs.declared.Stage.{Stage}
use Rattle.method.specs.Slots.{slot_of, row_of_number}
use Rattle.method.specs.Records.{row_at}
use Rattle.method.proofs.CheckLaws.{stops, goes_on}
use Rattle.slots.proofs.GateLaws.{gate_stops, gate_goes_on}
use Rattle.stages.specs.Place.{place_checks, next_stage, place_of}
use Rattle.reports.proofs.place.Goals as goal

pub returns-in_err-slot-clause-answer : goal.returns-in_err-slot-clause-answer
returns-in_err-slot-clause-answer c =
    let a = c.args in
    let r = row_of_number a.t.now a.n.0 in
    let e : c.from_residual.result ≡ Err c.in_err-slot.field-0.0 = search rules in
    e ∙ sym (gate_stops a.t.now a.n.0 (place_checks r a.s a.p) (slot_of a.t.now a.n.0, next_stage r a.s a.p) (sym c.enter.ensures.answer ∙ c.in_err-slot.was))

pub returns-in_err-stage-clause-answer : goal.returns-in_err-stage-clause-answer
returns-in_err-stage-clause-answer c =
    let a = c.args in
    let r = row_of_number a.t.now a.n.0 in
    let v : ℕ × Stage = (slot_of a.t.now a.n.0, next_stage r a.s a.p) in
    let e : c.from_residual-in_err-stage.result ≡ Err c.in_err-stage.field-0.0 = search rules in
    let (on, slot) = gate_goes_on a.t.now a.n.0 (place_checks r a.s a.p) v (sym c.enter.ensures.answer ∙ c.in_ok-slot.was) in
    let p : place_of r a.s a.p ≡ Err c.in_err-stage.field-0.0 = ap (λ i. place_of (row_at a.t.now i) a.s a.p) (sym slot) ∙ sym c.next_place.ensures.answer ∙ c.in_err-stage.was in
    e ∙ sym (on ∙ stops (place_checks r a.s a.p) [] (next_stage r a.s a.p) v p)

pub returns-clause-answer : goal.returns-clause-answer
returns-clause-answer c =
    let a = c.args in
    let r = row_of_number a.t.now a.n.0 in
    let v : ℕ × Stage = (slot_of a.t.now a.n.0, next_stage r a.s a.p) in
    let (on, slot) = gate_goes_on a.t.now a.n.0 (place_checks r a.s a.p) v (sym c.enter.ensures.answer ∙ c.in_ok-slot.was) in
    let p : place_of r a.s a.p ≡ Ok c.in_ok-stage.stage = ap (λ i. place_of (row_at a.t.now i) a.s a.p) (sym slot) ∙ sym c.next_place.ensures.answer ∙ c.in_ok-stage.was in
    let (done, stage) = goes_on (place_checks r a.s a.p) [] (next_stage r a.s a.p) v p in
    rw (slot, stage) (sym (on ∙ done))

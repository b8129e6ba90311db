-- `decisions::ready` meets its contract: the gate, and behind it the one check of a decision. Assumes nothing.
use mathlib.Core.Path.{◌≡◌, sym, ◌∙◌}
use mathlib.Core.Bool.{Bool, true, false}
use mathlib.Core.List.{List, [], ◌∷◌}
use Prim.Native.Nat.{ℕ}
use borrow.Author.Rules.{rules}
use Rattle.std.specs.Prelude.{Err}
use Rattle.refusals.specs.declared.Refusal.{Refusal}
use Rattle.method.specs.declared.Table.{Table}
use Rattle.method.specs.Records.{row_at}
use Rattle.method.specs.Slots.{slot_of, row_of_number}
use Rattle.method.specs.Conditions.{not_prepared}
use Rattle.method.specs.Calls.{checks}
use Rattle.slots.proofs.GateLaws.{gate_stops, gate_goes_on}
use Rattle.decisions.proofs.ready.Goals as goal

abbrev rest : Table → ℕ → List (Refusal × Bool)
rest t n = (Refusal.OutOfTurn, not_prepared (row_of_number t n)) ∷ []

pub returns-in_err-slot-clause-answer : goal.returns-in_err-slot-clause-answer
unfolding checks
returns-in_err-slot-clause-answer c =
    let t = c.args.t.now in
    let n = c.args.n.0 in
    let e : c.from_residual.result ≡ Err c.in_err-slot.field-0.0 = search rules in
    e ∙ sym (gate_stops t n (rest t n) (slot_of t n) (sym c.enter.ensures.answer ∙ c.in_err-slot.was))

pub returns-then-not-is_prepared-clause-answer : goal.returns-then-not-is_prepared-clause-answer
unfolding checks
returns-then-not-is_prepared-clause-answer c =
    let t = c.args.t.now in
    let n = c.args.n.0 in
    let (on, i) = gate_goes_on t n (rest t n) (slot_of t n) (sym c.enter.ensures.answer ∙ c.in_ok-slot.was) in
    let no : not_prepared (row_at t c.in_ok-slot.slot) ≡ true = search rules in
    sym (on ∙ rw (sym i, no))

pub returns-clause-answer : goal.returns-clause-answer
unfolding checks
returns-clause-answer c =
    let t = c.args.t.now in
    let n = c.args.n.0 in
    let (on, i) = gate_goes_on t n (rest t n) (slot_of t n) (sym c.enter.ensures.answer ∙ c.in_ok-slot.was) in
    let yes : not_prepared (row_at t c.in_ok-slot.slot) ≡ false = search rules in
    sym (on ∙ rw (sym i, yes))

-- `endings::abortable` meets its contract: the gate, and behind it the one check of an abort. Assumes nothing.
use mathlib.Core.Path.{◌≡◌, sym, ◌∙◌}
use mathlib.Core.Bool.{Bool, true, false, not}
use mathlib.Core.List.{List, [], ◌∷◌}
use Prim.Native.Nat.{ℕ}
use borrow.Author.Rules.{rules}
use Rattle.std.specs.Prelude.{Err}
use Rattle.refusals.specs.declared.Refusal.{Refusal}
use Rattle.method.specs.declared.Table.{Table}
use Rattle.method.specs.Records.{row_at, active}
use Rattle.method.specs.Slots.{slot_of, row_of_number}
use Rattle.method.specs.Calls.{checks}
use Rattle.slots.proofs.GateLaws.{gate_stops, gate_goes_on}
use Rattle.endings.proofs.abortable.Goals as goal

abbrev rest : Table → ℕ → List (Refusal × Bool)
rest t n = (Refusal.OutOfTurn, not (active (row_of_number t n))) ∷ []

pub returns-in_err-slot : goal.returns-in_err-slot
unfolding checks
returns-in_err-slot c =
    let t = c.args.t.now in
    let n = c.args.n.0 in
    let e : c.from_residual.result ≡ Err c.in_err-slot.field-0.0 = search rules in
    record { answer = e ∙ sym (gate_stops t n (rest t n) (slot_of t n) (sym c.enter.ensures.answer ∙ c.in_err-slot.was)) }

pub returns-then-ne : goal.returns-then-ne
unfolding checks
returns-then-ne c =
    let t = c.args.t.now in
    let n = c.args.n.0 in
    let (on, i) = gate_goes_on t n (rest t n) (slot_of t n) (sym c.enter.ensures.answer ∙ c.in_ok-slot.was) in
    let no : not (active (row_at t c.in_ok-slot.slot)) ≡ true = search rules in
    record { answer = sym (on ∙ rw (sym i, no)) }

pub returns : goal.returns
unfolding checks
returns c =
    let t = c.args.t.now in
    let n = c.args.n.0 in
    let (on, i) = gate_goes_on t n (rest t n) (slot_of t n) (sym c.enter.ensures.answer ∙ c.in_ok-slot.was) in
    let yes : not (active (row_at t c.in_ok-slot.slot)) ≡ false = search rules in
    record { answer = sym (on ∙ rw (sym i, yes)) }

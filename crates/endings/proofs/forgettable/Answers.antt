-- `endings::forgettable` meets its contract: the gate, and behind it the two checks of a forget. Assumes nothing.
use mathlib.Core.Path.{◌≡◌, sym, ◌∙◌}
use mathlib.Core.Bool.{Bool, true, false, not}
use mathlib.Core.List.{List, [], ◌∷◌}
use Prim.Native.Nat.{ℕ}
use borrow.Author.Rules.{rules}
use Rattle.std.specs.Prelude.{Err}
use Rattle.refusals.specs.declared.Refusal.{Refusal}
use Rattle.method.specs.declared.Table.{Table}
use Rattle.method.specs.Records.{row_at, committed}
use Rattle.method.specs.Slots.{slot_of, row_of_number}
use Rattle.method.specs.Conditions.{may_not_forget}
use Rattle.method.specs.Calls.{checks}
use Rattle.slots.proofs.GateLaws.{gate_stops, gate_goes_on}
use Rattle.endings.proofs.forgettable.Goals as goal

abbrev rest : Table → ℕ → List (Refusal × Bool)
rest t n = (Refusal.OutOfTurn, not (committed (row_of_number t n))) ∷ (Refusal.TooEarly, may_not_forget t (row_of_number t n)) ∷ []

pub returns-in_err-slot : goal.returns-in_err-slot
unfolding checks
returns-in_err-slot c =
    let t = c.args.t.now in
    let n = c.args.n.0 in
    let e : c.from_residual.result ≡ Err c.in_err-slot.field-0.0 = search rules in
    record { answer = e ∙ sym (gate_stops t n (rest t n) (slot_of t n) (sym c.enter.ensures.answer ∙ c.in_err-slot.was)) }

pub returns-then-ne : goal.returns-then-ne
unfolding checks
returns-then-ne c =
    let t = c.args.t.now in
    let n = c.args.n.0 in
    let (on, i) = gate_goes_on t n (rest t n) (slot_of t n) (sym c.enter.ensures.answer ∙ c.in_ok-slot.was) in
    let no : not (committed (row_at t c.in_ok-slot.slot)) ≡ true = search rules in
    record { answer = sym (on ∙ rw (sym i, no)) }

pub returns-then-may_not_forget : goal.returns-then-may_not_forget
unfolding checks
returns-then-may_not_forget c =
    let t = c.args.t.now in
    let n = c.args.n.0 in
    let (on, i) = gate_goes_on t n (rest t n) (slot_of t n) (sym c.enter.ensures.answer ∙ c.in_ok-slot.was) in
    let yes : not (committed (row_at t c.in_ok-slot.slot)) ≡ false = search rules in
    let stays : may_not_forget t (row_at t c.in_ok-slot.slot) ≡ true = search rules in
    record { answer = sym (on ∙ rw (sym i, yes, stays)) }

pub returns : goal.returns
unfolding checks
returns c =
    let t = c.args.t.now in
    let n = c.args.n.0 in
    let (on, i) = gate_goes_on t n (rest t n) (slot_of t n) (sym c.enter.ensures.answer ∙ c.in_ok-slot.was) in
    let yes : not (committed (row_at t c.in_ok-slot.slot)) ≡ false = search rules in
    let goes : may_not_forget t (row_at t c.in_ok-slot.slot) ≡ false = search rules in
    record { answer = sym (on ∙ rw (sym i, yes, goes)) }

-- `beginnings::room` meets its contract. Assumes nothing.
use mathlib.Core.Path.{◌≡◌, sym, ap, ◌∙◌}
use mathlib.Core.Bool.{false}
use borrow.Author.Rules.{rules}
use Rattle.std.specs.Prelude.{ok_or}
use Rattle.refusals.specs.declared.Refusal.{Refusal}
use Rattle.method.specs.Conditions.{is_closed, bad_sites, used_up}
use Rattle.method.specs.Calls.{checks}
use Rattle.slots.proofs.GateLaws.{room_is}
use Rattle.beginnings.proofs.room.Goals as goal

pub returns-then-t-eq0-clause-answer : goal.returns-then-t-eq0-clause-answer
unfolding checks
returns-then-t-eq0-clause-answer c = search rules

pub returns-then-are_bad_sites-clause-answer : goal.returns-then-are_bad_sites-clause-answer
unfolding checks
returns-then-are_bad_sites-clause-answer c = search rules

pub returns-then-t-clause-answer : goal.returns-then-t-clause-answer
unfolding checks
returns-then-t-clause-answer c = search rules

pub returns-clause-answer : goal.returns-clause-answer
unfolding checks
returns-clause-answer c =
    let t = c.args.t.now in
    let e = c.ok_or.ensures.value ∙ ap (λ o. ok_or o Refusal.Full) c.lowest_free.ensures.answer ∙ room_is t in
    let shut : is_closed t ≡ false = search rules in
    let good : bad_sites t c.args.x ≡ false = search rules in
    let more : used_up t ≡ false = search rules in
    e ∙ sym (rw (shut, good, more))

-- `endings::abort` meets its contract. Assumes nothing.
use mathlib.Core.Path.{sym, ap, ◌∙◌}
use Rattle.std.specs.Prelude.{Ok}
use Rattle.method.specs.declared.Answer.{Answer}
use Rattle.method.specs.Records.{with_row, free_row}
use Rattle.method.specs.Slots.{slot_of}
use Rattle.method.specs.Calls.Call.{abort}
use Rattle.method.specs.Effects.{answered, effect}
use Rattle.method.proofs.CheckLaws.{refused_step, passed_step}
use Rattle.endings.proofs.abort.Goals as goal

pub returns-in-Ok : goal.returns-in-Ok
unfolding effect
returns-in-Ok c =
    let a = c.args in
    let (e, v) = passed_step a.t (abort a.n.0) (slot_of a.t a.n.0) (sym c.abortable.ensures.answer ∙ c.in-Ok.is) in
    record { answer = c.without.ensures.answer ∙ ap (λ i. answered (with_row a.t i free_row) (Ok Answer.Done)) v ∙ sym e }

pub returns-in-Err : goal.returns-in-Err
returns-in-Err c =
    let a = c.args in
    record { answer = c.refuse.ensures.answer ∙ sym (refused_step a.t (abort a.n.0) (slot_of a.t a.n.0) (sym c.abortable.ensures.answer ∙ c.in-Err.is)) }

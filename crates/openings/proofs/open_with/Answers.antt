-- `openings::open_with` meets its contract. Assumes nothing.
use mathlib.Core.Path.{sym, ◌∙◌}
use Rattle.method.specs.Calls.Call.{open_with}
use Rattle.method.specs.Effects.{effect}
use Rattle.method.proofs.CheckLaws.{refused_step, passed_step}
use Rattle.openings.proofs.open_with.Goals as goal

pub returns-in-Ok : goal.returns-in-Ok
unfolding effect
returns-in-Ok c =
    let a = c.args in
    record { answer = c.opened.ensures.answer ∙ sym (passed_step a.t (open_with a.first.0 a.floors.now) tt (sym c.may_open.ensures.answer ∙ c.in-Ok.is)).0 }

pub returns-in-Err : goal.returns-in-Err
returns-in-Err c =
    let a = c.args in
    record { answer = c.refuse.ensures.answer ∙ sym (refused_step a.t (open_with a.first.0 a.floors.now) tt (sym c.may_open.ensures.answer ∙ c.in-Err.is)) }

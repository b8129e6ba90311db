-- `reports::report_ticket` meets its contract. Assumes nothing.
use mathlib.Core.Path.{sym, ap, ◌∙◌}
use Rattle.std.specs.Prelude.{Ok}
use Rattle.method.specs.declared.Answer.{Answer}
use Rattle.method.specs.Records.{with_row}
use Rattle.method.specs.Calls.Call.{report_ticket}
use Rattle.method.specs.Effects.{answered, effect}
use Rattle.method.proofs.CheckLaws.{refused_step, passed_step}
use Rattle.reports.specs.Reported.{ticketed}
use Rattle.reports.proofs.report_ticket.Goals as goal

pub returns-in-Ok : goal.returns-in-Ok
unfolding effect
returns-in-Ok c =
    let a = c.args in
    let (e, v) = passed_step a.t (report_ticket a.n.0 a.s a.k.0) (ticketed a.t a.n.0 a.s a.k.0) (sym c.ticketed.ensures.answer ∙ c.in-Ok.is) in
    record { answer = c.with_row.ensures.answer ∙ ap (λ x. answered (with_row a.t x.0 x.1) (Ok Answer.Done)) v ∙ sym e }

pub returns-in-Err : goal.returns-in-Err
returns-in-Err c =
    let a = c.args in
    record { answer = c.refuse.ensures.answer ∙ sym (refused_step a.t (report_ticket a.n.0 a.s a.k.0) (ticketed a.t a.n.0 a.s a.k.0) (sym c.ticketed.ensures.answer ∙ c.in-Err.is)) }

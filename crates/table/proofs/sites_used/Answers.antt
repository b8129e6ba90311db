-- `table::sites_used` meets its contract. Assumes nothing.
use mathlib.Core.Path.{sym, ◌∙◌}
use Rattle.table.proofs.UsedLaws.{used_unknown, used_at}
use Rattle.table.proofs.sites_used.Goals as goal

pub returns-in-Ok : goal.returns-in-Ok
returns-in-Ok c = record { answer = c.used.ensures.answer ∙ used_at c.args.t.now.held c.args.n.0 (sym c.enter.ensures.answer ∙ c.in-Ok.is) }

pub returns-in-Err : goal.returns-in-Err
returns-in-Err c = record { answer = used_unknown c.args.t.now.held c.args.n.0 (sym c.enter.ensures.answer ∙ c.in-Err.is) }

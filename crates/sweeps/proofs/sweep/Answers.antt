-- `sweeps::sweep` meets its contract. Assumes nothing.
use mathlib.Core.Path.{◌≡◌, sym, ◌∙◌}
use lib.ListN.{length}
use borrow.Author.Rules.{rules}
use Rattle.method.proofs.SearchLaws.{unmapped}
use Rattle.sweeps.proofs.SweepLaws.{sweep_closed, sweep_open, stay_marks}
use Rattle.sweeps.proofs.sweep.Goals as goal

pub returns-then-t-eq0 : goal.returns-then-t-eq0
returns-then-t-eq0 c = record { answer = c.refuse.ensures.answer ∙ sym (sweep_closed c.args.t c.if-t-eq0.true) }

pub cleared-requires : goal.cleared-requires
cleared-requires c = let t = c.args.t in
    let l : length t.rows ≡ 32 = search (rules, unmapped) in
    stay_marks t l c.tickets-tickets.result c.tickets-tickets.ensures.answer c.held-marks.result c.held-marks.ensures.answer c.reached-stay.result c.reached-stay.ensures.answer

pub returns : goal.returns
returns c = record { answer = c.cleared.ensures.answer ∙ sym (sweep_open c.args.t c.if-t-eq0.false) }

-- `paths::closure::paths` meets its contract: in front of step k the square is that of k steps, whether or not each was made.
-- Assumes nothing.
use mathlib.Core.Path.{sym, ◌∙◌}
use native.Mathlib.Omega.{arith}
use Rattle.paths.specs.Paths.{ticket_row}
use Rattle.paths.proofs.SlotLaws.{none_of_ne}
use Rattle.paths.proofs.ClosureLaws.{after_none, after_step, after_skip, paths_of_all}
use Rattle.paths.proofs.closure.paths.Goals.{then-ne, else-ne}
use Rattle.paths.proofs.closure.paths.Goals as goal

pub loop-k-init : goal.loop-k-init
loop-k-init c = rw c.square_of-square.ensures.answer (after_none c.args.tickets.now c.told-tickets)

pub loop-k-preserved : goal.loop-k-preserved
loop-k-preserved c = let slots = c.args.tickets.now in
    elim c.if-ne.branch [
      | then-ne w ↦ rw w.square-is (after_step slots c.loop-k-test.true c.loop-k.invariant w.step_over.ensures.square)
      | else-ne w ↦ rw w.square-is (after_skip slots c.loop-k.k (none_of_ne (ticket_row slots c.loop-k.k) (sym c.ne.ensures ∙ w.if-ne.false)) c.loop-k.invariant)
    ]

pub returns : goal.returns
returns c = record { answer = paths_of_all c.args.tickets.now c.told-tickets (omega arith) c.loop-k-test.false c.loop-k.invariant }

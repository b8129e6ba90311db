-- `paths::has_cycle` meets its contract. Assumes nothing.
use Rattle.paths.proofs.CycleLaws.{cycle_of_loop}
use Rattle.paths.proofs.has_cycle.Goals as goal

pub returns : goal.returns
returns c = record { answer = cycle_of_loop c.args.tickets.now c.paths.result c.told-tickets c.paths.ensures.answer _ c.has_loop.ensures.answer }

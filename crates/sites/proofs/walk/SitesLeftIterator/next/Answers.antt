-- The iterator's `next` gives the lowest site of what is left, and leaves the others. Assumes nothing.
use Rattle.std.proofs.Common.{rules, arith}
use Rattle.sites.proofs.ByteLaws.{sites_zero, turn}
use Rattle.sites.proofs.walk.SitesLeftIterator.next.Goals as goal

pub returns-then-left-eq0-clause-steps : goal.returns-then-left-eq0-clause-steps
returns-then-left-eq0-clause-steps c = rw c.if-left-eq0.true (sites_zero, sites_zero)

pub returns-clause-steps : goal.returns-clause-steps
returns-clause-steps c = (turn c.args.self.now.0 c.if-left-eq0.false (omega arith)).step

pub returns-clause-goes : goal.returns-clause-goes
returns-clause-goes c =
    let x = c.args.self.now.0 in
    let t = turn x c.if-left-eq0.false (omega arith) in search (rules, t.step)

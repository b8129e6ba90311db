-- `good::shares_ticket` meets its contract: after s sites it has found what the first s tickets of both rows show. Assumes nothing.
use Rattle.std.proofs.Common.{refl}
use Rattle.orders.specs.Good.{sameb}
use Rattle.orders.proofs.GoodLaws.{sameb_zero}
use Rattle.orders.proofs.WalkLaws.{any_site_more}
use Rattle.good.proofs.shares_ticket.Goals as goal

pub loop-s-preserved : goal.loop-s-preserved
loop-s-preserved c = rw (c.loop-s.invariant, any_site_more sameb (λ y. refl) sameb_zero c.args.a.now c.args.b.now c.loop-s.s)

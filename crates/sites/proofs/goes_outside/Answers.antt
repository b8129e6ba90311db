-- `sites::goes_outside` meets its contract: `x >> n` holds the sites from n on, and there is none from 8 on. Assumes nothing.
use mathlib.Core.Path.{sym}
use native.Mathlib.Omega.{arith}
use Rattle.sites.proofs.ByteLaws.{outside_shift}
use Rattle.sites.proofs.SitesLaws.{not_outside_past}
use Rattle.sites.proofs.goes_outside.Goals as goal

pub returns-then-n-lt8 : goal.returns-then-n-lt8
returns-then-n-lt8 c = let a = c.args in record { answer = sym (outside_shift a.x c.ranges.x.fits a.n (omega arith)) }

pub returns-else-n-lt8 : goal.returns-else-n-lt8
returns-else-n-lt8 c = let a = c.args in record { answer = sym (not_outside_past a.x a.n (omega arith)) }

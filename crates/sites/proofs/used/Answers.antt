-- `sites::used` meets its contract. Assumes nothing.
use mathlib.Core.Path.{sym}
use Rattle.sites.proofs.ByteLaws.{used_ones}
use Rattle.sites.proofs.used.Goals as goal

pub returns : goal.returns
returns c = record { answer = sym (used_ones c.args.x c.ranges.x.fits) }

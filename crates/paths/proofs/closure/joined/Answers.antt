-- `paths::closure::joined` meets its contract. Assumes nothing.
use mathlib.Core.Path.{◌≡◌}
use mathlib.Core.Bool.{false, ◌||◌}
use lib.ListN.{get_or}
use borrow.Author.Rules.{rules}
use Rattle.graph.proofs.ArrayLaws.{from_fn_each}
use Rattle.paths.proofs.closure.joined.Goals as goal

pub returns-clause-each : goal.returns-clause-each
returns-clause-each c = λ j h. from_fn_each _ (λ i y. y ≡ get_or c.args.a.now i false || get_or c.args.b.now i false) _ (λ i y q k. search rules) _ 32 c.from_fn.ensures.items j h false

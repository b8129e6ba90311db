-- `paths::arrows::square_of` meets its contract. Assumes nothing.
use mathlib.Core.List.{[], map}
use borrow.Author.Rules.{rules}
use Rattle.graph.proofs.ArrayLaws.{from_fn_map}
use Rattle.orders.specs.Arrow.{arrowb}
use Rattle.paths.proofs.arrows.square_of.Goals as goal

pub returns : goal.returns
returns c = let slots = c.args.tickets.now in
    record { answer = from_fn_map _ (λ a. map (arrowb a) slots) slots [] _ (λ i y q k. search rules) _ 32 c.told-tickets c.from_fn.ensures.items }

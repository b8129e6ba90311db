-- `paths::arrows::row_of` meets its contract. Assumes nothing.
use mathlib.Core.Path.{sym, ◌∙◌}
use mathlib.Core.List.{[]}
use borrow.Author.Rules.{rules}
use Rattle.graph.proofs.ArrayLaws.{from_fn_map}
use Rattle.orders.specs.Arrow.{arrowb}
use Rattle.paths.proofs.SlotLaws.{no_arrows, none_of_eq}
use Rattle.paths.proofs.arrows.row_of.Goals as goal

pub returns-then-eq : goal.returns-then-eq
returns-then-eq c =
    let none = none_of_eq c.args.own.now (sym c.eq.ensures ∙ c.if-eq.true) in
    record { answer = rw c.told-tickets at (no_arrows c.args.own.now c.args.tickets.now none) }

pub returns : goal.returns
returns c = record { answer = from_fn_map _ (arrowb c.args.own.now) c.args.tickets.now [] _ (λ i y q k. search rules) _ 32 c.told-tickets c.from_fn.ensures.items }

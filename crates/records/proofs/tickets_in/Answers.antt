-- `records::tickets_in` meets its contract. Assumes nothing.
use borrow.Author.Rules.{rules}
use Rattle.graph.proofs.ArrayLaws.{map_same}
use Rattle.method.specs.declared.Part.{Part}
use Rattle.records.proofs.tickets_in.Goals as goal

pub returns : goal.returns
returns c = record { answer = map_same _ (λ (p : Part). p.ticket.0) _ (λ p k q h. search rules) _ _ 8 c.told-parts c.map.ensures.items }

-- `kept::aligned::tickets` meets its contract. Assumes nothing.
use mathlib.Core.Path.{◌≡◌}
use mathlib.Core.List.{[]}
use borrow.Author.Rules.{rules}
use Rattle.graph.proofs.ArrayLaws.{from_fn_each}
use Rattle.kept.specs.Aligned.{aligned_row}
use Rattle.kept.proofs.aligned.tickets.Goals as goal

pub returns : goal.returns
returns c = record {
  answer = record {
    size = c.from_fn.ensures.items.long;
    each = λ i h. from_fn_each _ (λ j row. row ≡ aligned_row c.args.t.now c.args.chosen j) _ (λ j row q k. search rules) _ 32 c.from_fn.ensures.items i h [];
  };
}

-- `sweeps::held` meets its contract. Assumes nothing.
use mathlib.Core.Path.{◌≡◌}
use mathlib.Core.Bool.{false, ◌&&◌}
use borrow.Author.Rules.{rules}
use Rattle.graph.proofs.ArrayLaws.{from_fn_each}
use Rattle.method.specs.Records.{committed, row_at}
use Rattle.method.specs.Conditions.{held_back}
use Rattle.sweeps.proofs.held.Goals as goal

pub returns : goal.returns
returns c = let t = c.args.t.now in
    record {
      answer = record {
        size = c.from_fn.ensures.items.long;
        each = λ i h. from_fn_each _ (λ j b. b ≡ committed (row_at t j) && held_back t (row_at t j)) _ (λ j b q k. search rules) _ 32 c.from_fn.ensures.items i h false;
      };
    }

-- `decisions::decide` meets its contract: each way out is one of the laws on decide. Assumes nothing.
use mathlib.Core.Path.{◌≡◌, sym, ◌∙◌}
use Prim.Native.Nat.{◌<◌}
use lib.ListN.{length}
use borrow.Author.Rules.{rules}
use Rattle.method.specs.Slots.{slot_of}
use Rattle.method.specs.Calls.Call.{decide}
use Rattle.method.specs.Effects.{step, effect}
use Rattle.method.proofs.SearchLaws.{unmapped}
use Rattle.method.proofs.CheckLaws.{refused_step, passed_step}
use Rattle.decisions.proofs.DecideLaws.{cycle_effect, commit_effect}
use Rattle.decisions.proofs.decide.Goals.{In-Ok}
use Rattle.decisions.proofs.decide.Goals as goal

-- past the checks
module _ (c : In-Ok) where
  went : (step c.args.t (decide c.args.n.0) ≡ effect c.args.t (decide c.args.n.0)) × (c.in-Ok.slot ≡ slot_of c.args.t c.args.n.0)
  went = passed_step c.args.t (decide c.args.n.0) (slot_of c.args.t c.args.n.0) (sym c.ready.ensures.answer ∙ c.in-Ok.is)

  rows : length c.args.t.rows ≡ 32
  rows = search (rules, unmapped)

  inside : c.in-Ok.slot < 32
  inside = search rules

pub returns-then-has_cycle : goal.returns-then-has_cycle
returns-then-has_cycle c =
    let f = (goal.at.returns-then-has_cycle c).In-Ok in
    let t = c.args.t in
    record {
      answer = c.without.ensures.answer
          ∙ sym ((went f).0 ∙ cycle_effect t (rows f) c.args.n.0 c.in-Ok.slot (went f).1 (inside f) c.tickets-tickets.result c.tickets-tickets.ensures.answer c.has_cycle.result c.has_cycle.ensures.answer c.if-has_cycle.true);
    }

pub returns-else-has_cycle : goal.returns-else-has_cycle
returns-else-has_cycle c =
    let f = (goal.at.returns-else-has_cycle c).In-Ok in
    let t = c.args.t in
    record {
      answer = c.commit.ensures.answer
          ∙ sym ((went f).0 ∙ commit_effect t (rows f) c.args.n.0 c.in-Ok.slot (went f).1 (inside f) c.tickets-tickets.result c.tickets-tickets.ensures.answer c.has_cycle.result c.has_cycle.ensures.answer c.if-has_cycle.false);
    }

pub returns-in-Err : goal.returns-in-Err
returns-in-Err c =
    record { answer = c.refuse.ensures.answer ∙ sym (refused_step c.args.t (decide c.args.n.0) (slot_of c.args.t c.args.n.0) (sym c.ready.ensures.answer ∙ c.in-Err.is)) }

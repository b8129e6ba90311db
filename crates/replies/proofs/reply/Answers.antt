-- `replies::reply` meets its contract: each sort of body gets what the desk owes it. Assumes nothing.
use mathlib.Core.Path.{◌≡◌, sym, ◌∙◌, ap}
use Rattle.std.proofs.Common.{Result, Ok}
use Rattle.refusals.specs.declared.Refusal.{Refusal}
use Rattle.wire.specs.Answers.{body_answer}
use Rattle.wire.specs.Body.{message_of}
use Rattle.replies.specs.declared.asked.Asked.{Asked}
use Rattle.replies.specs.Asked.{asked_of}
use Rattle.replies.proofs.AskedLaws.{request_of_proposal, numbers_of_request}
use Rattle.replies.proofs.RepliedLaws.{proposal_replied, order_replied}
use Rattle.replies.proofs.reply.Goals.{After-ask}
use Rattle.replies.proofs.reply.Goals as goal

-- what the body asks for
sort : (c : After-ask) (x : Result Asked Refusal) → c.ask.result ≡ x → asked_of (body_answer (message_of c.args.body.now)) ≡ x
sort c x e = sym c.ask.ensures.answer ∙ e

pub propose-requires : goal.propose-requires
propose-requires c = let b = c.args.body.now in
    numbers_of_request b _ (request_of_proposal b _ (sort ((goal.at.propose-requires c).After-ask) _ (c.in-Ok-Proposal.is ∙ ap Ok c.in-Ok-Proposal.field-0-is)))

pub returns-in-Ok-Proposal : goal.returns-in-Ok-Proposal
returns-in-Ok-Proposal c = let a = c.args in let r = proposal_replied a.t a.body.now _ (sort ((goal.at.returns-in-Ok-Proposal c).After-ask) _ (c.in-Ok-Proposal.is ∙ ap Ok c.in-Ok-Proposal.field-0-is)) _ c.propose.ensures.answer in record { table = r.0; spoken = r.1 }

pub returns-in-Ok-Order : goal.returns-in-Ok-Order
returns-in-Ok-Order c = let a = c.args in let r = order_replied a.t a.body.now (sort ((goal.at.returns-in-Ok-Order c).After-ask) _ (c.in-Ok-Order.is ∙ ap Ok c.in-Ok-Order.field-0-is)) _ c.give.ensures.answer in record { table = r.0; spoken = r.1 }

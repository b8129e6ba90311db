-- `replies::calls::call` meets its contract: each request goes to the call that the desk makes of its message. Assumes nothing.
use mathlib.Core.Path.{refl, ap, ◌∙◌}
use Rattle.std.proofs.Common.{Ok}
use Rattle.replies.specs.Desk.{desk}
use Rattle.replies.proofs.AskedLaws.{request_of_call, floors_of_request, handed}
use Rattle.replies.proofs.calls.call.Goals as goal

pub open-requires : goal.open-requires
open-requires c = floors_of_request c.args.body.now _ _ (request_of_call c.args.body.now _ c.requires ∙ ap Ok c.in-Opening.is)

pub returns-in-Opening : goal.returns-in-Opening
unfolding desk
returns-in-Opening c = let r = handed c.args.t c.args.body.now c.args.q _ c.requires c.in-Opening.is _ refl c.open.result (c.open.ensures.answer, c.open.ensures.table) in record { table = r.0; line = r.1 }

pub returns-in-Beginning : goal.returns-in-Beginning
unfolding desk
returns-in-Beginning c = let r = handed c.args.t c.args.body.now c.args.q _ c.requires c.in-Beginning.is _ refl c.lend_begin.result (c.lend_begin.ensures.answer, c.lend_begin.ensures.table) in record { table = r.0; line = r.1 }

pub returns-in-Ticketing : goal.returns-in-Ticketing
unfolding desk
returns-in-Ticketing c = let r = handed c.args.t c.args.body.now c.args.q _ c.requires c.in-Ticketing.is _ refl c.lend_report_ticket.result (c.lend_report_ticket.ensures.answer, c.lend_report_ticket.ensures.table) in record { table = r.0; line = r.1 }

pub returns-in-Preparing : goal.returns-in-Preparing
unfolding desk
returns-in-Preparing c = let r = handed c.args.t c.args.body.now c.args.q _ c.requires c.in-Preparing.is _ refl c.lend_report_prepared.result (c.lend_report_prepared.ensures.answer, c.lend_report_prepared.ensures.table) in record { table = r.0; line = r.1 }

pub returns-in-Aborting : goal.returns-in-Aborting
unfolding desk
returns-in-Aborting c = let r = handed c.args.t c.args.body.now c.args.q _ c.requires c.in-Aborting.is _ refl c.lend_abort.result (c.lend_abort.ensures.answer, c.lend_abort.ensures.table) in record { table = r.0; line = r.1 }

pub returns-in-Deciding : goal.returns-in-Deciding
unfolding desk
returns-in-Deciding c = let r = handed c.args.t c.args.body.now c.args.q _ c.requires c.in-Deciding.is _ refl c.lend_decide.result (c.lend_decide.ensures.answer, c.lend_decide.ensures.table) in record { table = r.0; line = r.1 }

pub returns-in-Forgetting : goal.returns-in-Forgetting
unfolding desk
returns-in-Forgetting c = let r = handed c.args.t c.args.body.now c.args.q _ c.requires c.in-Forgetting.is _ refl c.lend_forget.result (c.lend_forget.ensures.answer, c.lend_forget.ensures.table) in record { table = r.0; line = r.1 }

pub returns-in-Sweeping : goal.returns-in-Sweeping
unfolding desk
returns-in-Sweeping c = let r = handed c.args.t c.args.body.now c.args.q _ c.requires c.in-Sweeping.is _ refl c.lend_sweep.result (c.lend_sweep.ensures.answer, c.lend_sweep.ensures.table) in record { table = r.0; line = r.1 }

-- What a body asks for, of three sorts: a call that changes the table, a proposal, an order; or it is no message.
use Rattle.wire.specs.declared.reader.Request.{Request}
use Rattle.wire.specs.declared.reader.Request.TheVariants.{Opening, Beginning, Ticketing, Preparing, Aborting, Deciding, Forgetting, Sweeping, Proposing, Ordering}
use Rattle.std.specs.Prelude.{Result, Ok, Err}
use Rattle.refusals.specs.declared.Refusal.{Refusal}
use Rattle.replies.specs.declared.asked.Asked.{Asked}

-- a proposal has only the count of its numbers, which stay in the body
abbrev pub sort_of : Request → Asked
sort_of (Opening n c) = Asked.Call (Opening n c)
sort_of (Beginning s) = Asked.Call (Beginning s)
sort_of (Ticketing n s k) = Asked.Call (Ticketing n s k)
sort_of (Preparing n s) = Asked.Call (Preparing n s)
sort_of (Aborting n) = Asked.Call (Aborting n)
sort_of (Deciding n) = Asked.Call (Deciding n)
sort_of (Forgetting n) = Asked.Call (Forgetting n)
sort_of Sweeping = Asked.Call Sweeping
sort_of (Proposing c) = Asked.Proposal c
sort_of Ordering = Asked.Order

abbrev pub asked_of : Result Request Refusal → Result Asked Refusal
asked_of (Ok q) = Ok (sort_of q)
asked_of (Err r) = Err r

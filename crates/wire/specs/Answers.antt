-- The code's answers, from the definitions; and the message that a request and its body make up.
use Rattle.std.specs.Prelude.{List, ℕ, ◌+◌, length, drop, Option, Some, None, Result, Ok, Err}
use Rattle.endian.specs.Bytes.{words}
use Rattle.wire.specs.declared.reader.Request.{Request}
use Rattle.wire.specs.declared.reader.Request.TheVariants.{Opening, Beginning, Ticketing, Preparing, Aborting, Deciding, Forgetting, Sweeping, Proposing, Ordering}
use Rattle.wire.specs.declared.reader.Message as reader
use Rattle.refusals.specs.declared.Refusal.{Refusal}
use Rattle.wire.specs.Message.{Message, opening, beginning, ticketing, preparing, aborting, deciding, forgetting, sweeping, proposing, ordering}
use Rattle.wire.specs.Body.{message_of}
use Rattle.frames.specs.Frame.{Next, nothing, cut, bad, whole}

-- a message with its list counted
abbrev pub request_of : Message → Request
request_of (opening n fs) = Opening n (length fs)
request_of (beginning s) = Beginning s
request_of (ticketing n s k) = Ticketing n s k
request_of (preparing n s) = Preparing n s
request_of (aborting n) = Aborting n
request_of (deciding n) = Deciding n
request_of (forgetting n) = Forgetting n
request_of sweeping = Sweeping
request_of (proposing ns) = Proposing (length ns)
request_of ordering = Ordering

-- the request and the body beside it, which has the list
abbrev pub message_with : Request → List ℕ → Message
message_with (Opening n c) b = opening n (words (drop 5 b))
message_with (Beginning s) b = beginning s
message_with (Ticketing n s k) b = ticketing n s k
message_with (Preparing n s) b = preparing n s
message_with (Aborting n) b = aborting n
message_with (Deciding n) b = deciding n
message_with (Forgetting n) b = forgetting n
message_with Sweeping b = sweeping
message_with (Proposing c) b = proposing (words (drop 1 b))
message_with Ordering b = ordering

abbrev pub body_answer : Option Message → Result Request Refusal
body_answer None = Err Refusal.BadBody
body_answer (Some m) = Ok (request_of m)

-- a message that ends at e, by what its body is
abbrev pub with_end : Result Request Refusal → ℕ → Result (Option reader.Message) Refusal
with_end a e = Ok (Some (record { request = a; end = e }))

-- no byte at all is not yet whole either
abbrev pub read_answer : Next → Result (Option reader.Message) Refusal
read_answer nothing = Ok None
read_answer cut = Ok None
read_answer bad = Err Refusal.BadFrame
read_answer (whole b r) = with_end (body_answer (message_of b)) (3 + length b)

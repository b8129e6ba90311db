-- One message at the desk: the table after it, and its line. RULES, The service. Rests on the messages of `wire`, the lines of `lines`, the
-- steps of `method` and the orders of `queries`.
use Rattle.std.specs.Prelude.{Ok, Err, List, ℕ}
use Rattle.std.specs.Prelude.{Option, Some, None}
use Rattle.refusals.specs.declared.Refusal.{Refusal}
use Rattle.refusals.specs.Numbers.{number_of}
use Rattle.lines.specs.declared.Words.{Words}
use Rattle.lines.specs.Line.{Line, Line.say, refused_line}
use Rattle.wire.specs.Message.{Message, opening, beginning, ticketing, preparing, aborting, deciding, forgetting, sweeping, proposing, ordering}
use Rattle.wire.specs.Body.{message_of}
use Rattle.method.specs.declared.Answer.{Answer}
use Rattle.method.specs.declared.Answered.{Answered}
use Rattle.method.specs.declared.Table.{Table}
use Rattle.method.specs.Slots.{kept_flat}
use Rattle.method.specs.Calls.{Call, CallAnswer}
use Rattle.method.specs.Effects.{step}
use Rattle.queries.specs.Queries.{proposal_line, order_line, if_open}

-- a call's answer in words, and as a line
abbrev pub answer_words : CallAnswer → Words
answer_words (Ok Answer.Done) = Words.Ok
answer_words (Ok (Answer.Begun n)) = Words.Begin n.0
answer_words (Ok (Answer.Commit n)) = Words.Commit n.0
answer_words (Ok (Answer.Cycle n)) = Words.Cycle n.0
answer_words (Ok (Answer.Swept c)) = Words.Swept c
answer_words (Err r) = Words.Refused (number_of r)

abbrev pub answer_line : CallAnswer → Line
answer_line a = say (answer_words a)

abbrev pub told : Answered Table Refusal → Table × Line
told a = (a.table, answer_line a.answer)

-- what a message asks for: a call, or something of the kept rows, which changes nothing
pub data Asks : Type 0 where
  calls : Call → Asks
  proposes : List ℕ → Asks
  wants_order : Asks

abbrev pub asks_for : Message → Asks
asks_for (opening n fs) = calls (Call.open_with n fs)
asks_for (beginning s) = calls (Call.begin s)
asks_for (ticketing n s k) = calls (Call.report_ticket n s k)
asks_for (preparing n s) = calls (Call.report_prepared n s)
asks_for (aborting n) = calls (Call.abort n)
asks_for (deciding n) = calls (Call.decide n)
asks_for (forgetting n) = calls (Call.forget n)
asks_for sweeping = calls Call.sweep
asks_for (proposing ns) = proposes ns
asks_for ordering = wants_order

abbrev pub reply_to : Table → Asks → Table × Line
reply_to t (calls c) = told (step t c)
reply_to t (proposes ns) = (t, if_open t (proposal_line (kept_flat t) ns))
reply_to t wants_order = (t, if_open t (order_line (kept_flat t)))

unfoldable pub desk : Table → Message → Table × Line
desk t m = reply_to t (asks_for m)

-- a body, which may be no message
abbrev pub desk_read : Table → Option Message → Table × Line
desk_read t None = (t, refused_line Refusal.BadBody)
desk_read t (Some m) = desk t m

abbrev pub desk_body : Table → List ℕ → Table × Line
desk_body t b = desk_read t (message_of b)

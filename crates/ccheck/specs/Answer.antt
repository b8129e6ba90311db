-- The number that the C call answers, from the check's answer and from the two tests. RULES, The C call.
use Rattle.std.specs.Prelude.{Bool, true, false, ◌&&◌, List, ℕ, ◌%◌, eqb, length, Result, Ok, Err}
use Rattle.endian.specs.Bytes.{words}
use Rattle.refusals.specs.declared.Refusal.{Refusal}
use Rattle.refusals.specs.Numbers.{number_of}
use Rattle.orders.specs.Entries.{entries_in}
use Rattle.orders.specs.Good.{goodb}
use Rattle.orders.specs.Judged.{judged}
use Rattle.orders.specs.Reply.{Reply}
use Rattle.orders.specs.Reply.Reply.{refused, yes, no, wrote}
use Rattle.orders.specs.Order.{in_orderb}

abbrev pub answer_number : Result Bool Refusal → ℕ
answer_number (Ok true) = 1
answer_number (Ok false) = 0
answer_number (Err r) = number_of r

-- the same of the check's reply, which is never that something was written
abbrev pub reply_number : Reply → ℕ
reply_number (refused k) = k
reply_number yes = 1
reply_number no = 0
reply_number (wrote k) = 0

-- what is answered of rows that were read and an order still in bytes
abbrev pub byte_result : List ℕ → List ℕ → ℕ
byte_result flat order = judged 13 1 0 (goodb flat) (eqb (length order % 4) 0 && in_orderb (entries_in flat) (words order))

-- Every number that the desk tells as a refusal's is the number of one: no line of it tells another. Assumes nothing.
use mathlib.Core.Path.{◌≡◌, refl}
use mathlib.Core.Bool.{Bool, true, false, cond}
use mathlib.Core.List.{List}
use Prim.Native.Nat.{ℕ}
use Rattle.std.specs.Prelude.{Option, Some, None, Ok, Err}
use Rattle.refusals.specs.declared.Refusal.{Refusal}
use Rattle.graph.specs.Acyclic.{acyclic}
use Rattle.graph.specs.Order.{greedy}
use Rattle.orders.specs.Entries.{number_of, entry_arrowb, entries_in}
use Rattle.orders.specs.Good.{goodb}
use Rattle.orders.specs.Order.{in_orderb}
use Rattle.orders.specs.Judged.{judged}
use Rattle.lines.specs.declared.Words.{Words}
use Rattle.lines.specs.Line.{Line, Line.say, good_line, bad_line, refused_line}
use Rattle.wire.specs.Message.{Message}
use Rattle.wire.specs.Body.{message_of}
use Rattle.method.specs.declared.Answer.{Answer}
use Rattle.method.specs.declared.Table.{Table}
use Rattle.method.specs.Conditions.{is_closed}
use Rattle.method.specs.Slots.{kept_flat}
use Rattle.method.specs.Calls.{CallAnswer}
use Rattle.method.specs.Effects.{step}
use Rattle.method.proofs.RecordLaws.{never}
use Rattle.queries.specs.Queries.{proposal_line, order_line}
use Rattle.replies.specs.Desk.{answer_line, Asks, Asks.calls, Asks.proposes, Asks.wants_order, asks_for, reply_to, desk, desk_read, desk_body}

abbrev Named : Line → Type 0
Named l = (k : ℕ) → l ≡ say (Words.Refused k) → (r : Refusal) × (l ≡ refused_line r)

named_answer : (a : CallAnswer) → Named (answer_line a)
named_answer (Ok Answer.Done) k e = never (cc)
named_answer (Ok (Answer.Begun n)) k e = never (cc)
named_answer (Ok (Answer.Commit n)) k e = never (cc)
named_answer (Ok (Answer.Cycle n)) k e = never (cc)
named_answer (Ok (Answer.Swept c)) k e = never (cc)
named_answer (Err r) k e = (r, refl)

named_open : (b : Bool) (l : Line) → Named l → Named (cond b (refused_line Refusal.NotOpen) l)
named_open true l n k e = (Refusal.NotOpen, refl)
named_open false l n k e = n k e

named_proposal : (g o : Bool) → Named (judged (refused_line Refusal.BadRows) good_line bad_line g o)
named_proposal false o k e = (Refusal.BadRows, refl)
named_proposal true true k e = never (cc)
named_proposal true false k e = never (cc)

named_order : (g a : Bool) (os : List ℕ) → Named (cond g (cond a (Line.order os) (refused_line Refusal.NoOrder)) (refused_line Refusal.BadRows))
named_order false a os k e = (Refusal.BadRows, refl)
named_order true false os k e = (Refusal.NoOrder, refl)
named_order true true os k e = never (cc)

named_reply : (t : Table) (a : Asks) → Named (reply_to t a).1
named_reply t (calls c) = named_answer (step t c).answer
named_reply t (proposes ns) =
    let rows = kept_flat t in
    named_open (is_closed t) (proposal_line rows ns) (named_proposal (goodb rows) (in_orderb (entries_in rows) ns))
named_reply t wants_order =
    let rows = kept_flat t in
    named_open (is_closed t) (order_line rows) (named_order (goodb rows) (acyclic entry_arrowb (entries_in rows)) (greedy entry_arrowb number_of (entries_in rows)))

pub named_desk : (t : Table) (m : Message) (k : ℕ) → (desk t m).1 ≡ say (Words.Refused k) → (r : Refusal) × ((desk t m).1 ≡ refused_line r)
unfolding desk
named_desk t m = named_reply t (asks_for m)

pub named_body : (t : Table) (b : List ℕ) (k : ℕ) → (desk_body t b).1 ≡ say (Words.Refused k) → (r : Refusal) × ((desk_body t b).1 ≡ refused_line r)
unfolding desk
named_body t b = go (message_of b)
  where
    go : (o : Option Message) → Named (desk_read t o).1
    go None k e = (Refusal.BadBody, refl)
    go (Some m) k e = named_reply t (asks_for m) k e

-- What is said of an order and of a proposal, from what the writer and the check answered. Assumes nothing.
use mathlib.Core.Path.{◌≡◌, refl, ap, ◌∙◌}
use mathlib.Core.Bool.{Bool, true, false, cond}
use mathlib.Core.List.{List}
use Prim.Native.Nat.{ℕ, ◌+◌, ◌≤◌}
use native.Mathlib.Omega.{arith}
use lib.Dec.{ltb}
use lib.ListN.{length}
use borrow.Author.Tests.{le-ltb}
use Rattle.std.specs.Prelude.{Result, Ok, Err}
use Rattle.refusals.specs.declared.Refusal.{Refusal}
use Rattle.refusals.specs.Numbers.{number_of}
use Rattle.refusals.proofs.NumberLaws.{numbers_differ}
use Rattle.endian.specs.Laid.{laid}
use Rattle.graph.specs.Acyclic.{acyclic}
use Rattle.graph.specs.Order.{greedy}
use Rattle.lines.specs.Line.{Line, Line.say, Line.order, good_line, bad_line, refused_line}
use Rattle.orders.specs.Entries.{number_of as number, entry_arrowb, entries_in}
use Rattle.orders.specs.Good.{goodb}
use Rattle.orders.specs.Judged.{judged}
use Rattle.orders.specs.Order.{in_orderb, check_result}
use Rattle.orders.specs.Reply.{Reply, check_reply, write_reply}
use Rattle.orders.specs.Write.{order_written, write_result}
use Rattle.orders.proofs.EntriesLaws.{length_entries_in}
use Rattle.method.specs.declared.Table.{Table}
use Rattle.method.specs.Conditions.{is_closed}
use Rattle.queries.specs.declared.Spoken.{Spoken}
use Rattle.queries.specs.Queries.{order_line, proposal_line, if_open}
use Rattle.queries.specs.Said.{no_numbers, spoken, spoken_of, check_words, write_said}
use Rattle.method.proofs.RecordLaws.{never}

-- a refusal of the check or the writer is told by a number, which only it has
same : (r q : Refusal) → Reply.refused (number_of r) ≡ Reply.refused (number_of q) → refused_line r ≡ refused_line q
same r q e = ap refused_line (numbers_differ r q (cc))

pub proposal_said : (flat ns : List ℕ) (a : Result Bool Refusal) → check_reply a ≡ check_result flat ns → say (check_words a) ≡ proposal_line flat ns
unfolding check_result
proposal_said flat ns a e = go (goodb flat) (in_orderb (entries_in flat) ns) a e
  where
    go : (g o : Bool) (a : Result Bool Refusal) → check_reply a ≡ judged (Reply.refused 13) Reply.yes Reply.no g o
        → say (check_words a) ≡ judged (refused_line Refusal.BadRows) good_line bad_line g o
    go false o (Ok true) e = never (cc)
    go false o (Ok false) e = never (cc)
    go false o (Err r) e = same r Refusal.BadRows e
    go true true (Ok true) e = refl
    go true true (Ok false) e = never (cc)
    go true true (Err r) e = never (cc)
    go true false (Ok true) e = never (cc)
    go true false (Ok false) e = refl
    go true false (Err r) e = never (cc)

-- 32 entries are room for the kept rows, so the writer never answers 14
module _ (flat : List ℕ) (h : length flat ≤ 288) where
  has_room : ltb (length no_numbers) (0 + length (entries_in flat)) ≡ false
  has_room = le-ltb (length no_numbers) (0 + length (entries_in flat)) (omega (arith, length_entries_in flat))

  pub order_said : (a : Result ℕ Refusal) (after : List ℕ) → write_reply a ≡ (write_result flat 0 no_numbers).0 → after ≡ (write_result flat 0 no_numbers).1
      → spoken (write_said a) after ≡ spoken_of (order_line flat)
  unfolding write_result order_written
  order_said a after e f = go (goodb flat) (acyclic entry_arrowb (entries_in flat)) a (rw has_room at e) (rw has_room at f)
    where
      o : List ℕ
      o = greedy entry_arrowb number (entries_in flat)

      answer : Bool → Bool → Reply × List ℕ
      answer g a = cond g (cond a (Reply.wrote (length o), laid no_numbers 0 o) (Reply.refused 12, no_numbers)) (Reply.refused 13, no_numbers)

      line : Bool → Bool → Line
      line g a = cond g (cond a (order o) (refused_line Refusal.NoOrder)) (refused_line Refusal.BadRows)

      no : (r q : Refusal) → Reply.refused (number_of r) ≡ Reply.refused (number_of q) → after ≡ no_numbers → spoken (write_said (Err r)) after ≡ spoken_of (refused_line q)
      no r q e f = rw (f, numbers_differ r q (cc))

      go : (g b : Bool) (a : Result ℕ Refusal) → write_reply a ≡ (answer g b).0 → after ≡ (answer g b).1 → spoken (write_said a) after ≡ spoken_of (line g b)
      go false b (Ok n) e f = never (cc)
      go false b (Err r) e f = no r Refusal.BadRows e f
      go true true (Ok n) e f = let k : n ≡ length o = cc in rw (f, k)
      go true true (Err r) e f = never (cc)
      go true false (Ok n) e f = never (cc)
      go true false (Err r) e f = no r Refusal.NoOrder e f

pub open_spoken : (t : Table) (x : Line) (r s : Spoken) → r ≡ cond (is_closed t) (spoken_of (refused_line Refusal.NotOpen)) s → s ≡ spoken_of x → r ≡ spoken_of (if_open t x)
open_spoken t x r s g e = g ∙ rw e (go (is_closed t))
  where
    go : (b : Bool) → cond b (spoken_of (refused_line Refusal.NotOpen)) (spoken_of x) ≡ spoken_of (cond b (refused_line Refusal.NotOpen) x)
    go true = refl
    go false = refl

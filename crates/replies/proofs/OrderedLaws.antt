-- The desk on a table whose kept rows are good and have an order. Assumes nothing.
use mathlib.Core.Path.{◌≡◌, refl, sym, ap, ◌∙◌}
use mathlib.Core.Bool.{Bool, true, false, cond}
use mathlib.Core.List.Memᴰ.{head as here}
use mathlib.Core.List.Memᴰ.{tail as behind}
use mathlib.Core.List.{List, ◌∷◌, map}
use mathlib.Core.Logic.{◌↔◌, inl, inr}
use Rattle.std.proofs.Common.{Option, Some, None}
use Prim.Native.Nat.{ℕ}
use Rattle.refusals.specs.declared.Refusal.{Refusal}
use Rattle.refusals.specs.Numbers as refusals
use Rattle.graph.specs.Lists.{◌∈◌}
use Rattle.graph.specs.Path.{Cycle}
use Rattle.graph.specs.Acyclic.{acyclic}
use Rattle.graph.specs.Order.{greedy}
use Rattle.graph.specs.Smallest.{SmallestFirst}
use Rattle.graph.proofs.TestLaws.{true_or_false, true_not_false, false_of_not_true}
use Rattle.graph.proofs.AcyclicLaws.{acyclic_iff}
use Rattle.graph.proofs.PathLaws.{cycle_of_weaker}
use Rattle.orders.specs.Entries.{Entry, number_of, EntryArrow, entry_arrowb, entries_in}
use Rattle.orders.specs.Good.{GoodRows}
use Rattle.orders.specs.Order.{InOrder, in_orderb}
use Rattle.orders.proofs.ArrowLaws.{arrowb→arrow}
use Rattle.orders.proofs.GoodLaws.{good→goodb}
use Rattle.orders.proofs.OrderLaws.{in_orderb→in_order, in_order→in_orderb, in_order_of_greedy, order_exists_iff_no_cycle}
use Rattle.orders.proofs.WriteLaws.{smallest_first_of_greedy}
use Rattle.wire.specs.Message.{Message, proposing, ordering}
use Rattle.wire.specs.Body.{message_of}
use Rattle.lines.specs.declared.Words.{Words}
use Rattle.lines.specs.Line.{Line, Line.say, bad_line, good_line, refused_line}
use Rattle.method.specs.declared.Table.{Table}
use Rattle.method.specs.Slots.{kept_flat}
use Rattle.method.specs.Conditions.{Closed, is_closed}
use Rattle.method.specs.Calls.{call_refusals}
use Rattle.method.specs.Effects.{step}
use Rattle.method.proofs.RecordLaws.{never}
use Rattle.method.proofs.ConditionLaws.{closed_iff}
use Rattle.queries.specs.Queries.{proposal_line, order_line, if_open}
use Rattle.replies.specs.Desk.{Asks, Asks.calls, Asks.proposes, Asks.wants_order, asks_for, reply_to, desk, desk_read, desk_body}
use Rattle.method.proofs.ListedLaws.{refusal_listed}
use Rattle.replies.proofs.RefusalLaws.{refused_of_line, number_listed, listed_of_number}

-- over a list of kept rows that is good and has an order
module _ (t : Table) (g : GoodRows (kept_flat t)) (x : (o : List ℕ) × InOrder (entries_in (kept_flat t)) o) where
  abbrev rows : List Entry
  rows = entries_in (kept_flat t)

  no_cycle : ¬ Cycle EntryArrow rows
  no_cycle = (order_exists_iff_no_cycle rows g.apart.numbers).0 x

  passes : acyclic entry_arrowb rows ≡ true
  passes = (acyclic_iff entry_arrowb rows).1 (λ c. no_cycle (cycle_of_weaker (λ q r. arrowb→arrow q.tickets r.tickets) c))

  order_line_lem : order_line (kept_flat t) ≡ Line.order (greedy entry_arrowb number_of rows)
  order_line_lem = rw (good→goodb (kept_flat t) g, passes)

  proposal_line_lem : (ns : List ℕ) (b : Bool) → in_orderb rows ns ≡ b → proposal_line (kept_flat t) ns ≡ cond b good_line bad_line
  proposal_line_lem ns b e = rw (good→goodb (kept_flat t) g, e)

  -- no message gets 12 or 13
  module _ (k : ℕ) where
    abbrev told : Line
    told = say (Words.Refused k)

    abbrev Listed : Type 0
    Listed = k ∈ map refusals.number_of call_refusals

    open_listed : (y : Line) → ¬ (y ≡ told) → if_open t y ≡ told → Listed
    open_listed y n = go (is_closed t)
      where
        go : (b : Bool) → cond b (refused_line Refusal.NotOpen) y ≡ told → Listed
        go true e = here (let f : 1 ≡ k = cc in sym f)
        go false e = absurd (n e)

    not_refused : (b : Bool) → ¬ (cond b good_line bad_line ≡ told)
    not_refused true e = never (cc)
    not_refused false e = never (cc)

    reply_listed : (a : Asks) → (reply_to t a).1 ≡ told → Listed
    reply_listed (calls c) e = let (r, n, f) = refused_of_line (step t c).answer k e in number_listed call_refusals n (refusal_listed t c r f)
    reply_listed (proposes ns) e = open_listed (proposal_line (kept_flat t) ns) (λ f. not_refused (in_orderb rows ns) (sym (proposal_line_lem ns (in_orderb rows ns) refl) ∙ f)) e
    reply_listed wants_order e = open_listed (order_line (kept_flat t)) (λ g. let f = sym order_line_lem ∙ g in never (cc)) e

    pub body_listed : (b : List ℕ) → (desk_body t b).1 ≡ say (Words.Refused k) → k ∈ map refusals.number_of (Refusal.BadBody ∷ call_refusals)
    unfolding desk
    body_listed b = go (message_of b)
      where
        go : (o : Option Message) → (desk_read t o).1 ≡ told → k ∈ map refusals.number_of (Refusal.BadBody ∷ call_refusals)
        go None e = here (let f : 10 ≡ k = cc in sym f)
        go (Some m) e = behind (reply_listed (asks_for m) e)

  -- the same of the line of a refusal
  pub refusal_in_body : (k : Refusal) (b : List ℕ) → (desk_body t b).1 ≡ refused_line k → k ∈ Refusal.BadBody ∷ call_refusals
  refusal_in_body k b e = listed_of_number (Refusal.BadBody ∷ call_refusals) k (body_listed (refusals.number_of k) b e)

  -- what an open table answers
  module _ (nc : ¬ Closed t) where
    is_open : is_closed t ≡ false
    is_open = false_of_not_true (is_closed t) (λ e. nc ((closed_iff t).0 e))

    pub desk_order : (o : List ℕ) × (desk t ordering ≡ (t, Line.order o)) × InOrder rows o × SmallestFirst EntryArrow number_of rows o
    unfolding desk
    desk_order = (greedy entry_arrowb number_of rows, rw (is_open, order_line_lem), in_order_of_greedy rows g.apart.numbers no_cycle, smallest_first_of_greedy rows)

    desk_proposal : (ns : List ℕ) (b : Bool) → in_orderb rows ns ≡ b → desk t (proposing ns) ≡ (t, cond b good_line bad_line)
    unfolding desk
    desk_proposal ns b e = rw (is_open, proposal_line_lem ns b e)

    line : {p q : Table × Line} → p ≡ q → p.1 ≡ q.1
    line e = ap (λ (p : Table × Line). p.1) e

    pub proposal_iff : (ns : List ℕ) → ((desk t (proposing ns) ≡ (t, good_line)) ↔ InOrder rows ns) × ((desk t (proposing ns) ≡ (t, bad_line)) ↔ (¬ InOrder rows ns))
    proposal_iff ns = elim (true_or_false (in_orderb rows ns)) [
      | inl e ↦ let d = desk_proposal ns true e in let o = in_orderb→in_order rows g.apart.numbers ns e in
          (((λ z. o), λ z. d), ((λ z. let f : good_line ≡ bad_line = line (sym d ∙ z) in never (cc)), λ z. absurd (z o)))
      | inr e ↦ let d = desk_proposal ns false e in let n : ¬ InOrder rows ns = λ o. true_not_false (in_order→in_orderb rows g.apart.numbers ns o) e in
          (((λ z. let f : bad_line ≡ good_line = line (sym d ∙ z) in never (cc)), λ z. absurd (n z)), ((λ z. n), λ z. d))
    ]

-- Which refusals a message at the desk can get, and that a refused one leaves the table. Assumes nothing.
use mathlib.Core.Path.{◌≡◌, refl, sym, ap, subst, ◌∙◌}
use mathlib.Core.Bool.{Bool, true, false, cond}
use mathlib.Core.List.Memᴰ
use mathlib.Core.List.Memᴰ.{head as here}
use mathlib.Core.List.Memᴰ.{tail as behind}
use mathlib.Core.List.{List, ◌∷◌, map}
use mathlib.Core.Logic.{◌↔◌, ◌≢◌, inl}
use Rattle.std.proofs.Common.{Option, Some, None}
use Prim.Native.Nat.{ℕ}
use Rattle.std.specs.Prelude.{Ok, Err}
use Rattle.refusals.specs.declared.Refusal.{Refusal}
use Rattle.refusals.specs.Numbers.{number_of}
use Rattle.refusals.proofs.NumberLaws.{numbers_differ}
use Rattle.endian.specs.Places.{Below}
use Rattle.graph.specs.Lists.{◌∈◌}
use Rattle.graph.specs.Acyclic.{acyclic}
use Rattle.graph.specs.Order.{greedy}
use lib.Dec.{eqb}
use Rattle.graph.proofs.TestLaws.{true_not_false}
use Rattle.graph.proofs.MemberLaws.{any_of_member}
use Rattle.orders.specs.Entries.{number_of as entry_number, entry_arrowb, entries_in}
use Rattle.orders.specs.Good.{goodb}
use Rattle.orders.specs.Order.{in_orderb}
use Rattle.orders.specs.Judged.{judged}
use Rattle.wire.specs.Message.{Message, InRange, body_of, opening, beginning, ticketing, preparing, aborting, deciding, forgetting, sweeping, proposing, ordering}
use Rattle.wire.specs.Body.{message_of}
use Rattle.wire.specs.Meaning.{NoBody}
use Rattle.wire.proofs.BodyLaws.{message_of_body, body_of_message, no_body_of_none}
use Rattle.lines.proofs.RefusedLaws.{same_refusal}
use Rattle.lines.specs.declared.Words.{Words}
use Rattle.lines.specs.Line.{Line, Line.say, bad_line, good_line, refused_line}
use Rattle.method.specs.declared.Table.{Table}
use Rattle.method.specs.declared.Answer.{Answer}
use Rattle.method.specs.Slots.{kept_flat}
use Rattle.method.specs.Conditions.{Closed, is_closed}
use Rattle.method.specs.Calls.{Call, CallAnswer, rules, call_refusals, FirstHolds}
use Rattle.method.specs.Calls.Call.{open_with, begin, report_ticket, report_prepared, abort, decide, forget, sweep}
use Rattle.method.specs.Effects.{step}
use Rattle.method.proofs.RecordLaws.{never}
use Rattle.method.proofs.ConditionLaws.{closed_iff}
use Rattle.method.proofs.CallLaws.{refused_keeps, refused_exactly}
use Rattle.queries.specs.Queries.{proposal_line, order_line, if_open}
use Rattle.replies.specs.Desk.{answer_line, told, Asks, Asks.calls, Asks.proposes, Asks.wants_order, asks_for, reply_to, desk, desk_read, desk_body}
use Rattle.method.proofs.ListedLaws.{refusal_listed}
use Rattle.replies.proofs.NamedLaws.{named_desk, named_body}

-- a line that tells a number as a refusal's is an answer's only where this is the number of the refusal that was answered
pub refused_of_line : (a : CallAnswer) (k : ℕ) → answer_line a ≡ say (Words.Refused k) → (r : Refusal) × (k ≡ number_of r) × (a ≡ Err r)
refused_of_line (Ok Answer.Done) k e = never (cc)
refused_of_line (Ok (Answer.Begun n)) k e = never (cc)
refused_of_line (Ok (Answer.Commit n)) k e = never (cc)
refused_of_line (Ok (Answer.Cycle n)) k e = never (cc)
refused_of_line (Ok (Answer.Swept c)) k e = never (cc)
refused_of_line (Err r) k e = (r, (cc), refl)

-- the same of the line of a refusal
pub err_of_line : (a : CallAnswer) (k : Refusal) → answer_line a ≡ refused_line k → a ≡ Err k
err_of_line a k e =
    let (r, n, f) = refused_of_line a (number_of k) e in
    f ∙ ap {B = CallAnswer} Err (numbers_differ r k (sym n))

-- the number that a refusal's line tells, and where it stands
pub number_told : (r : Refusal) (k : ℕ) → refused_line r ≡ say (Words.Refused k) → k ≡ number_of r
number_told r k e = cc

pub number_listed : (l : List Refusal) {r : Refusal} {k : ℕ} → k ≡ number_of r → r ∈ l → k ∈ map number_of l
number_listed l n i = subst (λ (j : ℕ). j ∈ map number_of l) (sym n) (Memᴰ.map number_of i)

-- and back: no two refusals share a number
pub listed_of_number : (l : List Refusal) (r : Refusal) → number_of r ∈ map number_of l → r ∈ l
listed_of_number l r i = let (q, m, e) = Memᴰ.of_map number_of l i in Memᴰ.cast (numbers_differ r q (sym e)) m

-- beside a call's refusals there are 12 and 13, of a bad table of kept rows
abbrev refusals : List Refusal
refusals = Refusal.NoOrder ∷ Refusal.BadRows ∷ call_refusals

-- a line of the desk that is a refusal leaves the table
module _ (t : Table) (k : Refusal) where
  abbrev Refuses : Table × Line → Type 0
  Refuses x = x.1 ≡ refused_line k → (k ∈ refusals) × (x.0 ≡ t)

  open_refuses : (x : Line) → (x ≡ refused_line k → k ∈ refusals) → Refuses (t, if_open t x)
  open_refuses x h = go (is_closed t)
    where
      go : (b : Bool) → Refuses (t, cond b (refused_line Refusal.NotOpen) x)
      go true e = (behind (behind (here (let f : Refusal.NotOpen ≡ k = same_refusal Refusal.NotOpen k e in sym f))), refl)
      go false e = (h e, refl)

  proposal_refuses : (flat ns : List ℕ) → proposal_line flat ns ≡ refused_line k → k ∈ refusals
  proposal_refuses flat ns = go (goodb flat) (in_orderb (entries_in flat) ns)
    where
      go : (g o : Bool) → judged (refused_line Refusal.BadRows) good_line bad_line g o ≡ refused_line k → k ∈ refusals
      go false o e = behind (here (let f : Refusal.BadRows ≡ k = same_refusal Refusal.BadRows k e in sym f))
      go true true e = never (cc)
      go true false e = never (cc)

  order_refuses : (flat : List ℕ) → order_line flat ≡ refused_line k → k ∈ refusals
  order_refuses flat = go (goodb flat) (acyclic entry_arrowb (entries_in flat))
    where
      go : (g a : Bool) → cond g (cond a (Line.order (greedy entry_arrowb entry_number (entries_in flat))) (refused_line Refusal.NoOrder)) (refused_line Refusal.BadRows) ≡ refused_line k → k ∈ refusals
      go false a e = behind (here (let f : Refusal.BadRows ≡ k = same_refusal Refusal.BadRows k e in sym f))
      go true false e = here (let f : Refusal.NoOrder ≡ k = same_refusal Refusal.NoOrder k e in sym f)
      go true true e = never (cc)

  reply_refuses : (a : Asks) → Refuses (reply_to t a)
  reply_refuses (calls c) e = let f = err_of_line (step t c).answer k e in (behind (behind (refusal_listed t c k f)), refused_keeps t c k f)
  reply_refuses (proposes ns) e = open_refuses (proposal_line (kept_flat t) ns) (proposal_refuses (kept_flat t) ns) e
  reply_refuses wants_order e = open_refuses (order_line (kept_flat t)) (order_refuses (kept_flat t)) e

  pub message_refuses : (m : Message) → Refuses (desk t m)
  unfolding desk
  message_refuses m = reply_refuses (asks_for m)

  pub body_leaves : (b : List ℕ) → (desk_body t b).1 ≡ refused_line k → (desk_body t b).0 ≡ t
  body_leaves b = go (message_of b)
    where
      go : (o : Option Message) → (desk_read t o).1 ≡ refused_line k → (desk_read t o).0 ≡ t
      go None e = refl
      go (Some m) e = (message_refuses m e).1

-- the same of every number that a line can tell
module _ (t : Table) (k : ℕ) where
  pub desk_refuses : (m : Message) → (desk t m).1 ≡ say (Words.Refused k) → (k ∈ map number_of refusals) × ((desk t m).0 ≡ t)
  desk_refuses m e =
      let (r, f) = named_desk t m k e in
      let (i, u) = message_refuses t r m f in
      (number_listed refusals (number_told r k (sym f ∙ e)) i, u)

  pub body_keeps : (b : List ℕ) → (desk_body t b).1 ≡ say (Words.Refused k) → (desk_body t b).0 ≡ t
  body_keeps b e = let (r, f) = named_body t b k e in body_leaves t r b f

pub ten_of_no_message : (t : Table) (b : List ℕ) → message_of b ≡ None → desk_body t b ≡ (t, refused_line Refusal.BadBody)
ten_of_no_message t b e = rw e

-- 10 exactly if the body is no message's
pub ten_iff : (t : Table) (b : List ℕ) → Below 256 b → ((desk_body t b).1 ≡ refused_line Refusal.BadBody) ↔ NoBody b
ten_iff t b w = go (message_of b) refl
  where
    not_ten : ¬ (Refusal.BadBody ∈ refusals)
    not_ten m = true_not_false (any_of_member (λ (q : Refusal). eqb (number_of Refusal.BadBody) (number_of q)) m refl) refl

    go : (o : Option Message) → message_of b ≡ o → ((desk_read t o).1 ≡ refused_line Refusal.BadBody) ↔ NoBody b
    go None e = (λ x. no_body_of_none b e, λ x. refl)
    go (Some m) e = (λ x. absurd (not_ten (message_refuses t Refusal.BadBody m x).0), λ x. absurd (let p = body_of_message b w m e in x m p.1 p.0))

pub desk_of_none : (t : Table) (b : List ℕ) → Below 256 b → NoBody b → desk_body t b ≡ (t, refused_line Refusal.BadBody)
desk_of_none t b w h = go (message_of b) refl
  where
    go : (o : Option Message) → message_of b ≡ o → desk_read t o ≡ (t, refused_line Refusal.BadBody)
    go None e = refl
    go (Some m) e = absurd (let p = body_of_message b w m e in h m p.1 p.0)

-- a refused call's line
told_refused : (t : Table) (c : Call) (k : Refusal) → FirstHolds (rules t c) k → told (step t c) ≡ (t, refused_line k)
told_refused t c k f = let e = (refused_exactly t c k).1 f in rw (e, refused_keeps t c k e) refl

module _ (t : Table) where
  -- before a good opening: every call but the opening has 1 ahead of its other checks
  closed_call : Closed t → (c : Call) → ((n : ℕ) (fs : List ℕ) → c ≢ open_with n fs) → told (step t c) ≡ (t, refused_line Refusal.NotOpen)
  unfolding rules
  closed_call cl (open_with n fs) d = absurd (d n fs refl)
  closed_call cl (begin s) d = told_refused t (begin s) Refusal.NotOpen (inl (cl, refl))
  closed_call cl (report_ticket n s j) d = told_refused t (report_ticket n s j) Refusal.NotOpen (inl (cl, refl))
  closed_call cl (report_prepared n s) d = told_refused t (report_prepared n s) Refusal.NotOpen (inl (cl, refl))
  closed_call cl (abort n) d = told_refused t (abort n) Refusal.NotOpen (inl (cl, refl))
  closed_call cl (decide n) d = told_refused t (decide n) Refusal.NotOpen (inl (cl, refl))
  closed_call cl (forget n) d = told_refused t (forget n) Refusal.NotOpen (inl (cl, refl))
  closed_call cl sweep d = told_refused t sweep Refusal.NotOpen (inl (cl, refl))

  closed_reply : Closed t → (a : Asks) → ((n : ℕ) (fs : List ℕ) → a ≢ calls (open_with n fs)) → reply_to t a ≡ (t, refused_line Refusal.NotOpen)
  closed_reply cl (calls c) d = closed_call cl c (λ n fs e. d n fs (ap {B = Asks} calls e))
  closed_reply cl (proposes ns) d = rw ((closed_iff t).1 cl)
  closed_reply cl wants_order d = rw ((closed_iff t).1 cl)

  -- only an opening asks for one
  opening_of_asks : (m : Message) (n : ℕ) (fs : List ℕ) → asks_for m ≡ calls (open_with n fs) → m ≡ opening n fs
  opening_of_asks (opening i gs) n fs e = cc
  opening_of_asks (beginning s) n fs e = never (cc)
  opening_of_asks (ticketing i s j) n fs e = never (cc)
  opening_of_asks (preparing i s) n fs e = never (cc)
  opening_of_asks (aborting i) n fs e = never (cc)
  opening_of_asks (deciding i) n fs e = never (cc)
  opening_of_asks (forgetting i) n fs e = never (cc)
  opening_of_asks sweeping n fs e = never (cc)
  opening_of_asks (proposing ns) n fs e = never (cc)
  opening_of_asks ordering n fs e = never (cc)

  closed_desk : Closed t → (m : Message) → ((n : ℕ) (fs : List ℕ) → m ≢ opening n fs) → desk t m ≡ (t, refused_line Refusal.NotOpen)
  unfolding desk
  closed_desk cl m d = closed_reply cl (asks_for m) (λ n fs e. d n fs (opening_of_asks m n fs e))

  open_desk : ¬ Closed t → (n : ℕ) (fs : List ℕ) → desk t (opening n fs) ≡ (t, refused_line Refusal.OutOfTurn)
  unfolding desk rules
  open_desk nc n fs = told_refused t (open_with n fs) Refusal.OutOfTurn (inl (nc, refl))

  body_of_lem : (m : Message) → InRange m → desk_body t (body_of m) ≡ desk t m
  body_of_lem m h = rw (message_of_body m h) refl

  pub one_of_closed : (m : Message) → InRange m → ((n : ℕ) (fs : List ℕ) → m ≢ opening n fs) → Closed t → desk_body t (body_of m) ≡ (t, refused_line Refusal.NotOpen)
  one_of_closed m h d cl = body_of_lem m h ∙ closed_desk cl m d

  pub four_of_open : (n : ℕ) (fs : List ℕ) → InRange (opening n fs) → ¬ Closed t → desk_body t (body_of (opening n fs)) ≡ (t, refused_line Refusal.OutOfTurn)
  four_of_open n fs h nc = body_of_lem (opening n fs) h ∙ open_desk nc n fs

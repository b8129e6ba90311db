-- What a request that was read off a body says of it: what the desk owes it, and where its list stands. Assumes nothing.
use mathlib.Core.Path.{◌≡◌, refl, sym, ap, ◌∙◌}
use mathlib.Core.List.{List}
use Rattle.std.proofs.Common.{Some, Result, Ok, Err}
use Rattle.refusals.specs.declared.Refusal.{Refusal}
use Prim.Native.Nat.{ℕ, ◌<◌, ◌≤◌}
use native.Mathlib.Omega.{arith}
use lib.ListN.{length, get_or, drop, length-drop}
use Rattle.endian.specs.Bytes.{words}
use Rattle.endian.proofs.WordsLaws.{length_words}
use Rattle.method.specs.declared.Table as method
use Rattle.method.specs.Calls.{Call}
use Rattle.method.proofs.RecordLaws.{never}
use Rattle.method.specs.Effects.{step}
use Rattle.method.specs.declared.Answered.{Answered}
use Rattle.table.specs.declared.Table.{Table}
use Rattle.table.specs.Shut.{shut_table, answer_to, table_after}
use Rattle.wire.specs.declared.reader.Request.{Request}
use Rattle.wire.specs.declared.reader.Request.TheVariants.{Opening, Beginning, Ticketing, Preparing, Aborting, Deciding, Forgetting, Sweeping, Proposing, Ordering}
use Rattle.wire.specs.Message.{Message, opening, beginning, ticketing, preparing, aborting, deciding, forgetting, sweeping, proposing, ordering}
use Rattle.kinds.specs.Kinds.{row_of}
use Rattle.wire.specs.Body.{message_at, message_of}
use Rattle.wire.specs.Answers.{message_with, body_answer}
use Rattle.kinds.proofs.CaseLaws.{by_kind}
use Rattle.kinds.proofs.KindsLaws.{length_of_entries, length_le_of_entries}
use Rattle.wire.proofs.BodyLaws.{entries_of_message}
use Rattle.wire.proofs.RequestLaws.{message_of_request}
use Rattle.replies.specs.declared.asked.Asked.{Asked}
use Rattle.replies.specs.Desk.{answer_line, told, desk, desk_body}
use Rattle.replies.specs.Asked.{sort_of, asked_of}

-- the answer of the reader, from the sort that it was given
abbrev unsorted : Result Asked Refusal → Result Request Refusal
unsorted (Ok (Asked.Call q)) = Ok q
unsorted (Ok (Asked.Proposal c)) = Ok (Proposing c)
unsorted (Ok Asked.Order) = Ok Ordering
unsorted (Err r) = Err r

sort_back : (q : Request) → unsorted (Ok (sort_of q)) ≡ Ok q
sort_back (Opening n c) = refl
sort_back (Beginning s) = refl
sort_back (Ticketing n s k) = refl
sort_back (Preparing n s) = refl
sort_back (Aborting n) = refl
sort_back (Deciding n) = refl
sort_back (Forgetting n) = refl
sort_back Sweeping = refl
sort_back (Proposing c) = refl
sort_back Ordering = refl

back : (a : Result Request Refusal) → unsorted (asked_of a) ≡ a
back (Ok q) = sort_back q
back (Err r) = refl

-- the kind of a message
abbrev kind_of : Message → ℕ
kind_of (opening n fs) = 0
kind_of (beginning s) = 1
kind_of (ticketing n s k) = 2
kind_of (preparing n s) = 3
kind_of (aborting n) = 4
kind_of (deciding n) = 5
kind_of (forgetting n) = 6
kind_of sweeping = 7
kind_of (proposing ns) = 8
kind_of ordering = 9

module _ (b : List ℕ) where
  kind_at : (k : ℕ) → k < 10 → kind_of (message_at k b) ≡ k
  unfolding message_at
  kind_at = by_kind (λ k. kind_of (message_at k b) ≡ k) refl refl refl refl refl refl refl refl refl refl

  long_enough : (m : Message) → message_of b ≡ Some m → ((row_of (kind_of m)).base ≤ length b) × (length b ≤ 160)
  long_enough m e =
      let k = get_or b 0 0 in
      let (n, c, a) = entries_of_message b m e in
      let h = length_of_entries k (length b) n c in
      let i : kind_of m ≡ k = rw (← a) (kind_at k h.known) in
      (rw i (omega (arith, h.bytes)), length_le_of_entries k (length b) n c)

  read_of_asked : (x : Result Asked Refusal) → asked_of (body_answer (message_of b)) ≡ x → body_answer (message_of b) ≡ unsorted x
  read_of_asked x e = sym (back (body_answer (message_of b))) ∙ ap unsorted e

  pub request_of_call : (q : Request) → asked_of (body_answer (message_of b)) ≡ Ok (Asked.Call q) → body_answer (message_of b) ≡ Ok q
  request_of_call q = read_of_asked (Ok (Asked.Call q))

  -- a proposal and a request for an order are no calls
  module _ (q : Request) (h : asked_of (body_answer (message_of b)) ≡ Ok (Asked.Call q)) where
    sorted : sort_of q ≡ Asked.Call q
    sorted = let e : asked_of (Ok q) ≡ Ok (Asked.Call q) = sym (ap asked_of (request_of_call q h)) ∙ h in cc

    pub not_proposal : (c : ℕ) → q ≡ Proposing c → ⊥
    not_proposal c e = let f : Asked.Proposal c ≡ Asked.Call q = sym (ap sort_of e) ∙ sorted in never (cc)

    pub not_order : q ≡ Ordering → ⊥
    not_order e = let f : Asked.Order ≡ Asked.Call q = sym (ap sort_of e) ∙ sorted in never (cc)

  pub wrong_of_nothing : (r : Refusal) → asked_of (body_answer (message_of b)) ≡ Err r → body_answer (message_of b) ≡ Err r
  wrong_of_nothing r = read_of_asked (Err r)

  pub request_of_proposal : (c : ℕ) → asked_of (body_answer (message_of b)) ≡ Ok (Asked.Proposal c) → body_answer (message_of b) ≡ Ok (Proposing c)
  request_of_proposal c = read_of_asked (Ok (Asked.Proposal c))

  pub request_of_order : asked_of (body_answer (message_of b)) ≡ Ok Asked.Order → body_answer (message_of b) ≡ Ok Ordering
  request_of_order = read_of_asked (Ok Asked.Order)

  module _ (q : Request) (h : body_answer (message_of b) ≡ Ok q) where
    pub desk_of_request : (t : method.Table) → desk_body t b ≡ desk t (message_with q b)
    desk_of_request t = rw (message_of_request b q h).0

  module _ (n c : ℕ) (h : body_answer (message_of b) ≡ Ok (Opening n c)) where
    pub floors_of_request : (5 ≤ length b) × (length (words (drop 5 b)) ≡ c) × (c ≤ 38)
    floors_of_request =
        let (m, r) = message_of_request b (Opening n c) h in
        let (low, high) = long_enough (opening n (words (drop 5 b))) m in
        let e : length (words (drop 5 b)) ≡ c = cc in
        (low, e, omega (arith, length_words (drop 5 b), length-drop 5 b))

  module _ (c : ℕ) (h : body_answer (message_of b) ≡ Ok (Proposing c)) where
    pub numbers_of_request : (1 ≤ length b) × (length (words (drop 1 b)) ≡ c) × (c ≤ 39)
    numbers_of_request =
        let (m, r) = message_of_request b (Proposing c) h in
        let (low, high) = long_enough (proposing (words (drop 1 b))) m in
        let e : length (words (drop 1 b)) ≡ c = cc in
        (low, e, omega (arith, length_words (drop 1 b), length-drop 1 b))

-- a call's answer handed on is what the desk owes, for each message that is one call
module _ (t : Table) (b : List ℕ) (q p : Request) (h : asked_of (body_answer (message_of b)) ≡ Ok (Asked.Call q)) (e : q ≡ p) where
  pub handed : (c : Call) → desk t.held (message_with p b) ≡ told (step t.held c) → (a : Answered Table Refusal)
      → (a.answer ≡ answer_to t c) × (a.table ≡ table_after t c)
      → (a.table ≡ shut_table (desk_body t.held b).0) × (answer_line a.answer ≡ (desk_body t.held b).1)
  handed c d a s =
      rw (desk_of_request b p (request_of_call b q h ∙ ap Ok e) t.held, d) (s.1, ap answer_line s.0)

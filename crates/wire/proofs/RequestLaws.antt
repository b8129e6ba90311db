-- What the reader's answers say of the bytes: a request and its body make up the message, and the body and the rest are the parts
-- that the end tells. Assumes nothing.
use Rattle.std.proofs.Common.{◌≡◌, ◌∙◌, refl, List, ℕ, ◌+◌, ◌<◌, Option, Some, None, Ok, Err, length, get_or}
use Rattle.refusals.specs.declared.Refusal.{Refusal}
use Rattle.wire.specs.declared.reader.Request.{Request}
use Rattle.wire.specs.declared.reader.Message as reader
use Rattle.wire.specs.Message.{Message}
use Rattle.wire.specs.Body.{message_at, message_of}
use Rattle.frames.specs.Frame.{body_to, EndsAt, Means, Next, nothing, cut, bad, whole, next_frame}
use Rattle.wire.specs.Answers.{request_of, message_with, body_answer, read_answer}
use Rattle.kinds.proofs.CaseLaws.{by_kind}
use Rattle.kinds.proofs.KindsLaws.{length_of_entries}
use Rattle.frames.proofs.FrameLaws.{ends_framed, means_next}
use Rattle.wire.proofs.BodyLaws.{entries_of_message}

module _ (b : List ℕ) where
  with_at : (k : ℕ) → k < 10 → message_with (request_of (message_at k b)) b ≡ message_at k b
  unfolding message_at
  with_at = by_kind (λ k. message_with (request_of (message_at k b)) b ≡ message_at k b) refl refl refl refl refl refl refl refl refl refl

  pub message_with_lem : (m : Message) → message_of b ≡ Some m → message_with (request_of m) b ≡ m
  message_with_lem m e =
      let k = get_or b 0 0 in
      let (n, c, a) = entries_of_message b m e in
      rw (← a) (with_at k (length_of_entries k (length b) n c).known)

  -- the request that was read, its body and its counts
  pub message_of_request : (q : Request) → body_answer (message_of b) ≡ Ok q → (message_of b ≡ Some (message_with q b)) × (request_of (message_with q b) ≡ q)
  message_of_request q h = go (message_of b) refl h
    where
      go : (o : Option Message) → message_of b ≡ o → body_answer o ≡ Ok q → (message_of b ≡ Some (message_with q b)) × (request_of (message_with q b) ≡ q)
      go None e h = cc
      go (Some m) e h =
          let r : request_of m ≡ q = cc in
          rw (← r, message_with_lem m e) (e, refl)

  pub none_of_wrong : (r : Refusal) → body_answer (message_of b) ≡ Err r → message_of b ≡ None
  none_of_wrong r h = go (message_of b) h
    where
      go : (o : Option Message) → body_answer o ≡ Err r → o ≡ None
      go None h = refl
      go (Some m) h = cc

-- where a message ends, its body and the rest are parts of the bytes at hand
module _ (l : List ℕ) (m : reader.Message) where
  body_of_read : read_answer (next_frame l) ≡ Ok (Some m) → EndsAt m.end l × (body_answer (message_of (body_to m.end l)) ≡ m.request)
  body_of_read h = go (next_frame l) (means_next l) h
    where
      go : (x : Next) → Means l x → read_answer x ≡ Ok (Some m) → EndsAt m.end l × (body_answer (message_of (body_to m.end l)) ≡ m.request)
      go nothing p h = cc
      go cut p h = cc
      go bad p h = cc
      go (whole b r) p h =
          let k : 3 + length b ≡ m.end = cc in
          let (i, f) = ends_framed l m.end b r p k in
          (f, rw (← i) (cc))

  pub message_of_read : (q : Request) → read_answer (next_frame l) ≡ Ok (Some m) → m.request ≡ Ok q →
      EndsAt m.end l × (message_of (body_to m.end l) ≡ Some (message_with q (body_to m.end l))) × (request_of (message_with q (body_to m.end l)) ≡ q)
  message_of_read q h e =
      let (f, a) = body_of_read h in
      let (p, c) = message_of_request (body_to m.end l) q (a ∙ e) in
      (f, p, c)

  pub wrong_of_read : (r : Refusal) → read_answer (next_frame l) ≡ Ok (Some m) → m.request ≡ Err r → EndsAt m.end l × (message_of (body_to m.end l) ≡ None)
  wrong_of_read r h e =
      let (f, a) = body_of_read h in
      (f, none_of_wrong (body_to m.end l) r (a ∙ e))

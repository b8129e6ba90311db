-- Message and body determine each other: a body in range is read as its message, and what is read as a message is that message's
-- body. Kind by kind, the fields are taken off the front. Assumes nothing.
use mathlib.Core.Path.{◌≡◌, ◌∙◌, refl, sym, ap}
use mathlib.Core.List.{List, [], ◌∷◌, ◌++◌}
use Rattle.std.proofs.Common.{Option, Some, None}
use Rattle.std.specs.Option.{option_map}
use Rattle.std.proofs.lemmas.Option.{none-some}
use Prim.Native.Nat.{ℕ, suc, ◌+◌, ◌*◌, ◌<◌, ◌≤◌, ◌^◌}
use native.Mathlib.Omega.{arith}
use lib.ListN.{length, get_or, drop, length-drop, drop_of_length-le}
use lib.Seq.{drop-cons}
use Rattle.endian.specs.Bytes.{bytes32, words, word_bytes}
use Rattle.endian.specs.Places.{Below, word32}
use Rattle.endian.proofs.BytesLaws.{be32_of_bytes32}
use Rattle.endian.proofs.BelowLaws.{below_append, below_drop, below_words, below_bytes32, below_word_bytes, get_or_of_below}
use Rattle.endian.proofs.PlacesLaws.{drop_of_word32, word32_lt}
use Rattle.endian.proofs.WordsLaws.{words_of_word_bytes, word_bytes_of_words, length_words_of_drop, length_word_bytes}
use Rattle.wire.specs.Message.{Message, opening, beginning, ticketing, preparing, aborting, deciding, forgetting, sweeping, proposing, ordering, body_of, InRange}
use Rattle.kinds.specs.Kinds.{HasLength, entries_of}
use Rattle.wire.specs.Body.{message_at, message_of}
use Rattle.kinds.proofs.CaseLaws.{by_kind}
use Rattle.kinds.proofs.KindsLaws.{length_of_entries, entries_of_length, length_le_of_entries}

message_of_entries : (b : List ℕ) (n : ℕ) → HasLength (get_or b 0 0) n (length b) → message_of b ≡ Some (message_at (get_or b 0 0) b)
message_of_entries b n h = rw (entries_of_length (get_or b 0 0) (length b) n h)

-- what is read as a message has a length that its kind has
pub entries_of_message : (b : List ℕ) (m : Message) → message_of b ≡ Some m →
    (n : ℕ) × (entries_of (get_or b 0 0) (length b) ≡ Some n) × (message_at (get_or b 0 0) b ≡ m)
entries_of_message b m = go (entries_of (get_or b 0 0) (length b))
  where
    go : (o : Option ℕ) → option_map (λ (n : ℕ). message_at (get_or b 0 0) b) o ≡ Some m → (n : ℕ) × (o ≡ Some n) × (message_at (get_or b 0 0) b ≡ m)
    go None e = absurd (none-some m e)
    go (Some n) e = (n, refl, cc)

pub message_of_body : (m : Message) → InRange m → message_of (body_of m) ≡ Some m
unfolding entries_of message_at
message_of_body (opening n fs) h =
    message_of_entries (body_of (opening n fs)) (length fs)
    (record { known = omega arith; enough = omega arith; few = h.1; bytes = omega (arith, length_word_bytes fs) })
    ∙ rw (be32_of_bytes32 n, words_of_word_bytes fs)
message_of_body (beginning s) h = refl
message_of_body (ticketing n s k) h = rw (be32_of_bytes32 n, be32_of_bytes32 k)
message_of_body (preparing n s) h = rw (be32_of_bytes32 n)
message_of_body (aborting n) h = rw (be32_of_bytes32 n)
message_of_body (deciding n) h = rw (be32_of_bytes32 n)
message_of_body (forgetting n) h = rw (be32_of_bytes32 n)
message_of_body sweeping h = refl
message_of_body (proposing ns) h =
    message_of_entries (body_of (proposing ns)) (length ns)
    (record { known = omega arith; enough = omega arith; few = h.0; bytes = omega (arith, length_word_bytes ns) })
    ∙ rw (words_of_word_bytes ns)
message_of_body ordering h = refl

-- a body from its front: the kind, a byte, a number, a list of numbers, the end
module _ (b : List ℕ) (below : Below 256 b) where
  byte : (at : ℕ) → at < length b → drop at b ≡ get_or b at 0 ∷ drop (suc at) b
  byte at h = drop-cons b at 0 h

  kind : (k : ℕ) → get_or b 0 0 ≡ k → 0 < length b → b ≡ k ∷ drop 1 b
  kind k e h = byte 0 h ∙ rw e

  number : (at : ℕ) → at + 4 ≤ length b → drop at b ≡ bytes32 (word32 b at) ++ drop (at + 4) b
  number at h = drop_of_word32 b at h below

  numbers : (at n : ℕ) → length b ≡ at + 4 * n → word_bytes (words (drop at b)) ≡ drop at b
  numbers at n h = word_bytes_of_words (drop at b) (simp length-drop (omega arith)) (below_drop 256 at b below)

  end : (at : ℕ) → length b ≤ at → drop at b ≡ []
  end at h = drop_of_length-le b h

  abbrev BodyAt : ℕ → Type 0
  BodyAt k = (n : ℕ) → get_or b 0 0 ≡ k → HasLength k n (length b) → b ≡ body_of (message_at k b)

  -- a kind with a number alone: abort, decide, forget
  number_alone : (k : ℕ) → get_or b 0 0 ≡ k → length b ≡ 5 → b ≡ k ∷ bytes32 (word32 b 1)
  number_alone k e h = kind k e (omega arith) ∙ rw (number 1 (omega arith), end 5 (omega arith))

  -- the fields of each kind make up the whole body
  body_at : (k : ℕ) → k < 10 → BodyAt k
  unfolding message_at
  body_at =
      by_kind BodyAt
      (λ n e h. kind 0 e (omega arith) ∙ rw (numbers 5 n h.bytes, number 1 (omega arith)))
      (λ n e h. kind 1 e (omega arith) ∙ rw (byte 1 (omega arith), end 2 (omega arith)))
      (λ n e h. kind 2 e (omega arith) ∙ rw (number 1 (omega arith), byte 5 (omega arith), number 6 (omega arith), end 10 (omega arith)))
      (λ n e h. kind 3 e (omega arith) ∙ rw (number 1 (omega arith), byte 5 (omega arith), end 6 (omega arith)))
      (λ n e h. number_alone 4 e (omega arith))
      (λ n e h. number_alone 5 e (omega arith))
      (λ n e h. number_alone 6 e (omega arith))
      (λ n e h. kind 7 e (omega arith) ∙ rw (end 1 (omega arith)))
      (λ n e h. kind 8 e (omega arith) ∙ rw (numbers 1 n h.bytes))
      (λ n e h. kind 9 e (omega arith) ∙ rw (end 1 (omega arith)))

  word : (at : ℕ) → word32 b at < 2 ^ 32
  word at = word32_lt b at below

  octet : (at : ℕ) → get_or b at 0 < 2 ^ 8
  octet at = get_or_of_below 256 b (omega arith) below at

  list : (at : ℕ) → Below (2 ^ 32) (words (drop at b))
  list at = below_words (drop at b) (below_drop 256 at b below)

  abbrev RangeAt : ℕ → Type 0
  RangeAt k = (n : ℕ) → HasLength k n (length b) → InRange (message_at k b)

  -- what is read fits its field
  range_at : (k : ℕ) → k < 10 → RangeAt k
  unfolding message_at
  range_at =
      by_kind RangeAt
      (λ n h. (word 1, omega (arith, length_words_of_drop b 5 n h.bytes), list 5))
      (λ n h. octet 1)
      (λ n h. (word 1, octet 5, word 6))
      (λ n h. (word 1, octet 5))
      (λ n h. word 1)
      (λ n h. word 1)
      (λ n h. word 1)
      (λ n h. tt)
      (λ n h. (omega (arith, length_words_of_drop b 1 n h.bytes), list 1))
      (λ n h. tt)

  -- a body that is read as a message is that message's body, and the message is in range
  pub body_of_message : (m : Message) → message_of b ≡ Some m → (body_of m ≡ b) × InRange m
  body_of_message m e =
      let k = get_or b 0 0 in
      let (n, c, a) = entries_of_message b m e in
      let h = length_of_entries k (length b) n c in
      rw (← a) (sym (body_at k h.known n refl h), range_at k h.known n h)

-- where there is no message, 10, no message has that body
pub no_body_of_none : (b : List ℕ) → message_of b ≡ None → (m : Message) → InRange m → body_of m ≡ b → ⊥
no_body_of_none b e m h p = none-some m (sym e ∙ ap message_of (sym p) ∙ message_of_body m h)

-- the bodies of messages are bytes, at most 160 of them
pub below_body_of : (m : Message) → InRange m → Below 256 (body_of m)
below_body_of (opening n fs) h = (omega arith, below_append 256 (bytes32 n) (word_bytes fs) (below_bytes32 n h.0) (below_word_bytes fs h.2))
below_body_of (beginning s) h = (omega arith, (h, tt))
below_body_of (ticketing n s k) h = (omega arith, below_append 256 (bytes32 n) (s ∷ bytes32 k) (below_bytes32 n h.0) (h.1, below_bytes32 k h.2))
below_body_of (preparing n s) h = (omega arith, below_append 256 (bytes32 n) (s ∷ []) (below_bytes32 n h.0) (h.1, tt))
below_body_of (aborting n) h = (omega arith, below_bytes32 n h)
below_body_of (deciding n) h = (omega arith, below_bytes32 n h)
below_body_of (forgetting n) h = (omega arith, below_bytes32 n h)
below_body_of sweeping h = (omega arith, tt)
below_body_of (proposing ns) h = (omega arith, below_word_bytes ns h.1)
below_body_of ordering h = (omega arith, tt)

pub length_le_of_message : (b : List ℕ) (m : Message) → message_of b ≡ Some m → length b ≤ 160
length_le_of_message b m e =
    let (n, c, a) = entries_of_message b m e in
    length_le_of_entries (get_or b 0 0) (length b) n c

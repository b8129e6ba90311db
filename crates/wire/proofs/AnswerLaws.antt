-- The code's answers and the definitions: how many entries the lists of a body have, and the whole message's answer from the frame's.
-- Assumes nothing.
use Rattle.std.proofs.Common.{◌≡◌, refl, List, ℕ, ◌+◌, ◌≤◌, Some, None, Ok, length, drop}
use Rattle.endian.specs.Bytes.{words}
use Rattle.endian.proofs.WordsLaws.{length_words_of_drop}
use Rattle.kinds.specs.Kinds.{entries_of}
use Rattle.kinds.proofs.KindsLaws.{length_of_entries}
use Rattle.frames.specs.Frame.{body_to, EndsAt, Next, nothing, cut, bad, whole, Means, next_frame}
use Rattle.frames.specs.Answer.{frame_answer}
use Rattle.frames.proofs.FrameLaws.{ends_framed, means_next}
use Rattle.wire.specs.Body.{message_of}
use Rattle.wire.specs.Answers.{body_answer, with_end, read_answer}

-- the floors of an opening, and the numbers of a proposal
module _ (b : List ℕ) (n : ℕ) where
  pub floors_counted : entries_of 0 (length b) ≡ Some n → length (words (drop 5 b)) ≡ n
  floors_counted e = length_words_of_drop b 5 n (length_of_entries 0 (length b) n e).bytes

  pub numbers_counted : entries_of 8 (length b) ≡ Some n → length (words (drop 1 b)) ≡ n
  numbers_counted e = length_words_of_drop b 1 n (length_of_entries 8 (length b) n e).bytes

-- the part from byte 3 to the end is the body
module _ (l : List ℕ) (e : ℕ) where
  by_end : (x : Next) → Means l x → frame_answer x ≡ Ok (Some e) → EndsAt e l × (read_answer x ≡ with_end (body_answer (message_of (body_to e l))) e)
  by_end nothing p h = cc
  by_end cut p h = cc
  by_end bad p h = cc
  by_end (whole b r) p h =
      let k : 3 + length b ≡ e = cc in
      let (i, f) = ends_framed l e b r p k in
      (f, rw (← i, k))

  pub end_within : frame_answer (next_frame l) ≡ Ok (Some e) → e ≤ length l
  end_within h = (by_end (next_frame l) (means_next l) h).0.within

  pub end_read : frame_answer (next_frame l) ≡ Ok (Some e) → read_answer (next_frame l) ≡ with_end (body_answer (message_of (body_to e l))) e
  end_read h = (by_end (next_frame l) (means_next l) h).1

-- where no message ends there is no answer of a body
pub not_yet_read : (x : Next) → frame_answer x ≡ Ok None → read_answer x ≡ Ok None
not_yet_read nothing h = refl
not_yet_read cut h = refl
not_yet_read bad h = cc
not_yet_read (whole b r) h = cc

-- Reader and writer undo each other. What the writer wrote, the reader finds at that place as the same body; what the reader took, the
-- writer would write byte for byte; and the writer leaves every other byte. Assumes nothing.
use mathlib.Core.Path.{◌≡◌, ◌∙◌, sym, ap}
use mathlib.Core.List.{List}
use Prim.Native.Nat.{ℕ, ◌+◌, ◌≤◌}
use native.Mathlib.Omega.{arith}
use lib.ListN.{length, take, drop}
use lib.Seq.{take_at}
use Rattle.endian.specs.Places.{Below}
use Rattle.endian.specs.Laid.{laid}
use Rattle.endian.proofs.LaidLaws.{length_laid, take_laid, drop_laid, drop_laid_behind}
use Rattle.std.proofs.Common.{Some, Result, Ok}
use Rattle.refusals.specs.declared.Refusal.{Refusal}
use Rattle.wire.specs.Message.{Message, InRange, body_of}
use Rattle.frames.specs.Frame.{frame_of, body_to, EndsAt, whole, next_frame}
use Rattle.wire.specs.Answers.{request_of, with_end, read_answer}
use Rattle.sending.specs.Writing.{write_answer, left_by, written}
use Rattle.sending.specs.Meaning.{IsBody, WriteMeans}
use Rattle.wire.proofs.BodyLaws.{message_of_body, below_body_of, length_le_of_message}
use Rattle.frames.proofs.FrameLaws.{next_of_means, length_body_to, below_body_to}
use Rattle.sending.proofs.MeaningLaws.{write_means, write_of_means}

-- what is in the buffer after a message was written: the message at its place, n bytes long, and all else as before
module _ (b l : List ℕ) (at n : ℕ) (w : Below 256 b) (e : write_answer b l at ≡ Ok n) where
  means : WriteMeans b l at (Ok n)
  means = rw e at (write_means b l at w)

  laid_written : written b l at ≡ laid l at (frame_of b)
  laid_written = rw e

  short : length b ≤ 160
  short = let (m, h, p) = means.0 in length_le_of_message b m (rw p at (message_of_body m h))

  pub length_written : length (written b l at) ≡ length l
  length_written = rw laid_written (length_laid l (frame_of b) at means.1)

  pub take_written : take at (written b l at) ≡ take at l
  take_written = rw laid_written (take_laid l (frame_of b) at means.1)

  pub drop_written : drop (at + n) (written b l at) ≡ drop (at + n) l
  drop_written = rw (laid_written, means.2) (drop_laid_behind l (frame_of b) at means.1)

  -- the reader finds the same body there, and behind it what stood there before
  pub next_of_written : next_frame (drop at (written b l at)) ≡ whole b (drop (at + n) l)
  next_of_written =
      rw (laid_written, means.2)
      (next_of_means (drop at (laid l at (frame_of b))) (whole b (drop (at + length (frame_of b)) l))
      (record { bytes = drop_laid l (frame_of b) at means.1; short = short }))

-- the message of m, written anywhere, is read as m
pub read_of_written : (m : Message) (l : List ℕ) (at n : ℕ) → InRange m → write_answer (body_of m) l at ≡ Ok n →
    read_answer (next_frame (drop at (written (body_of m) l at))) ≡ Ok (Some (record { request = Ok (request_of m); end = n }))
read_of_written m l at n h e =
    rw (next_of_written (body_of m) l at n (below_body_of m h) e, message_of_body m h)
    (ap (λ (e : ℕ). with_end (Ok (request_of m)) e) (omega (arith, (means (body_of m) l at n (below_body_of m h) e).2)))

-- what the reader took from s, up to e, is written byte for byte wherever there is room
pub written_of_read : (s l : List ℕ) (at e : ℕ) → Below 256 s → EndsAt e s → IsBody (body_to e s) → at + e ≤ length l →
    (write_answer (body_to e s) l at ≡ Ok e) × (written (body_to e s) l at ≡ laid l at (take e s))
written_of_read s l at e w f b h =
    let c = body_to e s in
    let k : length (frame_of c) ≡ e = omega (arith, length_body_to s e f) in
    let t : take e s ≡ frame_of c = ap (take e) f.front.bytes ∙ take_at (frame_of c) (drop e s) e k in
    let a : write_answer c l at ≡ Ok e =
    write_of_means c l at (below_body_to s e w) (Ok e) (b, omega arith, sym k) in
    (a, ap (λ (x : Result ℕ Refusal). left_by x c l at) a ∙ ap (laid l at) (sym t))

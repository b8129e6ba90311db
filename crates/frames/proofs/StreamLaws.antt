-- Every list of bytes is in one way, and in one way only, frames and then an end, a cut or an 11; and a stream may be read in pieces.
-- Assumes nothing.
use mathlib.Core.Path.{◌≡◌, ◌∙◌, refl, sym}
use mathlib.Core.List.{List, [], ◌++◌, append_assoc}
use Prim.Native.Nat.{ℕ, zero, suc, ◌<◌, ◌≤◌}
use native.Mathlib.Omega.{arith}
use lib.ListN.{length, drop, length-append}
use Rattle.frames.specs.Frame.{frame_of, body_to, EndsAt, Next, nothing, cut, bad, whole, next_frame, Means}
use Rattle.frames.specs.Stream.{Stream, ended, cut_off, refused, framed, bytes_of, WellFormed, on_next, stream_by, stream_of, continued}
use Rattle.frames.proofs.FrameLaws.{nil_of_length, length_framed, length_bad, next_of_means, means_of_next, means_next}
use Rattle.frames.proofs.MoreLaws.{bad_append}

-- one step keeps the bytes and is well formed, if reading on is
module _ (l : List ℕ) (f : List ℕ → Stream) where
  bytes_of_step : ((r : List ℕ) → length r < length l → bytes_of (f r) ≡ r) → (x : Next) → Means l x → bytes_of (on_next l f x) ≡ l
  bytes_of_step g nothing p = sym p
  bytes_of_step g cut p = refl
  bytes_of_step g bad p = refl
  bytes_of_step g (whole b r) p = rw (g r (omega (arith, length_framed l b r p))) (sym p.bytes)

  well_formed_step : ((r : List ℕ) → length r < length l → WellFormed (f r)) → (x : Next) → Means l x → WellFormed (on_next l f x)
  well_formed_step g nothing p = tt
  well_formed_step g cut p = p
  well_formed_step g bad p = p
  well_formed_step g (whole b r) p = (p.short, g r (omega (arith, length_framed l b r p)))

bytes_of_stream_by : (n : ℕ) (l : List ℕ) → length l ≤ n → bytes_of (stream_by n l) ≡ l
unfolding stream_by
bytes_of_stream_by zero l h = sym (nil_of_length l (omega arith))
bytes_of_stream_by (suc n) l h = bytes_of_step l (stream_by n) (λ r g. bytes_of_stream_by n r (omega arith)) (next_frame l) (means_next l)

well_formed_stream_by : (n : ℕ) (l : List ℕ) → length l ≤ n → WellFormed (stream_by n l)
unfolding stream_by
well_formed_stream_by zero l h = tt
well_formed_stream_by (suc n) l h = well_formed_step l (stream_by n) (λ r g. well_formed_stream_by n r (omega arith)) (next_frame l) (means_next l)

pub bytes_of_stream : (l : List ℕ) → bytes_of (stream_of l) ≡ l
bytes_of_stream l = bytes_of_stream_by (length l) l (omega arith)

pub well_formed_stream : (l : List ℕ) → WellFormed (stream_of l)
well_formed_stream l = well_formed_stream_by (length l) l (omega arith)

-- a well-formed stream is the one that its bytes are read as
stream_of_bytes_by : (s : Stream) (n : ℕ) → WellFormed s → length (bytes_of s) ≤ n → stream_by n (bytes_of s) ≡ s
unfolding stream_by
stream_of_bytes_by ended zero w h = refl
stream_of_bytes_by ended (suc n) w h = rw (next_of_means [] nothing refl)
stream_of_bytes_by (cut_off l) zero w h = absurd (omega (arith, w.begun))
stream_of_bytes_by (cut_off l) (suc n) w h = rw (next_of_means l cut w)
stream_of_bytes_by (refused l) zero w h = absurd (omega (arith, length_bad l w))
stream_of_bytes_by (refused l) (suc n) w h = rw (next_of_means l bad w)
stream_of_bytes_by (framed b s) zero w h = absurd (omega arith)
stream_of_bytes_by (framed b s) (suc n) w h =
    rw (next_of_means (frame_of b ++ bytes_of s) (whole b (bytes_of s)) (record { bytes = refl; short = w.0 }), stream_of_bytes_by s n w.1 (omega (arith, simp length-append at h)))

-- so the stream of l is any well-formed one that has these bytes
pub stream_is : (l : List ℕ) (s : Stream) → WellFormed s → bytes_of s ≡ l → stream_of l ≡ s
stream_is l s w e = rw (← e) (stream_of_bytes_by s (length (bytes_of s)) w (omega arith))

pub one_stream : (s t : Stream) → WellFormed s → WellFormed t → bytes_of s ≡ bytes_of t → s ≡ t
one_stream s t w v e = sym (stream_is (bytes_of s) s w refl) ∙ stream_is (bytes_of s) t v (sym e)

-- how a stream goes on, by what stands in front: the laws to go by from the front
module _ (l : List ℕ) where
  pub stream_of_nothing : next_frame l ≡ nothing → stream_of l ≡ ended
  stream_of_nothing e = stream_is l ended tt (sym (means_of_next l nothing e))

  pub stream_of_cut : next_frame l ≡ cut → stream_of l ≡ cut_off l
  stream_of_cut e = stream_is l (cut_off l) (means_of_next l cut e) refl

  pub stream_of_bad : next_frame l ≡ bad → stream_of l ≡ refused l
  stream_of_bad e = stream_is l (refused l) (means_of_next l bad e) refl

  pub stream_of_whole : (b r : List ℕ) → next_frame l ≡ whole b r → stream_of l ≡ framed b (stream_of r)
  stream_of_whole b r e =
      let f = means_of_next l (whole b r) e in
      stream_is l (framed b (stream_of r)) (f.short, well_formed_stream r) (rw (bytes_of_stream r) (sym f.bytes))

  -- the same by the place where the reader says that the message ends
  pub stream_of_end : (e : ℕ) → EndsAt e l → stream_of l ≡ framed (body_to e l) (stream_of (drop e l))
  stream_of_end e f = stream_of_whole (body_to e l) (drop e l) (next_of_means l (whole (body_to e l) (drop e l)) f.front)

-- more bytes behind
bytes_continued : (s : Stream) (m : List ℕ) → bytes_of (continued s m) ≡ bytes_of s ++ m
bytes_continued ended m = bytes_of_stream m
bytes_continued (cut_off l) m = bytes_of_stream (l ++ m)
bytes_continued (refused l) m = refl
bytes_continued (framed b s) m = rw (bytes_continued s m) (sym (append_assoc (frame_of b) (bytes_of s) m))

well_formed_continued : (s : Stream) (m : List ℕ) → WellFormed s → WellFormed (continued s m)
well_formed_continued ended m w = well_formed_stream m
well_formed_continued (cut_off l) m w = well_formed_stream (l ++ m)
well_formed_continued (refused l) m w = bad_append l m w
well_formed_continued (framed b s) m w = (w.0, well_formed_continued s m w.1)

-- a stream that comes in two pieces is read as one
pub stream_of_append : (l m : List ℕ) → stream_of (l ++ m) ≡ continued (stream_of l) m
stream_of_append l m =
    stream_is (l ++ m) (continued (stream_of l) m) (well_formed_continued (stream_of l) m (well_formed_stream l))
    (bytes_continued (stream_of l) m ∙ rw (bytes_of_stream l))

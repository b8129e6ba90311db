-- A stream of bytes: frames, and then an end, a cut or an 11. proofs/StreamLaws.antt shows that every list of bytes is one in exactly one
-- way, and what becomes of it when more bytes come. Rests on specs/Frame.antt.
use Rattle.std.specs.Prelude.{List, [], ◌++◌, ℕ, zero, suc, ◌≤◌, length}
use Rattle.frames.specs.Frame.{Next, nothing, whole, cut, bad, next_frame, frame_of, Cut, Bad}

pub data Stream : Type 0 where
  -- no byte is left
  ended : Stream
  -- what is left is not a whole frame, and may still become one
  cut_off : List ℕ → Stream
  -- what is left begins with an 11; nothing of it is read
  refused : List ℕ → Stream
  -- a frame's body, and the rest
  framed : List ℕ → Stream → Stream

abbrev pub bytes_of : Stream → List ℕ
bytes_of ended = []
bytes_of (cut_off l) = l
bytes_of (refused l) = l
bytes_of (framed b s) = frame_of b ++ bytes_of s

abbrev pub WellFormed : Stream → Type 0
WellFormed ended = Unit {0}
WellFormed (cut_off l) = Cut l
WellFormed (refused l) = Bad l
WellFormed (framed b s) = (length b ≤ 160) × WellFormed s

-- the stream of l, by what stands in front of it; f reads on behind a frame
abbrev pub on_next : List ℕ → (List ℕ → Stream) → Next → Stream
on_next l f nothing = ended
on_next l f cut = cut_off l
on_next l f bad = refused l
on_next l f (whole b r) = framed b (f r)

-- as many steps as there are bytes are enough: each frame takes some
unfoldable pub stream_by : ℕ → List ℕ → Stream
stream_by zero l = ended
stream_by (suc n) l = on_next l (stream_by n) (next_frame l)

abbrev pub stream_of : List ℕ → Stream
stream_of l = stream_by (length l) l

-- when m comes behind: an 11 stays, what was cut is read again with m, and the frames before are as they were
abbrev pub continued : Stream → List ℕ → Stream
continued ended m = stream_of m
continued (cut_off l) m = stream_of (l ++ m)
continued (refused l) m = refused (l ++ m)
continued (framed b s) m = framed b (continued s m)

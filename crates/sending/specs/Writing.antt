-- What the writer answers and leaves. Rests on the bodies of `wire` and on `frames`.
use Rattle.std.specs.Prelude.{cond, List, ℕ, ltb, length, is_none, Result, Ok, Err}
use Rattle.refusals.specs.declared.Refusal.{Refusal}
use Rattle.endian.specs.Laid.{has_room, laid}
use Rattle.wire.specs.Body.{message_of}
use Rattle.frames.specs.Frame.{frame_of}

-- 11, 10 and 14, in this sequence; a place past the end has no room for anything, and every message is longer than nothing
abbrev pub write_answer : List ℕ → List ℕ → ℕ → Result ℕ Refusal
write_answer b l at =
    cond (ltb 160 (length b)) (Err Refusal.BadFrame)
    (cond (is_none (message_of b)) (Err Refusal.BadBody)
    (cond (has_room l at (length (frame_of b))) (Ok (length (frame_of b))) (Err Refusal.NoRoom)))

-- the message's own bytes are laid over the buffer; a refusal leaves it as it was
abbrev pub left_by : Result ℕ Refusal → List ℕ → List ℕ → ℕ → List ℕ
left_by (Ok n) b l at = laid l at (frame_of b)
left_by (Err r) b l at = l

abbrev pub written : List ℕ → List ℕ → ℕ → List ℕ
written b l at = left_by (write_answer b l at) b l at

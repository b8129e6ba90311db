-- What each answer of the writer means, said by messages, frames and places alone. proofs/MeaningLaws.antt shows that every answer is the
-- one that fits, and that no second one does.
use Rattle.std.specs.Prelude.{◌≡◌, List, ℕ, ◌+◌, ◌<◌, ◌≤◌, ◌⊎◌, length, Result, Ok, Err}
use Rattle.refusals.specs.declared.Refusal.{Refusal}
use Rattle.wire.specs.Message.{Message, InRange, body_of}
use Rattle.frames.specs.Frame.{frame_of}
use Rattle.wire.specs.Meaning.{NoBody}

-- b is the body of some message
abbrev pub IsBody : List ℕ → Type 0
IsBody b = (m : Message) × InRange m × (body_of m ≡ b)

-- body b, buffer l, place at
abbrev pub WriteMeans : List ℕ → List ℕ → ℕ → Result ℕ Refusal → Type 0
WriteMeans b l at (Ok n) = IsBody b × (at + length (frame_of b) ≤ length l) × (n ≡ length (frame_of b))
WriteMeans b l at (Err r) =
    ((r ≡ Refusal.BadFrame) × (160 < length b))
    ⊎ ((r ≡ Refusal.BadBody) × (length b ≤ 160) × NoBody b)
    ⊎ ((r ≡ Refusal.NoRoom) × IsBody b × (length l < at + length (frame_of b)))

-- What each answer of the reader means, said by messages, frames and places alone. proofs/MeaningLaws.antt shows of
-- every list of bytes that its answer is the one that fits, and that no second one does.
use Rattle.std.specs.Prelude.{◌≡◌, List, [], ◌⊎◌, ℕ, Option, Some, None, Result, Ok, Err}
use Rattle.refusals.specs.declared.Refusal.{Refusal}
use Rattle.refusals.specs.Numbers.{number_of, told_by}
use Rattle.wire.specs.declared.reader.Message as reader
use Rattle.wire.specs.declared.reader.Request.{Request}
use Rattle.wire.specs.Message.{Message, InRange, body_of}
use Rattle.frames.specs.Frame.{Cut, Bad, body_to, EndsAt}
use Rattle.wire.specs.Answers.{request_of}

-- b is the body of no message
abbrev pub NoBody : List ℕ → Type 0
NoBody b = (m : Message) → InRange m → body_of m ≡ b → ⊥

abbrev pub BodyMeans : List ℕ → Result Request Refusal → Type 0
BodyMeans b (Ok q) = (m : Message) × InRange m × (body_of m ≡ b) × (request_of m ≡ q)
BodyMeans b (Err r) = (r ≡ Refusal.BadBody) × NoBody b

abbrev pub ReadMeans : List ℕ → Result (Option reader.Message) Refusal → Type 0
ReadMeans l (Ok (Some m)) = EndsAt m.end l × BodyMeans (body_to m.end l) m.request
ReadMeans l (Ok None) = (l ≡ []) ⊎ Cut l
ReadMeans l (Err r) = (r ≡ Refusal.BadFrame) × Bad l

-- the refusal number: that of the body, or of the frame
abbrev pub read_refusal : Result (Option reader.Message) Refusal → Option ℕ
read_refusal (Ok (Some m)) = told_by m.request
read_refusal (Ok None) = None
read_refusal (Err r) = Some (number_of r)

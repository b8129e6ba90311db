-- The code's answer, and what it means, said by frames and places alone. proofs/AnswerLaws.antt shows of every list of bytes that its
-- answer is the one that fits, and that no second one does.
use Rattle.std.specs.Prelude.{◌≡◌, List, [], ◌⊎◌, ℕ, ◌+◌, length, Option, Some, None, Result, Ok, Err}
use Rattle.refusals.specs.declared.Refusal.{Refusal}
use Rattle.frames.specs.Frame.{Next, nothing, cut, bad, whole, Cut, Bad, EndsAt}

-- no byte at all is not yet whole either
abbrev pub frame_answer : Next → Result (Option ℕ) Refusal
frame_answer nothing = Ok None
frame_answer cut = Ok None
frame_answer bad = Err Refusal.BadFrame
frame_answer (whole b r) = Ok (Some (3 + length b))

abbrev pub FrameMeans : List ℕ → Result (Option ℕ) Refusal → Type 0
FrameMeans l (Ok (Some e)) = EndsAt e l
FrameMeans l (Ok None) = (l ≡ []) ⊎ Cut l
FrameMeans l (Err q) = (q ≡ Refusal.BadFrame) × Bad l

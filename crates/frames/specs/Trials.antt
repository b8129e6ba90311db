-- Worked cases of frames, just inside and just outside each rule. proofs/TrialLaws.antt computes all of them in one theorem.
use Rattle.std.specs.Prelude.{List, [], ◌∷◌, ℕ, replicate}
use Rattle.frames.specs.Frame.{Next, nothing, cut, bad, whole, next_frame}

-- the bytes at hand, and what stands in front of them
pub data Trial : Type 0 where
  bytes : List ℕ → Next → Trial

abbrev pub expected : Trial → Next
expected (bytes l x) = x

abbrev pub computed : Trial → Next
computed (bytes l x) = next_frame l

abbrev pub trials : List Trial
trials =
    -- no byte, one, two, and a header alone
    bytes [] nothing
    ∷ bytes (1 ∷ []) cut
    ∷ bytes (1 ∷ 0 ∷ []) cut
    ∷ bytes (1 ∷ 0 ∷ 2 ∷ []) cut
    -- versions 0 and 2
    ∷ bytes (0 ∷ []) bad
    ∷ bytes (2 ∷ 0 ∷ 2 ∷ 1 ∷ 3 ∷ []) bad
    -- length 0
    ∷ bytes (1 ∷ 0 ∷ 0 ∷ []) (whole [] [])
    -- length 160 with its last byte and without, and 161
    ∷ bytes (1 ∷ 0 ∷ 160 ∷ replicate 160 7) (whole (replicate 160 7) [])
    ∷ bytes (1 ∷ 0 ∷ 160 ∷ replicate 159 7) cut
    ∷ bytes (1 ∷ 0 ∷ 161 ∷ []) bad
    -- the length's high byte comes first; it is looked at with the low one
    ∷ bytes (1 ∷ 1 ∷ []) cut
    ∷ bytes (1 ∷ 1 ∷ 0 ∷ []) bad
    -- a begin at sites 0 and 1, with another message behind it
    ∷ bytes (1 ∷ 0 ∷ 2 ∷ 1 ∷ 3 ∷ 1 ∷ []) (whole (1 ∷ 3 ∷ []) (1 ∷ []))
    ∷ []

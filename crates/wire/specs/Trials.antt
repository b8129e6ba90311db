-- Worked cases of bodies, just inside and just outside each rule. proofs/TrialLaws.antt computes all of them in one theorem.
use Rattle.std.specs.Prelude.{List, [], ◌∷◌, ℕ, replicate, Option, Some, None}
use Rattle.wire.specs.Message.{Message, opening, beginning, ticketing, preparing, aborting, deciding, forgetting, sweeping, proposing, ordering}
use Rattle.wire.specs.Body.{message_of}

-- a body, and its message or 10
pub data Trial : Type 0 where
  body : List ℕ → Option Message → Trial

abbrev pub expected : Trial → Option Message
expected (body b o) = o

abbrev pub computed : Trial → Option Message
computed (body b o) = message_of b

abbrev pub trials : List Trial
trials =
    -- the empty body
    body [] None
    -- a begin at sites 0 and 1
    ∷ body (1 ∷ 3 ∷ []) (Some (beginning 3))
    -- an opening with no floor, with nine and with 38 is a message; 39 are too many
    ∷ body (0 ∷ 0 ∷ 0 ∷ 0 ∷ 1 ∷ []) (Some (opening 1 []))
    ∷ body (0 ∷ 0 ∷ 0 ∷ 0 ∷ 1 ∷ replicate 36 0) (Some (opening 1 (replicate 9 0)))
    ∷ body (0 ∷ 0 ∷ 0 ∷ 0 ∷ 1 ∷ replicate 152 0) (Some (opening 1 (replicate 38 0)))
    ∷ body (0 ∷ 0 ∷ 0 ∷ 0 ∷ 1 ∷ replicate 156 0) None
    -- every field at its largest, and the byte order
    ∷ body (2 ∷ 255 ∷ 255 ∷ 255 ∷ 255 ∷ 255 ∷ 255 ∷ 255 ∷ 255 ∷ 255 ∷ []) (Some (ticketing 4294967295 255 4294967295))
    ∷ body (3 ∷ 1 ∷ 2 ∷ 3 ∷ 4 ∷ 7 ∷ []) (Some (preparing 16909060 7))
    ∷ body (4 ∷ 0 ∷ 0 ∷ 0 ∷ 2 ∷ []) (Some (aborting 2))
    ∷ body (5 ∷ 0 ∷ 0 ∷ 1 ∷ 0 ∷ []) (Some (deciding 256))
    ∷ body (6 ∷ 0 ∷ 1 ∷ 0 ∷ 0 ∷ []) (Some (forgetting 65536))
    ∷ body (7 ∷ []) (Some sweeping)
    -- a proposal of no number, of two, of 39 and of 40
    ∷ body (8 ∷ []) (Some (proposing []))
    ∷ body (8 ∷ 0 ∷ 0 ∷ 0 ∷ 2 ∷ 0 ∷ 0 ∷ 0 ∷ 1 ∷ []) (Some (proposing (2 ∷ 1 ∷ [])))
    ∷ body (8 ∷ replicate 156 0) (Some (proposing (replicate 39 0)))
    ∷ body (8 ∷ replicate 160 0) None
    ∷ body (9 ∷ []) (Some ordering)
    -- a byte too few, a byte too many, and kinds that there are not
    ∷ body (2 ∷ 0 ∷ 0 ∷ 0 ∷ 1 ∷ 0 ∷ 0 ∷ 0 ∷ 0 ∷ []) None
    ∷ body (7 ∷ 0 ∷ []) None
    ∷ body (10 ∷ []) None
    ∷ body (255 ∷ 0 ∷ 0 ∷ 0 ∷ 1 ∷ []) None
    ∷ []

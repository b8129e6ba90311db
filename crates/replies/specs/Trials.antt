-- Worked cases at the desk, each with its label: bodies in sequence on the closed table, and the line that each must get.
-- proofs/TrialLaws.antt proves them all by computation.
use Rattle.std.specs.Prelude.{List, [], ◌∷◌, ◌++◌, map, ℕ, replicate}
use Rattle.refusals.specs.declared.Refusal.{Refusal}
use Rattle.lines.specs.declared.Words.{Words}
use Rattle.lines.specs.Line.{Line, Line.say, Line.order, ok_line as ok, good_line as good, bad_line as bad, refused_line as refused}
use Rattle.wire.specs.Message.{Message, opening, beginning, ticketing, preparing, aborting, deciding, forgetting, sweeping, proposing, ordering, body_of}
use Rattle.method.specs.declared.Table.{Table}
use Rattle.replies.specs.Desk.{desk_body}

-- the lines that bodies get, one after another
abbrev pub lines_of : Table → List (List ℕ) → List Line
lines_of t [] = []
lines_of t (b ∷ bs) = let r = desk_body t b in r.1 ∷ lines_of r.0 bs

pub record Trial : Type 0 where
  pub label : ℕ
  pub bodies : List (List ℕ)
  pub lines : List Line

abbrev trial : ℕ → List Message → List Line → Trial
trial n ms ls = record { label = n; bodies = map body_of ms; lines = ls }

-- 1 and 2 begin at sites 0 and 1 of a new table; each has its ticket at both and is prepared there; then both are decided
abbrev both : ℕ → ℕ → ℕ → ℕ → List Message
both a b c d =
    opening 1 (0 ∷ 0 ∷ []) ∷ beginning 3 ∷ beginning 3
    ∷ ticketing 1 0 a ∷ ticketing 2 0 b ∷ ticketing 2 1 c ∷ ticketing 1 1 d
    ∷ preparing 1 0 ∷ preparing 1 1 ∷ preparing 2 0 ∷ preparing 2 1
    ∷ deciding 1 ∷ deciding 2 ∷ []

abbrev begin : ℕ → Line
begin n = say (Words.Begin n)

abbrev commit : ℕ → Line
commit n = say (Words.Commit n)

abbrev cycle : ℕ → Line
cycle n = say (Words.Cycle n)

abbrev swept : ℕ → Line
swept c = say (Words.Swept c)

abbrev both_begun : List Line
both_begun = ok ∷ begin 1 ∷ begin 2 ∷ replicate 8 ok

unfoldable pub trials : List Trial
trials =
    -- the evening in February: the two sites disagree, and the second does not commit
    trial 1 (both 1 2 1 2 ++ (ordering ∷ sweeping ∷ ordering ∷ []))
    (both_begun ++ (commit 1 ∷ cycle 2 ∷ order (1 ∷ []) ∷ swept 1 ∷ order [] ∷ []))
    -- they agree: both commit, and the order is the tickets'
    ∷ trial 2 (both 1 2 2 1 ++ (ordering ∷ proposing (1 ∷ 2 ∷ []) ∷ proposing (2 ∷ 1 ∷ []) ∷ proposing (1 ∷ []) ∷ forgetting 2 ∷ forgetting 1 ∷ ordering ∷ []))
    (both_begun ++ (commit 1 ∷ commit 2 ∷ order (1 ∷ 2 ∷ []) ∷ good ∷ bad ∷ bad ∷ refused Refusal.TooEarly ∷ ok ∷ order (2 ∷ []) ∷ []))
    -- before a good opening everything is 1, and after one a second opening is 4
    ∷ trial 3
    (beginning 1 ∷ ticketing 1 0 1 ∷ preparing 1 0 ∷ aborting 1 ∷ deciding 1 ∷ forgetting 1 ∷ sweeping ∷ proposing [] ∷ ordering
    ∷ opening 1 [] ∷ opening 0 (0 ∷ []) ∷ opening 1 (0 ∷ []) ∷ opening 1 (0 ∷ []) ∷ proposing [] ∷ beginning 1 ∷ aborting 1 ∷ aborting 1 ∷ [])
    (replicate 11 (refused Refusal.NotOpen) ++ (ok ∷ refused Refusal.OutOfTurn ∷ good ∷ begin 1 ∷ ok ∷ refused Refusal.Unknown ∷ []))
    -- what is no message is 10, opened or not, and changes nothing: no body, an unknown kind, a byte too many
    ∷ record {
      label = 4;
      bodies = [] ∷ (10 ∷ []) ∷ body_of (opening 1 (0 ∷ [])) ∷ [] ∷ (7 ∷ 0 ∷ []) ∷ body_of (beginning 1) ∷ [];
      lines = refused Refusal.BadBody ∷ refused Refusal.BadBody ∷ ok ∷ refused Refusal.BadBody ∷ refused Refusal.BadBody ∷ begin 1 ∷ [];
    }
    ∷ []

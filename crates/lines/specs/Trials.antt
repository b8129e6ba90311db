-- Worked lines, with numbers just inside and just outside a digit more; the last is as long as a line can be. proofs/TrialLaws.antt computes them.
use Rattle.std.specs.Prelude.{List, [], ◌∷◌, ℕ, replicate}
use Rattle.lines.specs.declared.Words.{Words}
use Rattle.lines.specs.Line.{Line, Line.say, Line.order}

pub record Trial : Type 0 where
  pub line : Line
  pub bytes : List ℕ

abbrev pub is : Line → List ℕ → Trial
is x l = record { line = x; bytes = l }

abbrev pub trials : List Trial
trials =
    is (say Words.Ok) (111 ∷ 107 ∷ 10 ∷ [])
    ∷ is (say (Words.Begin 1)) (98 ∷ 101 ∷ 103 ∷ 105 ∷ 110 ∷ 32 ∷ 49 ∷ 10 ∷ [])
    ∷ is (say (Words.Commit 9)) (99 ∷ 111 ∷ 109 ∷ 109 ∷ 105 ∷ 116 ∷ 32 ∷ 57 ∷ 10 ∷ [])
    ∷ is (say (Words.Cycle 10)) (99 ∷ 121 ∷ 99 ∷ 108 ∷ 101 ∷ 32 ∷ 49 ∷ 48 ∷ 10 ∷ [])
    ∷ is (say (Words.Swept 0)) (115 ∷ 119 ∷ 101 ∷ 112 ∷ 116 ∷ 32 ∷ 48 ∷ 10 ∷ [])
    ∷ is (say Words.Good) (103 ∷ 111 ∷ 111 ∷ 100 ∷ 10 ∷ [])
    ∷ is (say Words.Bad) (98 ∷ 97 ∷ 100 ∷ 10 ∷ [])
    ∷ is (order []) (111 ∷ 114 ∷ 100 ∷ 101 ∷ 114 ∷ 10 ∷ [])
    ∷ is (order (2 ∷ 100 ∷ [])) (111 ∷ 114 ∷ 100 ∷ 101 ∷ 114 ∷ 32 ∷ 50 ∷ 32 ∷ 49 ∷ 48 ∷ 48 ∷ 10 ∷ [])
    ∷ is (say (Words.Refused 14)) (114 ∷ 101 ∷ 102 ∷ 117 ∷ 115 ∷ 101 ∷ 100 ∷ 32 ∷ 49 ∷ 52 ∷ 10 ∷ [])
    ∷ is (say (Words.Begin 4294967295)) (98 ∷ 101 ∷ 103 ∷ 105 ∷ 110 ∷ 32 ∷ 52 ∷ 50 ∷ 57 ∷ 52 ∷ 57 ∷ 54 ∷ 55 ∷ 50 ∷ 57 ∷ 53 ∷ 10 ∷ [])
    ∷ []

-- 32 numbers of ten digits
abbrev pub longest : Line
longest = order (replicate 32 4294967295)

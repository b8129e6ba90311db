-- The lines that the service answers with, and the bytes of each. RULES, The service. Rests on `text`.
use Rattle.std.specs.Prelude.{List, [], ◌∷◌, ℕ, ◌≤◌, ◌^◌, length}
use Rattle.endian.specs.Places.{Below}
use Rattle.text.specs.Text.{text_of}
use Rattle.refusals.specs.declared.Refusal.{Refusal}
use Rattle.refusals.specs.Numbers.{number_of}
use Rattle.lines.specs.declared.Words.{Words}

pub data Line : Type 0 where
  -- every answer but the order: a word, and behind it a number or none
  say : Words → Line
  -- the numbers of the kept rows in their order
  order : List ℕ → Line

-- those that statements name; a refusal is told by its number
abbrev pub ok_line : Line
ok_line = say Words.Ok

abbrev pub good_line : Line
good_line = say Words.Good

abbrev pub bad_line : Line
bad_line = say Words.Bad

abbrev pub refused_line : Refusal → Line
refused_line r = say (Words.Refused (number_of r))

-- the word that an answer begins with, and the number behind it
abbrev pub word_for : Words → List ℕ
word_for Words.Ok = 111 ∷ 107 ∷ []  -- ok
word_for (Words.Begin n) = 98 ∷ 101 ∷ 103 ∷ 105 ∷ 110 ∷ []  -- begin
word_for (Words.Commit n) = 99 ∷ 111 ∷ 109 ∷ 109 ∷ 105 ∷ 116 ∷ []  -- commit
word_for (Words.Cycle n) = 99 ∷ 121 ∷ 99 ∷ 108 ∷ 101 ∷ []  -- cycle
word_for (Words.Swept c) = 115 ∷ 119 ∷ 101 ∷ 112 ∷ 116 ∷ []  -- swept
word_for Words.Good = 103 ∷ 111 ∷ 111 ∷ 100 ∷ []  -- good
word_for Words.Bad = 98 ∷ 97 ∷ 100 ∷ []  -- bad
word_for (Words.Refused r) = 114 ∷ 101 ∷ 102 ∷ 117 ∷ 115 ∷ 101 ∷ 100 ∷ []  -- refused

abbrev pub number_for : Words → List ℕ
number_for Words.Ok = []
number_for (Words.Begin n) = n ∷ []
number_for (Words.Commit n) = n ∷ []
number_for (Words.Cycle n) = n ∷ []
number_for (Words.Swept c) = c ∷ []
number_for Words.Good = []
number_for Words.Bad = []
number_for (Words.Refused r) = r ∷ []

-- the same of a line
abbrev pub word_of : Line → List ℕ
word_of (say w) = word_for w
word_of (order l) = 111 ∷ 114 ∷ 100 ∷ 101 ∷ 114 ∷ []  -- order

abbrev pub numbers_of : Line → List ℕ
numbers_of (say w) = number_for w
numbers_of (order l) = l

abbrev pub line_bytes : Line → List ℕ
line_bytes x = text_of (word_of x) (numbers_of x)

-- what the service can have to say: numbers of 32 bits, and in an order no more of them than there are slots
pub record InRange (x : Line) : Type 0 where
  pub numbers : Below (2 ^ 32) (numbers_of x)
  pub few : length (numbers_of x) ≤ 32

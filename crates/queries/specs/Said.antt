-- A line as the code hands it on: words, or how many numbers of the array beside it are the order.
use Rattle.std.specs.Prelude.{Bool, true, false, Result, Ok, Err, List, ℕ, length, replicate, take}
use Rattle.endian.specs.Laid.{laid}
use Rattle.refusals.specs.declared.Refusal.{Refusal}
use Rattle.refusals.specs.Numbers.{number_of}
use Rattle.lines.specs.declared.Words.{Words}
use Rattle.lines.specs.Line.{Line, Line.say, Line.order}
use Rattle.queries.specs.declared.Said.{Said}
use Rattle.queries.specs.declared.Spoken.{Spoken}

-- the line that is meant
abbrev pub said_line : Said → List ℕ → Line
said_line (Said.Words w) numbers = say w
said_line (Said.Order n) numbers = order (take n numbers)

-- and the one way in which the code says a line: the words, or the length of the order, with its numbers from the front and zeros behind
abbrev pub said_of : Line → Said
said_of (say w) = Said.Words w
said_of (order l) = Said.Order (length l)

abbrev pub no_numbers : List ℕ
no_numbers = replicate 32 0

abbrev pub numbers_for : Line → List ℕ
numbers_for (say w) = no_numbers
numbers_for (order l) = laid no_numbers 0 l

abbrev pub spoken : Said → List ℕ → Spoken
spoken s l = record { said = s; numbers = l }

abbrev pub spoken_of : Line → Spoken
spoken_of x = spoken (said_of x) (numbers_for x)

-- what the check or the writer answered
abbrev pub check_words : Result Bool Refusal → Words
check_words (Ok true) = Words.Good
check_words (Ok false) = Words.Bad
check_words (Err r) = Words.Refused (number_of r)

abbrev pub write_said : Result ℕ Refusal → Said
write_said (Ok n) = Said.Order n
write_said (Err r) = Said.Words (Words.Refused (number_of r))

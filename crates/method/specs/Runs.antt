-- Runs of calls: the table after them, and their answers.
use Rattle.std.specs.Prelude.{List, [], ◌∷◌}
use Rattle.method.specs.declared.Table.{Table}
use Rattle.method.specs.Calls.{Call, CallAnswer}
use Rattle.method.specs.Effects.{step}

abbrev pub table_after : Table → List Call → Table
table_after t [] = t
table_after t (c ∷ cs) = table_after (step t c).table cs

abbrev pub answers_of : Table → List Call → List CallAnswer
answers_of t [] = []
answers_of t (c ∷ cs) = let a = step t c in a.answer ∷ answers_of a.table cs

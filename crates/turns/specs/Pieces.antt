-- A stream that comes in pieces: after each a turn is made with some room in the buffer, and what was not used waits for the next. An
-- empty piece is another turn for the same bytes.
use Rattle.std.specs.Prelude.{false, cond, List, [], ◌∷◌, ◌++◌, ℕ, drop}
use Rattle.frames.specs.Stream.{stream_of}
use Rattle.method.specs.declared.Table.{Table}
use Rattle.turns.specs.Lines.{answer_to}
use Rattle.turns.specs.Turn.{Turned, turn}

-- the pieces one behind the other; each has beside it the room that its turn has
unfoldable pub joined : List (List ℕ × ℕ) → List ℕ
joined [] = []
joined (p ∷ ps) = p.0 ++ joined ps

-- what a turn over l wrote, and then what f writes for the rest; after an 11 nothing more
abbrev pub and_then : List ℕ → Turned → (Table → List ℕ → List ℕ) → List ℕ
and_then l r f = r.written ++ cond r.over [] (f r.table (drop r.used l))

-- all that is written; at the end of the input what is left is answered
unfoldable pub in_pieces : List (List ℕ × ℕ) → Table → List ℕ → List ℕ
in_pieces [] t l = answer_to t l
in_pieces (p ∷ ps) t l = and_then (l ++ p.0) (turn false t p.1 (stream_of (l ++ p.0))) (in_pieces ps)

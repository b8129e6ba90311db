-- Bytes laid over a list from a place on, as a writer does. Rests on the library's lists.
use Rattle.std.specs.Prelude.{Bool, cond, List, ◌++◌, ℕ, ◌+◌, leb, length, take, drop}

-- n bytes from the place on lie within the list
abbrev pub has_room : List ℕ → ℕ → ℕ → Bool
has_room l at n = leb (at + n) (length l)

-- the list with vs from the place on; what stands before and behind stays
abbrev pub laid : List ℕ → ℕ → List ℕ → List ℕ
laid l at vs = take at l ++ (vs ++ drop (at + length vs) l)

-- what a writer leaves: without room for all of vs nothing is written
abbrev pub stored : List ℕ → ℕ → List ℕ → List ℕ
stored l at vs = cond (has_room l at (length vs)) (laid l at vs) l

-- The message of a body. Rests on specs/Message.antt and on the table of crate `kinds`; proofs/BodyLaws.antt shows that this is the one
-- message whose body it is, and that where there is none no message has that body.
use Rattle.std.specs.Prelude.{List, [], ◌∷◌, ℕ, length, get_or, drop, Option}
use Rattle.std.specs.Option.{option_map}
use Rattle.endian.specs.Bytes.{words}
use Rattle.endian.specs.Places.{word32}
use Rattle.wire.specs.Message.{Message, opening, beginning, ticketing, preparing, aborting, deciding, forgetting, sweeping, proposing, ordering}
use Rattle.kinds.specs.Kinds.{entries_of}

-- kind by kind, the fields where they stand. Past the table's end stands any message: no body of such a kind has the right length.
unfoldable pub message_at : ℕ → List ℕ → Message
message_at k b =
    get_or
    (opening (word32 b 1) (words (drop 5 b))
    ∷ beginning (get_or b 1 0)
    ∷ ticketing (word32 b 1) (get_or b 5 0) (word32 b 6)
    ∷ preparing (word32 b 1) (get_or b 5 0)
    ∷ aborting (word32 b 1)
    ∷ deciding (word32 b 1)
    ∷ forgetting (word32 b 1)
    ∷ sweeping
    ∷ proposing (words (drop 1 b))
    ∷ ordering
    ∷ [])
    k
    ordering

-- `None` is refusal 10: kind unknown, body empty or length wrong for its kind. An empty body needs no case of its own: every length
-- in the table is at least 1.
abbrev pub message_of : List ℕ → Option Message
message_of b = option_map (λ (n : ℕ). message_at (get_or b 0 0) b) (entries_of (get_or b 0 0) (length b))

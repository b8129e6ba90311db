-- The lines of the two requests that ask about the kept rows and change nothing. RULES, Orders; The service.
use Rattle.std.specs.Prelude.{cond, List, ℕ}
use Rattle.refusals.specs.declared.Refusal.{Refusal}
use Rattle.graph.specs.Acyclic.{acyclic}
use Rattle.graph.specs.Order.{greedy}
use Rattle.orders.specs.Entries.{number_of, entry_arrowb, entries_in}
use Rattle.orders.specs.Good.{goodb}
use Rattle.orders.specs.Order.{in_orderb}
use Rattle.orders.specs.Judged.{judged}
use Rattle.lines.specs.Line.{Line, Line.order, good_line, bad_line, refused_line}
use Rattle.method.specs.declared.Table.{Table}
use Rattle.method.specs.Conditions.{is_closed}

-- a proposed order of the kept rows, nine entries a row
abbrev pub proposal_line : List ℕ → List ℕ → Line
proposal_line flat ns = judged (refused_line Refusal.BadRows) good_line bad_line (goodb flat) (in_orderb (entries_in flat) ns)

-- the order that the writer gives for them
abbrev pub order_line : List ℕ → Line
order_line flat =
    cond (goodb flat)
    (cond (acyclic entry_arrowb (entries_in flat)) (order (greedy entry_arrowb number_of (entries_in flat))) (refused_line Refusal.NoOrder))
    (refused_line Refusal.BadRows)

-- before a good opening there are no kept rows to speak of
abbrev pub if_open : Table → Line → Line
if_open t x = cond (is_closed t) (refused_line Refusal.NotOpen) x

-- Rows of tickets, and the arrow between two of them: which transaction a site put first. RULES, Graph and decision.
use Rattle.std.specs.Prelude.{Bool, ◌&&◌, List, ℕ, ◌<◌, ltb, get_or}
use Rattle.std.specs.List.{list_any, zip}

-- what a transaction took at each site, from site 0 on; 0 is no ticket
abbrev pub Tickets : Type 0
Tickets = List ℕ

abbrev pub ticket_at : Tickets → ℕ → ℕ
ticket_at ts s = get_or ts s 0

-- both hold a ticket at site s, and the first one's is the smaller
abbrev pub Before : Tickets → Tickets → ℕ → Type 0
Before a b s = (0 < ticket_at a s) × (ticket_at a s < ticket_at b s)

-- an arrow: there is such a site
abbrev pub Arrow : Tickets → Tickets → Type 0
Arrow a b = (s : ℕ) × Before a b s

-- the same, as a test that computes: at some site the two tickets pass
abbrev pub any_site : (ℕ → ℕ → Bool) → Tickets → Tickets → Bool
any_site f xs ys = list_any (λ p. f p.0 p.1) (zip xs ys)

abbrev pub beforeb : ℕ → ℕ → Bool
beforeb x y = ltb 0 x && ltb x y

abbrev pub arrowb : Tickets → Tickets → Bool
arrowb = any_site beforeb

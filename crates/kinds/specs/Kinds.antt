-- How long a body of each kind is. RULES, Messages, as a table; src/lib.rt has the same table, and a later kind is a line in each.
use Rattle.std.specs.Prelude.{◌≡◌, cond, not, List, [], ◌∷◌, ℕ, ◌+◌, ◌-◌, ◌*◌, ◌/◌, ◌%◌, ◌<◌, ◌≤◌, ltb, eqb, length, get_or, Option, Some, None, Result, MatchResult}
use Rattle.refusals.specs.declared.Refusal.{Refusal}
use Rattle.kinds.specs.declared.Kind.{Kind}
use Rattle.kinds.specs.declared.Shape.{Shape}

-- the first byte of a body of each kind
abbrev pub code_of : Kind → ℕ
code_of Kind.Open = 0
code_of Kind.Begin = 1
code_of Kind.Ticket = 2
code_of Kind.Prepared = 3
code_of Kind.Abort = 4
code_of Kind.Decide = 5
code_of Kind.Forget = 6
code_of Kind.Sweep = 7
code_of Kind.Propose = 8
code_of Kind.Order = 9

-- the byte is that of the kind, or no kind has it: refusal 10
abbrev pub Decodes : ℕ → Result Kind Refusal → Type 0
Decodes code r = MatchResult r (λ kind. code_of kind ≡ code) (λ e. (e ≡ Refusal.BadBody) × (9 < code))

-- the bytes without the list; the bytes of each entry of the list, 1 where there is None; the fewest entries; the most
abbrev pub shape : ℕ → ℕ → ℕ → ℕ → Shape
shape b s l m = record { base = b; step = s; least = l; most = m }

abbrev pub kinds : List Shape
kinds =
    shape 5 4 0 38  -- 0 open: first number, floors
    ∷ shape 2 1 0 0  -- 1 begin: site list
    ∷ shape 10 1 0 0  -- 2 ticket: number, site, ticket
    ∷ shape 6 1 0 0  -- 3 prepared: number, site
    ∷ shape 5 1 0 0  -- 4 abort: number
    ∷ shape 5 1 0 0  -- 5 decide: number
    ∷ shape 5 1 0 0  -- 6 forget: number
    ∷ shape 1 1 0 0  -- 7 sweep
    ∷ shape 1 4 0 39  -- 8 propose: numbers
    ∷ shape 1 1 0 0  -- 9 order
    ∷ []

-- the row of a kind; past the table's end stand zeros, which nothing reads
abbrev pub row_of : ℕ → Shape
row_of k = get_or kinds k (shape 0 0 0 0)

-- a body of kind k with n entries in its list is len bytes long
pub record HasLength (k n len : ℕ) : Type 0 where
  pub known : k < length kinds
  pub enough : (row_of k).least ≤ n
  pub few : n ≤ (row_of k).most
  pub bytes : len ≡ (row_of k).base + (row_of k).step * n

-- the same as a test: how many entries a body of kind k has that is len bytes long, or that there is no such body
abbrev pub entries_in : Shape → ℕ → Option ℕ
entries_in r len =
    cond (ltb len r.base) None
    (cond (not (eqb ((len - r.base) % r.step) 0)) None
    (cond (ltb ((len - r.base) / r.step) r.least) None
    (cond (ltb r.most ((len - r.base) / r.step)) None
    (Some ((len - r.base) / r.step)))))

unfoldable pub entries_of : ℕ → ℕ → Option ℕ
entries_of k len = cond (ltb k (length kinds)) (entries_in (row_of k) len) None

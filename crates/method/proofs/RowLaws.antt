-- What the rows that calls make hold at a site: a new row, a row with a report put in, a committed one; and the raised tickets.
-- Assumes nothing.
use mathlib.Core.Path.{◌≡◌, refl, ap, ◌∙◌}
use mathlib.Core.List.Memᴰ
use mathlib.Core.List.Memᴰ.{head as here}
use mathlib.Core.List.Memᴰ.{tail as there}
use mathlib.Core.List.{List, [], ◌∷◌}
use mathlib.Core.Logic.{◌≢◌}
use Prim.Native.Nat.{ℕ, zero, suc, ◌<◌, max}
use native.Mathlib.Omega.{arith}
use lib.ListN.{length, get_or, set, replicate, length-set, length-map, get_or-map}
use lib.Seq.{get_or-set_same, get_or-set_other}
use Rattle.std.specs.Prelude.{unwrap_or}
use Rattle.graph.specs.Lists.{◌∈◌}
use Rattle.orders.specs.Arrow.{ticket_at}
use Rattle.sites.specs.Sites.{Rising}
use Rattle.method.specs.declared.Ticket.{Ticket}
use Rattle.method.specs.declared.Part.{Part}
use Rattle.method.specs.declared.Row.{Row}
use Rattle.method.specs.declared.Report.{Report}
use Rattle.method.specs.Records.{ticket, part, no_part, part_at, tickets_of}
use Rattle.method.specs.Stages.{first_stage, step_of}
use Rattle.method.specs.Effects.{based, raised, reported}

pub ticket_part : (r : Row) (s : ℕ) → ticket_at (tickets_of r) s ≡ (part_at r s).ticket.0
unfolding tickets_of
ticket_part r s = get_or-map (λ (p : Part). p.ticket.0) r.parts s no_part

pub length_tickets : (r : Row) → length (tickets_of r) ≡ length r.parts
unfolding tickets_of
length_tickets r = length-map r.parts (λ (p : Part). p.ticket.0)

-- past a place of a list of the same element, the default
pub get_or_replicate_same : {A : Type 0} (n i : ℕ) (a : A) → get_or (replicate n a) i a ≡ a
get_or_replicate_same zero i a = refl
get_or_replicate_same (suc n) zero a = refl
get_or_replicate_same (suc n) (suc i) a = get_or_replicate_same n i a

-- a list of sites in which none stands twice
not_in_rest : (s : ℕ) (ss : List ℕ) → Rising (s ∷ ss) → ¬ (s ∈ ss)
not_in_rest s ss r m = omega (arith, r.0 s m)

-- begin: the parts of a new row
module _ (high : List Ticket) where
  abbrev start : ℕ → Part
  start s = part first_stage (get_or high s (ticket 0)) (ticket 0)

  pub length_based : (ss : List ℕ) (ps : List Part) → length (based high ss ps) ≡ length ps
  unfolding based
  length_based [] ps = refl
  length_based (s ∷ ss) ps = length_based ss (set ps s (start s)) ∙ length-set ps s (start s)

  pub based_other : (ss : List ℕ) (ps : List Part) (s : ℕ) → ¬ (s ∈ ss) → get_or (based high ss ps) s no_part ≡ get_or ps s no_part
  unfolding based
  based_other [] ps s n = refl
  based_other (u ∷ ss) ps s n = based_other ss (set ps u (start u)) s (λ m. n (there m)) ∙ get_or-set_other ps u s (start u) no_part (λ e. n (here e))

  pub based_listed : (ss : List ℕ) (ps : List Part) (s : ℕ) → Rising ss → s ∈ ss → s < length ps → get_or (based high ss ps) s no_part ≡ start s
  unfolding based
  based_listed [] ps s r m h = absurd (Memᴰ.not-nil m)
  based_listed (u ∷ ss) ps s r (here e) h =
      rw e (based_other ss (set ps u (start u)) u (not_in_rest u ss r) ∙ get_or-set_same ps u (start u) no_part (rw e at h))
  based_listed (u ∷ ss) ps s r (there m) h = based_listed ss (set ps u (start u)) s r.1 m (rw (length-set ps u (start u)) h)

-- commit: the raised tickets
module _ (r : Row) where
  abbrev up : List Ticket → ℕ → Ticket
  up hs s = ticket (max (get_or hs s (ticket 0)).0 (part_at r s).ticket.0)

  pub length_raised : (ss : List ℕ) (hs : List Ticket) → length (raised r ss hs) ≡ length hs
  unfolding raised
  length_raised [] hs = refl
  length_raised (s ∷ ss) hs = length_raised ss (set hs s (up hs s)) ∙ length-set hs s (up hs s)

  pub raised_other : (ss : List ℕ) (hs : List Ticket) (s : ℕ) → ¬ (s ∈ ss) → get_or (raised r ss hs) s (ticket 0) ≡ get_or hs s (ticket 0)
  unfolding raised
  raised_other [] hs s n = refl
  raised_other (u ∷ ss) hs s n = raised_other ss (set hs u (up hs u)) s (λ m. n (there m)) ∙ get_or-set_other hs u s (up hs u) (ticket 0) (λ e. n (here e))

  pub raised_listed : (ss : List ℕ) (hs : List Ticket) (s : ℕ) → Rising ss → s ∈ ss → s < length hs → get_or (raised r ss hs) s (ticket 0) ≡ up hs s
  unfolding raised
  raised_listed [] hs s g m h = absurd (Memᴰ.not-nil m)
  raised_listed (u ∷ ss) hs s g (here e) h =
      rw e (raised_other ss (set hs u (up hs u)) u (not_in_rest u ss g) ∙ get_or-set_same hs u (up hs u) (ticket 0) (rw e at h))
  raised_listed (u ∷ ss) hs s g (there m) h =
      raised_listed ss (set hs u (up hs u)) s g.1 m (rw (length-set hs u (up hs u)) h)
      ∙ ap (λ (k : Ticket). ticket (max k.0 (part_at r s).ticket.0)) (get_or-set_other hs u s (up hs u) (ticket 0) (λ e. omega (arith, g.0 s m)))

-- a report: the site that it names, and the others
module _ (r : Row) (s : ℕ) (p : Report) (k : Ticket) where
  abbrev told : Part
  told = part (unwrap_or (step_of (part_at r s).stage p) (part_at r s).stage) (part_at r s).base k

  pub reported_same : s < length r.parts → part_at (reported r s p k) s ≡ told
  unfolding reported
  reported_same h = get_or-set_same r.parts s told no_part h

  pub reported_other : (u : ℕ) → u ≢ s → part_at (reported r s p k) u ≡ part_at r u
  unfolding reported
  reported_other u n = get_or-set_other r.parts s u told no_part n

  pub length_reported : length (reported r s p k).parts ≡ length r.parts
  unfolding reported
  length_reported = length-set r.parts s told

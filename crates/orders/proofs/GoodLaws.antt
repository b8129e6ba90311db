-- The test of a ticket table passes exactly the good ones. Assumes nothing.
use mathlib.Core.Path.{◌≡◌, refl, sym, ap}
use mathlib.Core.Bool.{Bool, true, false, not, ◌&&◌}
use mathlib.Core.List.Memᴰ
use mathlib.Core.List.{List, [], ◌∷◌, map}
use mathlib.Core.Logic.{◌⊎◌, inl, inr}
use Prim.Native.Nat.{ℕ, zero, suc, ◌<◌, ◌%◌}
use native.Mathlib.Omega.{arith}
use lib.Dec.{eqb, leb}
use lib.ListN.{length}
use borrow.Author.Tests.{eqb-true, eq-eqb, leb-true, le-leb}
use Rattle.graph.specs.Lists.{◌∈◌, At, any_of}
use Rattle.graph.proofs.TestLaws.{true_or_false, true_not_false, false_of_not, not_of_false, false_of_not_true, both_of_and, and_of_both, either_of_or, or_of_left, or_of_right}
use Rattle.graph.proofs.MemberLaws.{any_of_member, member_of_any}
use Rattle.graph.proofs.PlaceLaws.{at_of_member, member_of_at}
use Rattle.graph.proofs.CountLaws.{once_of_cons, once_of_tail, new_of_once}
use Rattle.orders.specs.Arrow.{ticket_at, any_site}
use Rattle.orders.specs.Entries.{Entry, number_of, entries_in}
use Rattle.orders.specs.Good.{Apart, GoodRows, Clash, sameb, clash, apartb, goodb}
use Rattle.orders.proofs.ArrowLaws.{any_site→site, site→any_site, sameb→same, same→sameb}

pub clash→Clash : (q r : Entry) → clash q r ≡ true → Clash q r
clash→Clash q r e = go (either_of_or (eqb q.number r.number) (any_site sameb q.tickets r.tickets) e)
  where
    go : (eqb q.number r.number ≡ true) ⊎ (any_site sameb q.tickets r.tickets ≡ true) → Clash q r
    go (inl h) = inl (eqb-true q.number r.number h)
    go (inr h) =
        let (s, k) = any_site→site sameb q.tickets r.tickets h in
        let (p, f) = sameb→same (ticket_at q.tickets s) (ticket_at r.tickets s) k in
        inr (s, p, f)

pub sameb_zero : (x : ℕ) → sameb x 0 ≡ false
sameb_zero x = false_of_not_true (sameb x 0) (λ e. let (p, f) = sameb→same x 0 e in omega arith)

pub Clash→clash : (q r : Entry) → Clash q r → clash q r ≡ true
Clash→clash q r (inl h) = or_of_left (any_site sameb q.tickets r.tickets) (eq-eqb q.number r.number h)
Clash→clash q r (inr (s, p, f)) = or_of_right (eqb q.number r.number)
    (site→any_site sameb (λ y. refl) sameb_zero q.tickets r.tickets s (same→sameb (ticket_at q.tickets s) (ticket_at r.tickets s) p f))

-- the first row against the others
pub apart_of_cons : (x : Entry) (rs : List Entry) → ((r : Entry) → r ∈ rs → ¬ Clash x r) → Apart rs → Apart (x ∷ rs)
apart_of_cons x rs n a = record { numbers = once_of_cons x.number (map number_of rs) new a.numbers; tickets = tickets }
  where
    new : ¬ (x.number ∈ map number_of rs)
    new m = let (r, k, e) = Memᴰ.of_map number_of rs m in n r k (inl (sym e))

    tickets : (s i j : ℕ) (q r : Entry) → At (x ∷ rs) i q → At (x ∷ rs) j r → 0 < ticket_at q.tickets s → ticket_at q.tickets s ≡ ticket_at r.tickets s → i ≡ j
    tickets s zero zero q r p l h e = refl
    tickets s zero (suc j) q r p l h e = absurd (n r (member_of_at rs j l) (rw p (inr (s, h, e))))
    tickets s (suc i) zero q r p l h e = absurd (n q (member_of_at rs i p) (rw l (inr (s, rw e at h, sym e))))
    tickets s (suc i) (suc j) q r p l h e = ap suc (a.tickets s i j q r p l h e)

cons_of_apart : (x : Entry) (rs : List Entry) → Apart (x ∷ rs) → ((r : Entry) → r ∈ rs → ¬ Clash x r) × Apart rs
cons_of_apart x rs a = (
  λ r m k. clashes r (at_of_member m) k,
  record {
    numbers = once_of_tail x.number (map number_of rs) a.numbers;
    tickets = λ s i j q r p l h e. let k = a.tickets s (suc i) (suc j) q r p l h e in omega arith;
  },
)
  where
    clashes : (r : Entry) → (i : ℕ) × At rs i r → ¬ Clash x r
    clashes r (i, p) (inl e) = new_of_once x.number (map number_of rs) a.numbers r.number (Memᴰ.map number_of (member_of_at rs i p)) (sym e)
    clashes r (i, p) (inr (s, h, e)) = let k = a.tickets s zero (suc i) x r refl p h e in omega arith

pub apart_of_nil : Apart []
apart_of_nil = record { numbers = λ n i j p q. absurd p; tickets = λ s i j q r p. absurd p }

pub apartb→apart : (rs : List Entry) → apartb rs ≡ true → Apart rs
unfolding apartb
apartb→apart [] e = apart_of_nil
apartb→apart (x ∷ rs) e =
    let (a, b) = both_of_and (not (any_of (clash x) rs)) (apartb rs) e in
    let f = false_of_not (any_of (clash x) rs) a in
    apart_of_cons x rs (λ r m k. true_not_false (any_of_member (clash x) m (Clash→clash x r k)) f) (apartb→apart rs b)

pub apart→apartb : (rs : List Entry) → Apart rs → apartb rs ≡ true
unfolding apartb
apart→apartb [] a = refl
apart→apartb (x ∷ rs) a =
    let (n, b) = cons_of_apart x rs a in
    let f = false_of_not_true (any_of (clash x) rs) (λ e. let (r, m, k) = member_of_any (clash x) rs e in n r m (clash→Clash x r k)) in
    and_of_both (not_of_false f) (apart→apartb rs b)

module _ (flat : List ℕ) where
  unnamed : Entry → Bool
  unnamed r = eqb r.number 0

  pub goodb→good : goodb flat ≡ true → GoodRows flat
  unfolding goodb unnamed
  goodb→good e =
      let (abc, d) = both_of_and (eqb (length flat % 9) 0 && leb (length flat) 288 && not (any_of unnamed (entries_in flat))) (apartb (entries_in flat)) e in
      let (ab, c) = both_of_and (eqb (length flat % 9) 0 && leb (length flat) 288) (not (any_of unnamed (entries_in flat))) abc in
      let (a, b) = both_of_and (eqb (length flat % 9) 0) (leb (length flat) 288) ab in
      let f = false_of_not (any_of unnamed (entries_in flat)) c in
      record {
        whole = eqb-true (length flat % 9) 0 a;
        few = leb-true (length flat) 288 b;
        named = λ r m. named r.number (λ z. true_not_false (any_of_member unnamed m (eq-eqb r.number 0 z)) f);
        apart = apartb→apart (entries_in flat) d;
      }
    where
      named : (n : ℕ) → ¬ (n ≡ 0) → 0 < n
      named n h = omega arith

  pub good→goodb : GoodRows flat → goodb flat ≡ true
  unfolding goodb unnamed
  good→goodb g = and_of_both
      (and_of_both (and_of_both (eq-eqb (length flat % 9) 0 g.whole) (le-leb (length flat) 288 g.few))
      (not_of_false (false_of_not_true (any_of unnamed (entries_in flat)) (λ e. let (r, m, k) = member_of_any unnamed (entries_in flat) e in
      omega (arith, g.named r m, eqb-true r.number 0 k)))))
      (apart→apartb (entries_in flat) g.apart)

  pub bad_of_goodb : goodb flat ≡ false → ¬ GoodRows flat
  bad_of_goodb e g = true_not_false (good→goodb g) e

  pub good_or_bad : GoodRows flat ⊎ (¬ GoodRows flat)
  good_or_bad = elim (true_or_false (goodb flat)) [ inl e ↦ inl (goodb→good e) | inr e ↦ inr (bad_of_goodb e) ]

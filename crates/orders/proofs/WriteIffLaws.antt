-- Each answer of the order's writer is given exactly under its condition. Assumes nothing.
use mathlib.Core.Path.{◌≡◌, sym, ◌∙◌}
use mathlib.Core.List.{List, ◌++◌}
use mathlib.Core.Logic.{◌↔◌}
use Prim.Native.Nat.{ℕ, ◌+◌}
use native.Mathlib.Omega.{arith}
use lib.ListN.{length, take, drop}
use Rattle.graph.specs.Smallest.{SmallestFirst}
use Rattle.orders.specs.Entries.{number_of, EntryArrow, entries_in}
use Rattle.orders.specs.Good.{GoodRows}
use Rattle.orders.specs.Order.{InOrder}
use Rattle.orders.specs.Reply.{Reply}
use Rattle.orders.specs.Write.{Room, Written, Written.bad, Written.no_room, Written.no_order, Written.written}

-- two refusals with different numbers, and a refusal and a success, are not one answer
clash : {q : Reply} {i j : ℕ} → q ≡ Reply.refused i → q ≡ Reply.refused j → (i ≡ j → ⊥) → ⊥
clash {q} {i} {j} e f n = n (let g : Reply.refused i ≡ Reply.refused j = sym e ∙ f in cc)

refused_or_wrote : {q : Reply} {i j : ℕ} → q ≡ Reply.refused i → q ≡ Reply.wrote j → ⊥
refused_or_wrote e f = let z : ◌≡◌ {A = ℕ} 0 1 = cc in omega (arith, z)

module _ (flat : List ℕ) (place : ℕ) (out : List ℕ) (q : Reply) (after : List ℕ) where
  abbrev W : Type 0
  W = Written flat place out q after

  abbrev Ordered : Type 0
  Ordered = (o : List ℕ) × InOrder (entries_in flat) o

  pub bad_written : W → (q ≡ Reply.refused 13) ↔ (¬ GoodRows flat)
  bad_written w = (forth w, back w)
    where
      forth : W → q ≡ Reply.refused 13 → ¬ GoodRows flat
      forth (bad e f n) x = n
      forth (no_room e f g r) x = absurd (clash e x (λ z. omega (arith, z)))
      forth (no_order e f g r n) x = absurd (clash e x (λ z. omega (arith, z)))
      forth (written o e f g r i s) x = absurd (refused_or_wrote x e)

      back : W → ¬ GoodRows flat → q ≡ Reply.refused 13
      back (bad e f n) x = e
      back (no_room e f g r) x = absurd (x g)
      back (no_order e f g r n) x = absurd (x g)
      back (written o e f g r i s) x = absurd (x g)

  pub no_room_written : W → (q ≡ Reply.refused 14) ↔ (GoodRows flat × (¬ Room flat place out))
  no_room_written w = (forth w, back w)
    where
      forth : W → q ≡ Reply.refused 14 → GoodRows flat × (¬ Room flat place out)
      forth (bad e f n) x = absurd (clash e x (λ z. omega (arith, z)))
      forth (no_room e f g r) x = (g, r)
      forth (no_order e f g r n) x = absurd (clash e x (λ z. omega (arith, z)))
      forth (written o e f g r i s) x = absurd (refused_or_wrote x e)

      back : W → GoodRows flat × (¬ Room flat place out) → q ≡ Reply.refused 14
      back (bad e f n) x = absurd (n x.0)
      back (no_room e f g r) x = e
      back (no_order e f g r n) x = absurd (x.1 r)
      back (written o e f g r i s) x = absurd (x.1 r)

  pub no_order_written : W → (q ≡ Reply.refused 12) ↔ (GoodRows flat × Room flat place out × (¬ Ordered))
  no_order_written w = (forth w, back w)
    where
      forth : W → q ≡ Reply.refused 12 → GoodRows flat × Room flat place out × (¬ Ordered)
      forth (bad e f n) x = absurd (clash e x (λ z. omega (arith, z)))
      forth (no_room e f g r) x = absurd (clash e x (λ z. omega (arith, z)))
      forth (no_order e f g r n) x = (g, r, n)
      forth (written o e f g r i s) x = absurd (refused_or_wrote x e)

      back : W → GoodRows flat × Room flat place out × (¬ Ordered) → q ≡ Reply.refused 12
      back (bad e f n) x = absurd (n x.0)
      back (no_room e f g r) x = absurd (r x.1)
      back (no_order e f g r n) x = e
      back (written o e f g r i s) x = absurd (x.2 (o, i))

  -- what a success tells, and where there is one
  pub wrote_written : W → (n : ℕ) → q ≡ Reply.wrote n
      → GoodRows flat × Room flat place out × ((o : List ℕ) × (length o ≡ n) × InOrder (entries_in flat) o × SmallestFirst EntryArrow number_of (entries_in flat) o × (after ≡ take place out ++ (o ++ drop (place + n) out)))
  wrote_written (bad e f m) n x = absurd (refused_or_wrote e x)
  wrote_written (no_room e f g r) n x = absurd (refused_or_wrote e x)
  wrote_written (no_order e f g r m) n x = absurd (refused_or_wrote e x)
  wrote_written (written o e f g r i s) n x = let l : length o ≡ n = cc in (g, r, (o, l, i, s, rw l at f))

  pub written_of_order : W → GoodRows flat → Room flat place out → Ordered → (n : ℕ) × (q ≡ Reply.wrote n)
  written_of_order (bad e f m) g r o = absurd (m g)
  written_of_order (no_room e f h m) g r o = absurd (m r)
  written_of_order (no_order e f h s m) g r o = absurd (m o)
  written_of_order (written p e f h s i t) g r o = (length p, e)

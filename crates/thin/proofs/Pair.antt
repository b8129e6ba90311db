-- The struct of a table and an answer that a call by value returns: taken apart by the function that lends, put together by the wrapper.
-- Its fields have any names; the table comes first. Assumes nothing.
use mathlib.Core.Path.{◌≡◌, ap, subst, ◌∙◌}
use mathlib.Core.List.{[], ◌∷◌}
use seplogic.Ra.Ura.{Ura}
use lib.Dec.{T}
use mir.Syntax.{Sym, Ty, ty_struct, tcons, tnil}
use mir.Val.{Val, vstruct, vnil, vcons, WT, has_ty}
use types.Logic.{Logic}
use denote.RattleType.{RattleType}
use denote.Laws.{Is, Makes, valss}
use denote.Memory.{lone}
use denote.Steps.{only}
use denote.Struct.Struct.{AreAll, Plains}
use denote.Struct.Declared as Struct
use denote.Struct.Laws as StructLaws
use Rattle.thin.proofs.Data.{Data}

pub record Pair : Type 2 where
  pub tab : Data
  pub ans : Data
  pub row : RattleType
  pub name : Sym
  pub table_of : row.Denot → tab.row.Denot
  pub answer_of : row.Denot → ans.row.Denot
  pub make : tab.row.Denot → ans.row.Denot → row.Denot
  -- its machine value is a struct of the two
  pub typed : {M : Type 1} {𝓤 : Ura M} (𝓛 : Logic 𝓤) (r : row.Denot) (v : Val)
      → Is row r (v ∷ []) → T (has_ty (ty_struct name (tcons tab.ty (tcons ans.ty tnil))) v) × WT v
  pub is : (r : row.Denot) (v : Val) → Is row r (v ∷ []) → v ≡ vstruct (vcons (tab.val (table_of r)) (vcons (ans.val (answer_of r)) vnil))
  pub is_table : (r : row.Denot) (v : Val) → Is row r (v ∷ []) → Is tab.row (table_of r) (tab.val (table_of r) ∷ [])
  pub is_answer : (r : row.Denot) (v : Val) → Is row r (v ∷ []) → Is ans.row (answer_of r) (ans.val (answer_of r) ∷ [])
  pub made : (t : tab.row.Denot) (a : ans.row.Denot) → Is tab.row t (tab.val t ∷ []) → Is ans.row a (ans.val a ∷ [])
      → Is row (make t a) (vstruct (vcons (tab.val t) (vcons (ans.val a) vnil)) ∷ [])
  pub makes : {M : Type 1} {𝓤 : Ura M} (𝓛 : Logic 𝓤) → Makes 𝓛 row (Is row)

abbrev pub pair_ty : Pair → Ty
pair_ty P = ty_struct P.name (tcons P.tab.ty (tcons P.ans.ty tnil))

-- Of a struct's own laws. At a struct that is written out the last five are `refl`, `λ r. refl`, `λ t a. refl`, `λ r p. (p.0, p.1.0)` and
-- `λ t a p q. (p, (q, tt))`.
abbrev pub pair : (tab ans : Data) (D : Struct.Declared) (L : StructLaws.Laws D) → Plains (Struct.fields D) → (name : Sym)
    → (table_of : D.D → tab.row.Denot) (answer_of : D.D → ans.row.Denot) (make : tab.row.Denot → ans.row.Denot → D.D)
    → lone (Struct.row D).mir ≡ ty_struct name (tcons tab.ty (tcons ans.ty tnil))
    → ((r : D.D) → StructLaws.val D L r ≡ vstruct (vcons (tab.val (table_of r)) (vcons (ans.val (answer_of r)) vnil)))
    → ((t : tab.row.Denot) (a : ans.row.Denot) → StructLaws.vals D L (make t a) ≡ vstruct (vcons (tab.val t) (vcons (ans.val a) vnil)) ∷ [])
    → ((r : D.D) → AreAll (Struct.fields D) (D.to r) (valss (Struct.fields D) (StructLaws.spells D.parts L) (D.to r))
    → Is tab.row (table_of r) (tab.val (table_of r) ∷ []) × Is ans.row (answer_of r) (ans.val (answer_of r) ∷ []))
    → ((t : tab.row.Denot) (a : ans.row.Denot) → Is tab.row t (tab.val t ∷ []) → Is ans.row a (ans.val a ∷ [])
    → AreAll (Struct.fields D) (D.to (make t a)) (valss (Struct.fields D) (StructLaws.spells D.parts L) (D.to (make t a))))
    → Pair
pair tab ans D L plain name t a make ty val vals parts whole = record {
  tab = tab;
  ans = ans;
  row = Struct.row D;
  name = name;
  table_of = t;
  answer_of = a;
  make = make;
  typed = λ 𝓛 r v p. subst (λ (τ : Ty). T (has_ty τ v) × WT v) ty ((StructLaws.lawful D L 𝓛).typed r _ p).0;
  is = λ r v p. ap only (StructLaws.tells D L r _ p) ∙ val r;
  is_table = λ r v p. (parts r (StructLaws.owed D L r _ p)).0;
  is_answer = λ r v p. (parts r (StructLaws.owed D L r _ p)).1;
  made = λ x y p q. subst (Is (Struct.row D) (make x y)) (vals x y) (StructLaws.owes D L (make x y) (whole x y p q));
  makes = λ 𝓛. StructLaws.makes D plain 𝓛;
}

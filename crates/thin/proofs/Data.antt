-- Plain data of one machine value: what the walks ask of a table, an answer and an argument that is passed by value. Assumes nothing.
use mathlib.Core.Path.{◌≡◌, refl, sym, subst}
use mathlib.Core.List.{[], ◌∷◌, List}
use seplogic.Ra.Ura.{Ura}
use lib.Dec.{T}
use mir.Syntax.{Width, Ty, ty_int, ty_bool}
use mir.Val.{Val, vint, vbool, WT, has_ty}
use base.Fml.{ftrue}
use types.Logic.{Logic}
use denote.RattleType.{RattleType}
use denote.Laws.{Is, Tells, Makes, Lawful, Typed}
use denote.Memory.{lone}
use denote.Exit.{Exit, unchanged, Last, left, yes}
use denote.Plain.{UInt, Boolean, uint_Tells, uint_Makes, uint_Lawful, bool_Tells, bool_Makes, bool_Lawful}
use denote.Opens.{Opens}
use denote.Copied.{uint_Copied, bool_Copied}
use denote.Struct.Struct.{Plains}
use denote.Struct.Declared as Struct
use denote.Struct.Laws as StructLaws
use denote.Enum.Enum.{Plainss, Few}
use denote.Enum.Declared as Enum
use denote.Enum.Laws as EnumLaws

pub record Data : Type 2 where
  pub row : RattleType
  pub ty : Ty
  pub mir : row.mir ≡ ty ∷ []
  pub val : row.Denot → Val
  pub tells : Tells row (Is row) (λ x. val x ∷ [])
  pub lawful : {M : Type 1} {𝓤 : Ura M} (𝓛 : Logic 𝓤) → Lawful 𝓛 row
  pub makes : {M : Type 1} {𝓤 : Ura M} (𝓛 : Logic 𝓤) → Makes 𝓛 row (Is row)
  pub still : row.exit yes ≡ unchanged
  -- a `&` to it is looked into
  pub opens : {M : Type 1} {𝓤 : Ura M} (𝓛 : Logic 𝓤) → Opens 𝓛 row

module _ (D : Data) where
  pub typed : {M : Type 1} {𝓤 : Ura M} (𝓛 : Logic 𝓤) (x : D.row.Denot) (v : Val)
      → Is D.row x (v ∷ []) → T (has_ty D.ty v) × WT v
  typed 𝓛 x v p = (subst (λ (ms : List Ty). Typed ms (v ∷ [])) D.mir ((D.lawful 𝓛).typed x _ p)).0

  -- nothing is said of what becomes of it: it is a copy
  pub last : (x : D.row.Denot) → Last (D.row.exit yes) x
  last x = subst (λ (e : Exit D.row.Denot). Last e x) (sym D.still) tt

  pub silent : (x : D.row.Denot) (w : Last (D.row.exit yes) x) → left (D.row.exit yes) x w ≡ ftrue
  silent x = subst (λ (e : Exit D.row.Denot). (w : Last e x) → left e x w ≡ ftrue) (sym D.still) (λ w. refl)

-- an unsigned integer, a bool, a struct and an enum of plain data
abbrev pub uint : Width → Data
uint w = record {
  row = UInt w;
  ty = ty_int w;
  mir = refl;
  val = vint w;
  tells = uint_Tells w;
  lawful = λ 𝓛. uint_Lawful 𝓛 w;
  makes = λ 𝓛. uint_Makes 𝓛 w;
  still = refl;
  opens = λ 𝓛. (uint_Copied 𝓛 w).opens;
}

abbrev pub boolean : Data
boolean = record {
  row = Boolean;
  ty = ty_bool;
  mir = refl;
  val = vbool;
  tells = bool_Tells;
  lawful = λ 𝓛. bool_Lawful 𝓛;
  makes = λ 𝓛. bool_Makes 𝓛;
  still = refl;
  opens = λ 𝓛. (bool_Copied 𝓛).opens;
}

abbrev pub struct : (D : Struct.Declared) → StructLaws.Laws D → Plains (Struct.fields D) → StructLaws.Copyables D.parts → Data
struct D L plain copies = record {
  row = Struct.row D;
  ty = lone (Struct.row D).mir;
  mir = refl;
  val = StructLaws.val D L;
  tells = StructLaws.tells D L;
  lawful = λ 𝓛. StructLaws.lawful D L 𝓛;
  makes = λ 𝓛. StructLaws.makes D plain 𝓛;
  still = StructLaws.still D copies yes;
  opens = λ 𝓛. (StructLaws.copied D copies 𝓛).opens;
}

abbrev pub enum : (D : Enum.Declared) → EnumLaws.Laws D → Few (Enum.shape D) → Plainss (Enum.variants D) → EnumLaws.Copyabless D.parts → Data
enum D L few plain copies = record {
  row = Enum.row D;
  ty = lone (Enum.row D).mir;
  mir = refl;
  val = EnumLaws.val D L;
  tells = EnumLaws.tells D L;
  lawful = λ 𝓛. EnumLaws.lawful D L 𝓛 few;
  makes = λ 𝓛. EnumLaws.makes D plain 𝓛;
  still = EnumLaws.still D copies yes;
  opens = λ 𝓛. (EnumLaws.copied D copies 𝓛).opens;
}

-- Laws of the list of section types: each number of the list, every other number, the least sizes, and which types are holders.
use Prim.Native.Nat.{ℕ, ◌≤◌}
use mathlib.Core.Path.{◌≡◌, refl, ap}
use mathlib.Core.Bool.{Bool, true, false, cond, not, ◌&&◌}
use mathlib.Core.List.{List, [], ◌∷◌}
use native.Mathlib.Omega.{arith}
use borrow.Author.Tests.{ne_eqb, eqb-true, leb-true}
use lib.Dec.{eqb, leb}
use lib.ListN.{drop}
use Rattle.sections.specs.Types.{compression, guid_defined, compression_header, guid_defined_header, TypeRow, types, type_is, plain_leaf, info_among, type_info}
use Rattle.sections.specs.Header.{is_holder}
use Rattle.sections.specs.declared.types.TypeInfo.{TypeInfo}
use Rattle.sections.specs.declared.types.TypeName.TheVariants.{Compression, GuidDefined, Pe32, Pic, Te, DxeDepex, Version}
use Rattle.sections.specs.declared.types.TypeName.TheVariants.{UserInterface, Compatibility16, FirmwareVolumeImage, FreeformSubtypeGuid, Raw, PeiDepex, Unknown}
use Rattle.sections.specs.declared.types.Class.TheVariants.{OpenableHolder, GuidHeadedLeaf, PlainLeaf}

-- the thirteen types
pub record Listed : Type 0 where
  pub compression : type_info 0x01 ≡ type_is Compression OpenableHolder 9
  pub guid_defined_lem : type_info 0x02 ≡ type_is GuidDefined OpenableHolder 24
  pub pe32 : type_info 0x10 ≡ type_is Pe32 PlainLeaf 4
  pub pic : type_info 0x11 ≡ type_is Pic PlainLeaf 4
  pub te : type_info 0x12 ≡ type_is Te PlainLeaf 4
  pub dxe_dependency : type_info 0x13 ≡ type_is DxeDepex PlainLeaf 4
  pub version : type_info 0x14 ≡ type_is Version PlainLeaf 4
  pub name : type_info 0x15 ≡ type_is UserInterface PlainLeaf 4
  pub compatibility16 : type_info 0x16 ≡ type_is Compatibility16 PlainLeaf 4
  pub volume_image : type_info 0x17 ≡ type_is FirmwareVolumeImage PlainLeaf 4
  pub free_form_guid : type_info 0x18 ≡ type_is FreeformSubtypeGuid GuidHeadedLeaf 20
  pub raw : type_info 0x19 ≡ type_is Raw PlainLeaf 4
  pub pei_dependency : type_info 0x1B ≡ type_is PeiDepex PlainLeaf 4

pub listed : Listed
unfolding type_info info_among
listed = record {
  compression = refl;
  guid_defined_lem = refl;
  pe32 = refl;
  pic = refl;
  te = refl;
  dxe_dependency = refl;
  version = refl;
  name = refl;
  compatibility16 = refl;
  volume_image = refl;
  free_form_guid = refl;
  raw = refl;
  pei_dependency = refl;
}

-- every other number is an unknown type, a plain leaf of least size 4
pub unlisted : (t : ℕ) → (t ≡ 0x01 → ⊥) → (t ≡ 0x02 → ⊥) → (t ≡ 0x10 → ⊥) → (t ≡ 0x11 → ⊥) → (t ≡ 0x12 → ⊥) → (t ≡ 0x13 → ⊥) → (t ≡ 0x14 → ⊥)
    → (t ≡ 0x15 → ⊥) → (t ≡ 0x16 → ⊥) → (t ≡ 0x17 → ⊥) → (t ≡ 0x18 → ⊥) → (t ≡ 0x19 → ⊥) → (t ≡ 0x1B → ⊥)
    → type_info t ≡ type_is Unknown PlainLeaf 4
unfolding type_info info_among
unlisted t a b c d e f g h i j k l m =
    rw (
      ne_eqb t 0x01 a,
      ne_eqb t 0x02 b,
      ne_eqb t 0x10 c,
      ne_eqb t 0x11 d,
      ne_eqb t 0x12 e,
      ne_eqb t 0x13 f,
      ne_eqb t 0x14 g,
      ne_eqb t 0x15 h,
      ne_eqb t 0x16 i,
      ne_eqb t 0x17 j,
      ne_eqb t 0x18 k,
      ne_eqb t 0x19 l,
      ne_eqb t 0x1B m,
    )

-- a test that every row of a list passes, and an unknown type
abbrev every : (TypeInfo → Bool) → List TypeRow → Bool
every P [] = P (plain_leaf Unknown)
every P (r ∷ rows) = P r.info && every P rows

pub both : (a b : Bool) → (a && b) ≡ true → (a ≡ true) × (b ≡ true)
both true b p = (refl, p)
both false b p = let z : ◌≡◌ {A = ℕ} 0 1 = cc in absurd (omega arith)

among : (P : TypeInfo → Bool) (rows : List TypeRow) (t : ℕ) → every P rows ≡ true → P (info_among rows t) ≡ true
unfolding info_among
among P [] t h = h
among P (r ∷ rows) t h = go (eqb t r.number) (both (P r.info) (every P rows) h).0 (among P rows t (both (P r.info) (every P rows) h).1)
  where
    go : (b : Bool) → P r.info ≡ true → P (info_among rows t) ≡ true → P (cond b r.info (info_among rows t)) ≡ true
    go true p q = p
    go false p q = q

-- every least size, with a header of 4 bytes, is 4 to 24
pub least_range : (t : ℕ) → (4 ≤ (type_info t).least) × ((type_info t).least ≤ 24)
unfolding type_info
least_range t =
    let h = both _ _ (among (λ i. leb 4 i.least && leb i.least 24) types t refl) in
    (leb-true _ _ h.0, leb-true _ _ h.1)

-- the least sizes of the two holders
pub least_compression : (t : ℕ) → eqb t compression ≡ true → (type_info t).least ≡ compression_header
unfolding type_info info_among
least_compression t e = ap (λ (x : ℕ). (type_info x).least) (eqb-true t compression e)

pub least_guid : (t : ℕ) → eqb t guid_defined ≡ true → (type_info t).least ≡ guid_defined_header
unfolding type_info info_among
least_guid t e = ap (λ (x : ℕ). (type_info x).least) (eqb-true t guid_defined e)

-- only the two holders are holders
not_true : (b : Bool) → not b ≡ true → b ≡ false
not_true false p = refl
not_true true p = let z : ◌≡◌ {A = ℕ} 0 1 = cc in absurd (omega arith)

pub not_holder : (t : ℕ) → eqb t compression ≡ false → eqb t guid_defined ≡ false → is_holder (type_info t).class ≡ false
unfolding type_info info_among
not_holder t a b = rw (a, b) (not_true _ (among (λ i. not (is_holder i.class)) (drop 2 types) t refl))

-- a holder that is no compression section is a GUID-defined one
pub holder_guid : (t : ℕ) → is_holder (type_info t).class ≡ true → eqb t compression ≡ false → t ≡ guid_defined
holder_guid t holds x = go (eqb t guid_defined) refl
  where
    go : (b : Bool) → eqb t guid_defined ≡ b → t ≡ guid_defined
    go true y = eqb-true _ _ y
    go false y =
        let n = not_holder t x y in
        let z : ◌≡◌ {A = ℕ} 0 1 = cc in absurd (omega arith)

-- the two holders are holders
pub holds-compression : (t : ℕ) → t ≡ compression → is_holder (type_info t).class ≡ true
unfolding type_info info_among
holds-compression t e = ap (λ (x : ℕ). is_holder (type_info x).class) e

pub holds_guid : (t : ℕ) → t ≡ guid_defined → is_holder (type_info t).class ≡ true
unfolding type_info info_among
holds_guid t e = ap (λ (x : ℕ). is_holder (type_info x).class) e

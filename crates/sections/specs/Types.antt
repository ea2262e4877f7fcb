-- Section types (002, "Architectural Section Types"; 01, "Sections"): what a type byte stands for, its class and its least size with a
-- header of 4 bytes.
-- A section's type byte is called `section_type` here and `section_type` in the code, since `type` is a word of the language.
use Rattle.std.specs.Prelude.{ℕ, cond, List, [], ◌∷◌, eqb}
use Rattle.sections.specs.declared.types.TypeName.{TypeName}
use Rattle.sections.specs.declared.types.TypeName.TheVariants.{Compression, GuidDefined, Pe32, Pic, Te, DxeDepex, Version}
use Rattle.sections.specs.declared.types.TypeName.TheVariants.{UserInterface, Compatibility16, FirmwareVolumeImage, FreeformSubtypeGuid, Raw, PeiDepex, Unknown}
use Rattle.sections.specs.declared.types.Class.{Class}
use Rattle.sections.specs.declared.types.Class.TheVariants.{OpenableHolder, GuidHeadedLeaf, PlainLeaf}
use Rattle.sections.specs.declared.types.TypeInfo.{TypeInfo}

-- the type bytes of the two holders
abbrev pub compression : ℕ
compression = 0x01

abbrev pub guid_defined : ℕ
guid_defined = 0x02

-- the lengths of the headers: the one that all sections share, and those with fields of their own
abbrev pub common_header : ℕ
common_header = 4

abbrev pub compression_header : ℕ
compression_header = 9

abbrev pub guid_defined_header : ℕ
guid_defined_header = 24

abbrev pub freeform_guid_header : ℕ
freeform_guid_header = 20

-- a row of the list of types: a type byte, and the type that it stands for, its class and its least size
pub record TypeRow : Type 0 where
  pub number : ℕ
  pub info : TypeInfo

abbrev pub type_is : TypeName → Class → (least : ℕ) → TypeInfo
type_is n c l = record { name = n; class = c; least = l }

abbrev pub type_row : (number : ℕ) → TypeName → Class → (least : ℕ) → TypeRow
type_row t n c l = record { number = t; info = type_is n c l }

-- "Types: ..", with the class and, from 202, the least size of each
abbrev pub types : List TypeRow
types =
    type_row compression Compression OpenableHolder compression_header
    ∷ type_row guid_defined GuidDefined OpenableHolder guid_defined_header
    ∷ type_row 0x10 Pe32 PlainLeaf common_header
    ∷ type_row 0x11 Pic PlainLeaf common_header
    ∷ type_row 0x12 Te PlainLeaf common_header
    ∷ type_row 0x13 DxeDepex PlainLeaf common_header
    ∷ type_row 0x14 Version PlainLeaf common_header
    ∷ type_row 0x15 UserInterface PlainLeaf common_header
    ∷ type_row 0x16 Compatibility16 PlainLeaf common_header
    ∷ type_row 0x17 FirmwareVolumeImage PlainLeaf common_header
    ∷ type_row 0x18 FreeformSubtypeGuid GuidHeadedLeaf freeform_guid_header
    ∷ type_row 0x19 Raw PlainLeaf common_header
    ∷ type_row 0x1B PeiDepex PlainLeaf common_header
    ∷ []

-- a plain leaf, with no fields of its own
abbrev pub plain_leaf : TypeName → TypeInfo
plain_leaf n = type_is n PlainLeaf common_header

-- the row of a type byte in a list; where it has none, "unknown types are plain leaves"
unfoldable pub info_among : List TypeRow → (section_type : ℕ) → TypeInfo
info_among [] section_type = plain_leaf Unknown
info_among (r ∷ rows) section_type = cond (eqb section_type r.number) r.info (info_among rows section_type)

-- "each type number falls into one class"
unfoldable pub type_info : (section_type : ℕ) → TypeInfo
type_info section_type = info_among types section_type

-- Why the inner fields at the start of a text are refused, as what is so of its bytes.
use Rattle.std.specs.Prelude.{◌≡◌, ◌≢◌, ◌⊎◌, ◌<◌, ℕ, true, List, [], ◌∷◌, length, is_some, None, Ok, Err}
use Rattle.kdbx_parts.specs.Parts.{Field}
use Rattle.kdbx_parts.specs.declared.fail.FrameFail.{FrameFail}
use Rattle.kdbx_parts.specs.declared.fail.FrameFail.TheVariants.{CipherUnknown, Compressed, Dictionary, FieldLength, FieldMissing, FieldTwice, HeaderHash, KdfLimit, KdfUnknown, NoMemory, NotKdbx, TooLarge, Truncated, Variant, Version}
use Rattle.kdbx_parts.specs.declared.parts.LengthWidth.TheVariants.{Four}
use Rattle.kdbx_inner.specs.Inner.{InnerRead, PartialInner, inner_of, no_inner_fields, with_inner_field}
use Rattle.header_cause_laws.specs.Headers.{IsField, NeedsField}

-- ---- fields one after another

-- Fields lead from some bytes to others: one after another, none of them field 0, and what each
-- says is added to what those before it said.
abbrev pub LeadTo : List Field → InnerRead → InnerRead → Type 0
LeadTo [] from to = from ≡ to
LeadTo (f ∷ fs) from to = (more : PartialInner) × IsField Four from.rest f × (f.id ≢ 0)
    × (with_inner_field from.fields f ≡ Ok more)
    × LeadTo fs (record { fields = more; rest = f.rest }) to

-- The fields of a text up to some of its bytes, and what they say.
pub record ReadsTo (text : List ℕ) (now : InnerRead) : Type 0 where
  pub fields : List Field
  pub lead : LeadTo fields (record { fields = no_inner_fields; rest = text }) now

-- After the fields before it there is this field, which is not field 0.
pub record HasField (text : List ℕ) (said : PartialInner) (field : Field) : Type 0 where
  pub rest : List ℕ
  pub reads : ReadsTo text (record { fields = said; rest = rest })
  pub is_field : IsField Four rest field
  pub not_last : field.id ≢ 0

-- All fields of a text, up to field 0, say this.
pub record HasFields (text : List ℕ) (said : PartialInner) : Type 0 where
  pub rest : List ℕ
  pub reads : ReadsTo text (record { fields = said; rest = rest })
  pub last : Field
  pub is_last : IsField Four rest last
  pub zero_id : last.id ≡ 0

-- ---- causes

-- A text of this length ends within a field: within its head, or within the content whose length
-- the head has.
pub record EndsWithinField (len : ℕ) (text : List ℕ) : Type 0 where
  pub len_is : len ≡ length text
  pub now : InnerRead
  pub reads : ReadsTo text now
  pub n : ℕ
  pub needs : NeedsField Four now.rest n
  pub short : length now.rest < n

-- A field was there before: the number of the stream, or its key.
abbrev pub WasThere : ℕ → PartialInner → Type 0
WasThere id said = ((id ≡ 1) × (is_some said.stream_id ≡ true))
    ⊎ ((id ≡ 2) × (is_some said.stream_key ≡ true))

-- A field that was there before is there again.
pub record HasFieldTwice (id : ℕ) (text : List ℕ) : Type 0 where
  pub said : PartialInner
  pub field : Field
  pub has : HasField text said field
  pub id_is : id ≡ field.id
  pub twice : WasThere id said

-- The number of the stream is not four bytes, or a binary has no byte of flags.
abbrev pub IsWrongLength : ℕ → ℕ → Type 0
IsWrongLength id len = ((id ≡ 1) × (len ≢ 4)) ⊎ ((id ≡ 3) × (len ≡ 0))

-- A field has a length that it may not have.
pub record HasWrongLength (id len : ℕ) (text : List ℕ) : Type 0 where
  pub said : PartialInner
  pub field : Field
  pub has : HasField text said field
  pub id_is : id ≡ field.id
  pub len_is : len ≡ length field.content
  pub wrong : IsWrongLength id len

-- The number of the stream, or its key, is not said.
abbrev pub Lacks : ℕ → PartialInner → Type 0
Lacks id said = ((id ≡ 1) × (said.stream_id ≡ None)) ⊎ ((id ≡ 2) × (said.stream_key ≡ None))

-- Field 0 is there, and a field before it is missing.
pub record HasNoField (id : ℕ) (text : List ℕ) : Type 0 where
  pub said : PartialInner
  pub has : HasFields text said
  pub lacks : Lacks id said

-- The cause of each refusal.
abbrev pub InnerCause : FrameFail → List ℕ → Type 0
InnerCause NotKdbx text = ⊥
InnerCause (Version number) text = ⊥
InnerCause (Truncated len) text = EndsWithinField len text
InnerCause (TooLarge end) text = ⊥
InnerCause (FieldTwice id) text = HasFieldTwice id text
InnerCause (FieldLength id len) text = HasWrongLength id len text
InnerCause (Dictionary offset) text = ⊥
InnerCause (HeaderHash kept found) text = ⊥
InnerCause (FieldMissing id) text = HasNoField id text
InnerCause (CipherUnknown id) text = ⊥
InnerCause (Compressed flag) text = ⊥
InnerCause (KdfUnknown id) text = ⊥
InnerCause (Variant number) text = ⊥
InnerCause (KdfLimit field number) text = ⊥
InnerCause NoMemory text = ⊥

-- ---- the law

-- A text whose inner fields are refused has the cause.
abbrev pub InnerRefusalsHaveCauses : Type 0
InnerRefusalsHaveCauses = (text : List ℕ) (fail : FrameFail) → inner_of text ≡ Err fail
    → InnerCause fail text

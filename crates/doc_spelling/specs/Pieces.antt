-- What is written of a document, one step above markup: elements whose texts are not escaped yet,
-- and whose hidden bytes the keystream has not hidden yet.
use Rattle.std.specs.Prelude.{ℕ, zero, suc, ◌+◌, Bool, true, false, if◌then◌else◌, List, [], ◌∷◌, ◌++◌, length, codes, map, bytes_eq, Option, Some, None}
use Rattle.base64.specs.Engines.{standard}
use Rattle.base64.specs.GeneralPurpose.{encode_of}
use Rattle.markup_grammar.specs.Escapes.{escaped}
use Rattle.markup_grammar.specs.Tags.{Attribute, spelled_attributes}
use Rattle.markup_grammar.specs.Tree.{Element, element, Content, text_only, element_after}
use Rattle.stream_core.specs.InnerStream.{Keystream, keystream_byte}
use Rattle.stream_core.specs.Stream.{xor_stream}
use Rattle.vault_model.specs.Db.{NodeId, nil_id}

mutual
  -- An element by its name: one with attributes and a text, one with attributes and bytes that the
  -- keystream hides, or one that holds others. An attribute is its name and its text.
  pub data Piece : Type 0 where
    leaf : List ℕ → List (List ℕ × List ℕ) → List ℕ → Piece
    secret : List ℕ → List (List ℕ × List ℕ) → List ℕ → Piece
    box : List ℕ → Pieces → Piece

  -- elements side by side
  pub data Pieces : Type 0 where
    none : Pieces
    beside : Piece → Pieces → Pieces

infixr 5 ◌▹◌
-- an element before others
abbrev pub ◌▹◌ : Piece → Pieces → Pieces
x ▹ xs = beside x xs

infixr 5 ◌▹▹◌
-- elements before others
abbrev pub ◌▹▹◌ : Pieces → Pieces → Pieces
none ▹▹ more = more
beside x xs ▹▹ more = beside x (xs ▹▹ more)

-- an element for each of some things
abbrev pub pieces_of : {A : Type 0} → (A → Piece) → List A → Pieces
pieces_of piece [] = none
pieces_of piece (x ∷ xs) = piece x ▹ pieces_of piece xs

-- the element of a thing, where there is one
abbrev pub piece_if : {A : Type 0} → (A → Piece) → Option A → Pieces
piece_if piece None = none
piece_if piece (Some x) = piece x ▹ none

-- ---- what is written only where it differs from what an element that is missing says

-- a text or a list with something in it
abbrev pub unless_empty : {A : Type 0} → List A → Option (List A)
unless_empty [] = None
unless_empty (x ∷ xs) = Some (x ∷ xs)

-- a time other than 0
abbrev pub unless_zero : ℕ → Option ℕ
unless_zero zero = None
unless_zero (suc n) = Some (suc n)

-- an id other than nil
abbrev pub unless_nil : NodeId → Option NodeId
unless_nil u = if bytes_eq u nil_id then None else Some u

-- a choice that is false
abbrev pub unless_true : Bool → Option Bool
unless_true true = None
unless_true false = Some false

-- a choice that is true
abbrev pub unless_false : Bool → Option Bool
unless_false true = Some true
unless_false false = None

-- ---- elements without elements in them

-- an element with a text
abbrev pub text_piece : List ℕ → List ℕ → Piece
text_piece name t = leaf name [] t

-- an element with bytes in base64
abbrev pub base64_piece : List ℕ → List (List ℕ × List ℕ) → List ℕ → Piece
base64_piece name attributes bytes = leaf name attributes (encode_of standard bytes)

-- `Protected="True"`
abbrev pub protected_attribute : List ℕ × List ℕ
protected_attribute = (codes "Protected", codes "True")

-- `ProtectInMemory="True"`
abbrev pub in_memory_attribute : List ℕ × List ℕ
in_memory_attribute = (codes "ProtectInMemory", codes "True")

-- ---- the elements of the grammar

-- an attribute, after a space and between quotes
abbrev pub attribute_of : List ℕ × List ℕ → Attribute
attribute_of a = record {
  space = 32 ∷ [];
  name = a.0;
  space_before = [];
  space_behind = [];
  quote = 34;
  value = escaped a.1;
}

-- what a start tag has after its name
abbrev pub attributes_text : List (List ℕ × List ℕ) → List ℕ
attributes_text attributes = spelled_attributes (map attribute_of attributes) []

-- hidden bytes, the first at this offset of the keystream, in base64, which needs no escapes
abbrev pub hidden_text : Keystream → ℕ → List ℕ → List ℕ
hidden_text k offset bytes = encode_of standard (xor_stream (keystream_byte k) offset bytes)

abbrev mutual
  -- how many bytes of the keystream an element uses
  pub hidden_len : Piece → ℕ
  hidden_len (leaf name attributes t) = 0
  hidden_len (secret name attributes bytes) = length bytes
  hidden_len (box name pieces) = hidden_len_all pieces

  -- the same of elements side by side
  pub hidden_len_all : Pieces → ℕ
  hidden_len_all none = 0
  hidden_len_all (beside x xs) = hidden_len x + hidden_len_all xs

abbrev mutual
  -- an element of the grammar, whose first hidden byte is at this offset of the keystream
  pub element_of : Keystream → ℕ → Piece → Element
  element_of k offset (leaf name attributes t) =
      element name (attributes_text attributes) (text_only (escaped t)) []
  element_of k offset (secret name attributes bytes) =
      element name (attributes_text (attributes ++ protected_attribute ∷ []))
      (text_only (hidden_text k offset bytes)) []
  element_of k offset (box name pieces) = element name [] (content_of k offset pieces) []

  -- the same of elements side by side, with no text between them
  pub content_of : Keystream → ℕ → Pieces → Content
  content_of k offset none = text_only []
  content_of k offset (beside x xs) =
      element_after [] (element_of k offset x) (content_of k (offset + hidden_len x) xs)

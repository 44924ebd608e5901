-- What a key document says: its version, and the text of its key. Of an element that occurs twice
-- the last counts.
use Rattle.std.specs.Prelude.{ℕ, Bool, true, false, ◌&&◌, if◌then◌else◌, Option, Some, None, List, ◌∷◌, take, bytes_eq, codes, Result, Ok, Err}
use Rattle.sha2.specs.Sha256.{sha256}
use Rattle.markup_core.specs.MarkupGrammar.Answers.{Answer, start}
use Rattle.markup_core.specs.MarkupGrammar.Elements.{Element, element, Content, last, also, cut, innermost, outer_contents, open_contents, own_text}
use Rattle.markup_core.specs.MarkupGrammar.Attributes.{attribute_text}
use Rattle.text_core.specs.TextForms.Texts.{trim}
use Rattle.key_core.specs.KeyTexts.{without_spaces, base64_key, hexadecimal_key, hexadecimal_hash}
use Rattle.key_core.specs.declared.key_document.Version.{Version}
use Rattle.key_core.specs.declared.key_document.Version.TheVariants.{First, Second, Other}
use Rattle.key_core.specs.declared.key_file.KeyFileFail.{KeyFileFail}
use Rattle.key_core.specs.declared.key_file.KeyFileFail.TheVariants.{KeyFileForm, KeyFileHash}

abbrev mutual
  -- what an element holds goes up to its end, and so it is with each element in it
  pub is_whole : Content → Bool
  is_whole (last text) = true
  is_whole (also text e more) = is_whole_element e && is_whole more
  is_whole (cut text answer) = false

  -- what an element holds goes up to its end
  pub is_whole_element : Element → Bool
  is_whole_element (element place name raw content) = is_whole content

-- the name of an element
abbrev pub name_of : Element → List ℕ
name_of (element place name raw content) = name

-- what an element holds
abbrev pub held_by : Element → Content
held_by (element place name raw content) = content

-- what the last element of this name says, or else this
abbrev pub last_says : {A : Type 0} → List ℕ → (Element → A) → A → Content → A
last_says name says other (last text) = other
last_says name says other (also text e more) =
    last_says name says (if bytes_eq (name_of e) name then says e else other) more
last_says name says other (cut text answer) = other

-- a version by its text, which may begin with white space, and its place: only the first number
-- counts
abbrev pub version_by : ℕ → List ℕ → Version
version_by place text =
    if bytes_eq (take 2 (trim text)) (codes "1.") then First
    else (if bytes_eq (take 2 (trim text)) (codes "2.") then Second else Other place)

-- what a Version says
abbrev pub version_in : Element → Option Version
version_in (element place name raw content) = Some (version_by place (own_text content))

-- the version that a Meta gives
abbrev pub version_of_meta : Content → Option Version
version_of_meta meta = last_says (codes "Version") version_in None meta

-- the version that the root gives in its Meta
abbrev pub version_of : Content → Option Version
version_of root = last_says (codes "Meta") (λ meta. version_of_meta (held_by meta)) None root

-- a key as it is reported: the place of its element, the hash that is reported with it, and its
-- text
pub record Told : Type 0 where
  pub place : ℕ
  pub hash : Option (List ℕ)
  pub text : List ℕ

-- what a Data says
abbrev pub told_in : Element → Option Told
told_in (element place name raw content) =
    Some (record {
      place = place;
      hash = attribute_text raw (codes "Hash");
      text = own_text content;
    })

-- the key that a Key gives
abbrev pub told_of_key : Content → Option Told
told_of_key key = last_says (codes "Data") told_in None key

-- the key that the root gives in its Key
abbrev pub told_of : Content → Option Told
told_of root = last_says (codes "Key") (λ key. told_of_key (held_by key)) None root

-- what is found, or the refusal of a key that is not in its form
abbrev pub form_or_refusal : {A : Type 0} → ℕ → Option A → Result A KeyFileFail
form_or_refusal place None = Err (KeyFileForm place)
form_or_refusal place (Some x) = Ok x

-- the hash that is reported with a key, where one is: the first four bytes of the key's SHA-256
abbrev pub key_or_hash_refusal : List ℕ → List ℕ → Result (List ℕ) KeyFileFail
key_or_hash_refusal key kept =
    if bytes_eq kept (take 4 (sha256 key)) then Ok key else Err
    (KeyFileHash kept (take 4 (sha256 key)))

-- a key that is checked against its hash, where one is stored with it
abbrev pub proved_by : ℕ → Option (List ℕ) → List ℕ → Result (List ℕ) KeyFileFail
proved_by place None key = Ok key
proved_by place (Some digits) key = elim (form_or_refusal place (hexadecimal_hash digits))
    [ Ok kept ↦ key_or_hash_refusal key kept | Err fail ↦ Err fail ]

-- the key of the first version: base64
abbrev pub first_key : Told → Result (List ℕ) KeyFileFail
first_key told = form_or_refusal told.place (base64_key (trim told.text))

-- the key of the second version: hexadecimal digits, with white space between them, and their hash
abbrev pub second_key : Told → Result (List ℕ) KeyFileFail
second_key told = elim (form_or_refusal told.place (hexadecimal_key (without_spaces told.text)))
    [ Ok key ↦ proved_by told.place told.hash key | Err fail ↦ Err fail ]

-- the key of a document with this version and this key, or the first of what is missing or in no
-- form
abbrev pub document_key : Option Version → Option Told → Result (List ℕ) KeyFileFail
document_key None told = Err (KeyFileForm 0)
document_key (Some (Other place)) told = Err (KeyFileForm place)
document_key (Some First) None = Err (KeyFileForm 0)
document_key (Some First) (Some told) = first_key told
document_key (Some Second) None = Err (KeyFileForm 0)
document_key (Some Second) (Some told) = second_key told

-- what the root of a key document holds: the text is whole, and begins with the start tag of
-- KeyFile
abbrev pub root_of : List Answer → Option Content
root_of (start place name raw ∷ more) =
    if bytes_eq name (codes "KeyFile") && (is_whole (innermost (open_contents more))
    && is_whole (innermost (outer_contents (open_contents more))))
    then Some (innermost (open_contents more)) else None
root_of _ = None

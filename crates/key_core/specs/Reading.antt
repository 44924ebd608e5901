-- What reading the innermost open element up to its end answers, and what it leaves.
use Rattle.std.specs.Prelude.{ℕ, ◌≡◌, ◌<◌, Bool, true, false, ◌&&◌, if◌then◌else◌, bytes_eq, codes, Option, Some, None, option_map, List, [], length, Result, Ok, Err}
use Rattle.secret_core.specs.Secret.{SecretBuffer}
use Rattle.markup_core.specs.MarkupGrammar.Answers.{Answer}
use Rattle.markup_core.specs.MarkupGrammar.Elements.{element, Content, last, also, innermost, outer_contents, open_contents, with_text_before, own_text}
use Rattle.markup_core.specs.MarkupGrammar.Escapes.{unescaped}
use Rattle.key_core.specs.KeyDocument.{is_whole, version_by, version_of, version_of_meta, Told, told_of, told_of_key, root_of}
use Rattle.key_core.specs.declared.key_document.Version.{Version}
use Rattle.key_core.specs.declared.key_document.Document.{Document}
use Rattle.key_core.specs.declared.key_document.Data.{Data}
use Rattle.key_core.specs.declared.reading.Stopped.{Stopped}
use Rattle.key_core.specs.declared.reading.Stopped.TheVariants.{Cut, NoMemory}
use Rattle.key_core.specs.declared.reading.Item.{Item}
use Rattle.key_core.specs.declared.reading.Item.TheVariants.{Child, Words, End}

-- what is left of the innermost open element and of the one round it is whole
abbrev pub are_whole : List Answer → Bool
are_whole answers = is_whole (innermost (open_contents answers)) && is_whole
    (innermost (outer_contents (open_contents answers)))

-- the next item of the innermost open element
abbrev pub Comes : List Answer → Result Item Stopped → List Answer → Type 0
Comes old (Ok (Child name attrs place)) new =
    (innermost (open_contents old) ≡ also []
    (element place name.now attrs.raw.now (innermost (open_contents new)))
    (innermost (outer_contents (open_contents new))))
    × (outer_contents (open_contents old) ≡ outer_contents (outer_contents (open_contents new)))
    × (length new < length old)
Comes old (Ok (Words raw)) new =
    (innermost (open_contents old) ≡ with_text_before (unescaped raw.now)
    (innermost (open_contents new)))
    × (outer_contents (open_contents old) ≡ outer_contents (open_contents new))
    × (length new < length old)
Comes old (Ok End) new = (innermost (open_contents old) ≡ last [])
    × (outer_contents (open_contents old) ≡ open_contents new)
    × (length new < length old)
Comes old (Err Cut) new = are_whole old ≡ false
Comes old (Err NoMemory) new = ⊥

-- it was read up to its end, and says this
pub record IsRead {A : Type 0} (value says : A) (old new : List Answer) : Type 0 where
  pub said : value ≡ says
  pub whole : is_whole (innermost (open_contents old)) ≡ true
  pub rest : open_contents new ≡ outer_contents (open_contents old)
  pub shorter : length new < length old

-- it was read and says this, or it or what is around it is cut
abbrev pub Reads : {A B : Type 0} → (B → A) → A → List Answer → Result B Stopped → List Answer
    → Type 0
Reads view says old (Ok x) new = IsRead (view x) says old new
Reads view says old (Err Cut) new = are_whole old ≡ false
Reads view says old (Err NoMemory) new = Unit {0}

-- a key as it is reported, from the bytes of what holds it
abbrev pub told_by : Data → Told
told_by d = record {
  place = d.place;
  hash = option_map (λ (held : SecretBuffer). held.bytes)
      d.hash;
  text = d.text.bytes;
}

-- the version past an element of a Meta, of this name, at this place and with this content
abbrev pub version_or : List ℕ → ℕ → Option Version → Content → Option Version
version_or name place version content =
    if bytes_eq name (codes "Version") then Some (version_by place (own_text content)) else version

-- the key that a Data at this place gives, with this raw hash and this content
abbrev pub told_here : ℕ → Option (List ℕ) → Content → Told
told_here place hash content = record {
  place = place;
  hash = option_map unescaped hash;
  text =
      own_text content;
}

-- the key past an element of a Key, of this name
abbrev pub told_or : List ℕ → ℕ → Option (List ℕ) → Option Told → Content → Option Told
told_or name place hash told content =
    if bytes_eq name (codes "Data") then Some (told_here place hash content) else told

-- the version and the key that a root gives
abbrev pub Says : Type 0
Says = Option Version × Option Told

-- the version and the key that the content of a root gives
abbrev pub says_of : Content → Says
says_of root = (version_of root, told_of root)

-- the version and the key that a document has as it is read
abbrev pub says_by : Document → Says
says_by document = (document.version, option_map told_by document.data)

-- and those past an element of the root, of this name and with this content
abbrev pub says_or : List ℕ → Says → Content → Says
says_or name says content = (
  if bytes_eq name (codes "Meta") then version_of_meta content else says.0,
  if bytes_eq name (codes "Key") then told_of_key content else says.1,
)

-- what the root holds, whose start tag was read
abbrev pub root_in : List Answer → Option Content
root_in answers = if are_whole answers then Some (innermost (open_contents answers)) else None

-- whether the start tag of the root of a key document is next, which is read
abbrev pub Begins : List Answer → Bool → List Answer → Type 0
Begins old true new = root_of old ≡ root_in new
Begins old false new = root_of old ≡ None

-- whether what is left of the innermost open element is whole
abbrev pub Ends : List Answer → Result Unit Stopped → Type 0
Ends old (Ok x) = is_whole (innermost (open_contents old)) ≡ true
Ends old (Err Cut) = is_whole (innermost (open_contents old)) ≡ false
Ends old (Err NoMemory) = Unit {0}

-- a document is read exactly where there is a root
abbrev pub IsDocument : Option Content → Result Document Stopped → Type 0
IsDocument root (Ok document) = option_map says_of root ≡ Some (says_by document)
IsDocument root (Err Cut) = root ≡ None
IsDocument root (Err NoMemory) = Unit {0}

-- Texts that are refused, so that the law speaks of something.
use Rattle.std.specs.Prelude.{◌≡◌, ℕ, List, [], ◌∷◌, ◌++◌, codes, flat_map, replicate, Result, Err}
use Rattle.stream_core.specs.InnerStream.{NoKeystream}
use Rattle.vault_model.specs.declared.forms.DocForm.TheVariants.{Plain}
use Rattle.doc_forms.specs.declared.fails.DocFail.{DocFail}
use Rattle.doc_forms.specs.declared.fails.DocFail.TheVariants.{BadValue, BinaryRef, Compressed, Depth, DuplicateId, Form, MissingElement, NilId, TooDeep}
use Rattle.doc_forms.specs.declared.fails.RequiredElement.TheVariants.{Group, KeePassFile, Root, Uuid}
use Rattle.doc_forms.specs.Documents.{DocumentAndHash, document}
use Rattle.doc_forms.specs.ElementTexts.{Setting}

-- a document by itself
abbrev pub by_itself : Setting
by_itself = record { form = Plain; keystream = NoKeystream }

-- what it says
abbrev pub read : List ℕ → Result DocumentAndHash DocFail
read text = document by_itself [] text

-- a text whose root group holds this
abbrev pub with_group : List ℕ → List ℕ
with_group inner = codes "<KeePassFile><Root><Group>" ++ (inner ++ codes
    "</Group></Root></KeePassFile>")

-- the element of an id
abbrev pub with_id : List ℕ
with_id = codes "<UUID>AAECAwQFBgcICQoLDA0ODw==</UUID>"

-- No text; an outermost element of another name; no `Root`; no root group; and
-- one without an id.
pub record ExampleRefusals : Type 0 where
  pub empty : read [] ≡ Err (Form 0)
  pub other : read (codes "<a/>") ≡ Err (MissingElement KeePassFile 0)
  pub bare : read (codes "<KeePassFile/>") ≡ Err (MissingElement Root 0)
  pub rootless : read (codes "<KeePassFile><Root/></KeePassFile>") ≡ Err (MissingElement Group 0)
  pub nameless : read (with_group []) ≡ Err (MissingElement Uuid 19)

-- A second `Root`, a number that is none, a hidden text in a document by itself, a group with the
-- nil id, an attachment that is compressed, a group and an entry of one id, and an attachment that
-- refers to no binary.
pub record ExampleFaults : Type 0 where
  pub second : read (codes "<KeePassFile><Root/><Root/></KeePassFile>") ≡ Err (BadValue 20)
  pub number : read (codes "<KeePassFile><Meta><HistoryMaxItems>x</HistoryMaxItems>")
      ≡ Err (BadValue 19)
  pub hidden : read (codes "<KeePassFile><Meta Protected=\"True\"/></KeePassFile>")
      ≡ Err (BadValue 13)
  pub nil : read (with_group (codes "<UUID>AAAAAAAAAAAAAAAAAAAAAA==</UUID>")) ≡ Err (NilId 19)
  pub packed : read (with_group (with_id
      ++ codes "<Entry><Binary><Value Compressed=\"True\"/></Binary></Entry>"))
      ≡ Err (Compressed 78)
  pub twice : read (with_group (with_id ++ (codes "<Entry>" ++ (with_id ++ codes "</Entry>"))))
      ≡ Err (DuplicateId (0 ∷ 1 ∷ 2 ∷ 3 ∷ 4 ∷ 5 ∷ 6 ∷ 7 ∷ 8 ∷ 9 ∷ 10 ∷ 11 ∷ 12 ∷ 13 ∷ 14 ∷ 15 ∷ []))
  pub unbound : read (with_group (with_id ++ codes
      "<Entry><UUID>AQECAwQFBgcICQoLDA0ODw==</UUID><Binary><Value Ref=\"7\"/></Binary></Entry>"))
      ≡ Err (BinaryRef 7)

-- 257 open elements, and 129 groups one in another.
pub record ExampleDepths : Type 0 where
  pub open_elements : read (flat_map {X = ℕ} (λ n. codes "<a>") (replicate 257 0)) ≡ Err (Depth 768)
  pub groups : read (codes "<KeePassFile><Root>"
      ++ flat_map {X = ℕ} (λ n. codes "<Group>") (replicate 129 0)) ≡ Err (TooDeep 915)

-- Documents that a merge with what they already have leaves as they are.
use Rattle.std.specs.Prelude.{◌≡◌, ◌↔◌, Bool, true, ◌&&◌, List, [], ◌∷◌, ◌++◌, Ok}
use Rattle.std.specs.List.{list_all}
use Rattle.std.specs.Ordering.{is_lt}
use Rattle.document_merge.specs.Merging.{merge_result}
use Rattle.vault_model.specs.Db.{NodeId, mark_cmp}
use Rattle.vault_model.specs.Shape.{BareVersion, EntryRecord}
use Rattle.vault_model.specs.Tree.{BareDoc, IsDoc, IsSettled, LEVELS, doc_of, entry_rows, shape_of}

-- each of some versions has a mark below those of all versions after it
abbrev pub versions_rise : List BareVersion → Bool
versions_rise [] = true
versions_rise (v ∷ vs) =
    list_all (λ (w : BareVersion). is_lt (mark_cmp v.mark w.mark)) vs && versions_rise vs

-- an entry's history rises, and its current version is above all of it
abbrev pub is_orderly_entry : EntryRecord → Bool
is_orderly_entry e = versions_rise (e.history ++ e.current ∷ [])

-- so it is of every entry of a document
abbrev pub is_orderly : BareDoc → Bool
is_orderly d = list_all (λ (r : NodeId × EntryRecord). is_orderly_entry r.1) (entry_rows d.tree)

-- A document is that of its own shape: with its nodes side by side nothing of it is left out.
abbrev pub ShapeIsAll : Type 0
ShapeIsAll = (d : BareDoc) → IsDoc d → doc_of LEVELS (shape_of d) ≡ d

-- A document is settled exactly where its entries are in order.
abbrev pub SettledMeans : Type 0
SettledMeans = (d : BareDoc) → IsDoc d → IsSettled LEVELS d ↔ (is_orderly d ≡ true)

-- Merged with itself such a document stays as it is.
abbrev pub MergedWithItself : Type 0
MergedWithItself = (d : BareDoc) → IsDoc d → is_orderly d ≡ true → merge_result d (d ∷ []) ≡ Ok d

-- Under which conditions `show`, `history`, `search`, `export` and `merge` are carried out on a
-- document.
use Rattle.std.specs.Prelude.{◌≡◌, ◌≢◌, ◌≤◌, ◌&&◌, ◌||◌, not, ℕ, Bool, true, false, List, [], ◌∷◌, bytes_eq, length, map, None, Ok, Some}
use Rattle.std.specs.List.{list_any}
use Rattle.stream_core.specs.InnerStream.{NoKeystream}
use Rattle.vault_model.specs.Bare.{BareField}
use Rattle.vault_model.specs.Db.{NodeId}
use Rattle.vault_model.specs.Shape.{EntryRecord}
use Rattle.vault_model.specs.Join.{HaveOneKind, IsAcyclic, IsIn, IsNotEmpty, join}
use Rattle.vault_model.specs.Tree.{BareDoc, FitsLevels, LEVELS, id_of}
use Rattle.vault_model.specs.declared.forms.DocForm.TheVariants.{Plain}
use Rattle.merge_core.specs.NodesBelow.{below_ids}
use Rattle.merge_core.specs.Refusals.{members}
use Rattle.merge_examples.specs.DocumentMerge.Merging.{merge_result}
use Rattle.merge_examples.specs.AgreedLaws.Merges.{AreDocs}
use Rattle.tree_core.specs.After.{Holding, entry_named}
use Rattle.doc_spelling.specs.Ranges.{tree_nodes}
use Rattle.doc_write.specs.Written.{written_len}
use Rattle.find_references.specs.Fields.{fields_of, is_other}
use Rattle.find_references.specs.Laws.{copied_in, sought_in, steps_over}
use Rattle.find_references.specs.Resolved.{MOST_BYTES, MOST_REFERENCES}
use Rattle.find_references.specs.Terms.{PlacedTerm, terms_from}
use Rattle.find_core.specs.Search.{entries_found}
use Rattle.cli_needs.specs.declared.command.ExportFormat.{ExportFormat}
use Rattle.cli_needs.specs.declared.command.ExportFormat.TheVariants.{Csv, Xml}
use Rattle.cli_printing.specs.Exporting.{exported}
use Rattle.otp_core.specs.Reading.{BareOtp, otp_of_entry}
use Rattle.cli_codes.specs.Codes.{EPOCH}
use Rattle.cli_showing.specs.History.{history_shown}
use Rattle.cli_showing.specs.Showing.{code_shown, entries_shown, entry_shown, is_missing, version_shown}

-- ---- show

-- A text has no more references than may be looked for, and no more bytes than may be copied once
-- they are resolved.
abbrev pub CanResolve : BareDoc → List ℕ → Type 0
CanResolve d text = (sought_in (steps_over d text) ≤ MOST_REFERENCES)
    × (length (copied_in (steps_over d text)) ≤ MOST_BYTES)

-- The value of a field is printed: one that is asked for by its name, or where none is asked for,
-- one that is not hidden or shown in clear, of the fields of every entry or of all.
abbrev pub is_printed : (clear all : Bool) → List (List ℕ) → BareField → Bool
is_printed clear all [] f = (not f.hidden || clear) && (all || not (is_other f))
is_printed clear all (name ∷ names) f = list_any (λ n. bytes_eq n f.key) (name ∷ names)

-- The path names an entry, which has a version of the number. This has the fields that are named,
-- and each value that is printed can be resolved.
pub record CanShow (path : List ℕ) (clear all : Bool) (names : List (List ℕ)) (at : ℕ)
    (d : BareDoc) : Type 0 where
  pub held : Holding
  pub named : entry_named path d ≡ Ok held
  pub entry : NodeId × EntryRecord
  pub numbered : version_shown at held.entry ≡ Some entry
  pub there : (name : List ℕ) → IsIn name names → is_missing (fields_of entry.1) name ≡ false
  pub values : (f : BareField) → IsIn f (fields_of entry.1)
      → is_printed clear all names f ≡ true → CanResolve d f.value

-- Where an entry can be shown, `show` gives a text.
abbrev pub ShowSucceeds : Type 0
ShowSucceeds = (file path : List ℕ) (clear all attachments : Bool) (names : List (List ℕ)) (at : ℕ)
    (d : BareDoc) → CanShow path clear all names at d
    → (text : List ℕ) × (entry_shown file clear all attachments names at path d ≡ Ok text)

-- ---- history

-- The path names an entry.
abbrev pub CanShowHistory : List ℕ → BareDoc → Type 0
CanShowHistory path d = (held : Holding) × (entry_named path d ≡ Ok held)

-- Where a path names an entry, `history` gives a text.
abbrev pub HistorySucceeds : Type 0
HistorySucceeds = (file path : List ℕ) (d : BareDoc) → CanShowHistory path d
    → (text : List ℕ) × (history_shown file path d ≡ Ok text)

-- ---- show -t

-- The path names an entry, which has a version of the number. This has the fields that are named,
-- the value of each can be resolved, and its fields say what its codes are made from. The moment is
-- in 1970 or later.
pub record CanShowCode (path : List ℕ) (names : List (List ℕ)) (at now : ℕ) (d : BareDoc) : Type 0
  where
    pub held : Holding
    pub named : entry_named path d ≡ Ok held
    pub entry : NodeId × EntryRecord
    pub numbered : version_shown at held.entry ≡ Some entry
    pub there : (name : List ℕ) → IsIn name names → is_missing (fields_of entry.1) name ≡ false
    pub values : (f : BareField) → IsIn f (fields_of entry.1)
        → list_any (λ name. bytes_eq name f.key) names ≡ true → CanResolve d f.value
    pub otp : BareOtp
    pub says : otp_of_entry (fields_of entry.1) ≡ Ok otp
    pub since : EPOCH ≤ now

-- Where the code of an entry can be shown, `show -t` gives a text.
abbrev pub ShowCodeSucceeds : Type 0
ShowCodeSucceeds = (file path : List ℕ) (names : List (List ℕ)) (at now : ℕ) (d : BareDoc)
    → CanShowCode path names at now d
    → (text : List ℕ) × (code_shown file names at path now d ≡ Ok text)

-- ---- search

-- The terms of a search, each with its text, empty or not.
abbrev pub terms_in : List ℕ → List PlacedTerm
terms_in words = terms_from 0 0 words

-- There is a term, each has a text, and this entry matches all of them.
pub record CanSearch (words : List ℕ) (d : BareDoc) : Type 0 where
  pub some : IsNotEmpty (terms_in words)
  pub texts : (placed : PlacedTerm) → IsIn placed (terms_in words) → placed.term.text ≢ []
  pub entry : NodeId
  pub found : IsIn entry
      (entries_found (map (λ (placed : PlacedTerm). placed.term) (terms_in words)) d)

-- Where something can be searched, `search` gives a text.
abbrev pub SearchSucceeds : Type 0
SearchSucceeds = (file words : List ℕ) (d : BareDoc) → CanSearch words d
    → (text : List ℕ) × (entries_shown file words d ≡ Ok text)

-- ---- export

-- A document has no more nodes and no more bytes than a text may have; a table has no limits.
abbrev pub CanExport : ExportFormat → BareDoc → Type 0
CanExport Xml d = (tree_nodes d.tree ≤ 262144) × (written_len Plain NoKeystream None d ≤ 134086656)
CanExport Csv d = Unit {0}

-- Where a document can be exported, `export` gives a text.
abbrev pub ExportSucceeds : Type 0
ExportSucceeds = (file : List ℕ) (format : ExportFormat) (d : BareDoc) → CanExport format d
    → (text : List ℕ) × (exported file format d ≡ Ok text)

-- ---- merge

-- No node of any of some documents but a root has the id of the root of any of them.
abbrev pub HaveOwnRoots : List BareDoc → Type 0
HaveOwnRoots ds = (d e : BareDoc) → IsIn d ds → IsIn e ds
    → IsIn (id_of e.tree) (below_ids d.tree) → ⊥

-- Sources can be merged into a target: no node but a root has a root's id, no id is of an entry in
-- one and of a group in another, the latest places of each node lead to the root, and what they are
-- joined to fits the levels.
pub record CanBeMerged (t : BareDoc) (ss : List BareDoc) : Type 0 where
  pub roots : HaveOwnRoots (t ∷ ss)
  pub kinds : HaveOneKind (members t ss)
  pub moves : IsAcyclic (members t ss)
  pub levels : FitsLevels LEVELS (join (members t ss))

-- Where documents can be merged, `merge` gives one.
abbrev pub MergeSucceeds : Type 0
MergeSucceeds = (t : BareDoc) (ss : List BareDoc) → AreDocs (t ∷ ss) → CanBeMerged t ss
    → (d : BareDoc) × (merge_result t ss ≡ Ok d)

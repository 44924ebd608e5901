-- The tables of small documents.
use Rattle.std.proofs.Common.{◌≡◌, ℕ, false, List, [], ◌∷◌, codes, refl, replicate}
use Rattle.doc_forms.specs.Entries.{no_content}
use Rattle.doc_spelling.specs.Moments.{year_from, month_from, moment_at}
use Rattle.vault_model.specs.Bare.{BareField}
use Rattle.vault_model.specs.Db.{NodeId, nil_id}
use Rattle.vault_model.specs.Empty.{new_group, new_meta}
use Rattle.vault_model.specs.Shape.{BareVersion, EntryRecord}
use Rattle.vault_model.specs.Tree.{BareDoc, Tree, node, none, beside}
use Rattle.table_core.specs.Rows.{table_of}

abbrev id : ℕ → NodeId
id b = replicate 16 b

abbrev field : List ℕ → List ℕ → BareField
field key value = record { key = key; value = value; hidden = false }

-- A version of these fields, made at a time of an entry that was created at 0.
abbrev version : ℕ → List BareField → BareVersion
version time fields = record {
  mark = record { modified = time; content = record no_content { fields = fields } };
  stats = record { accessed = 0; usage = 0 };
}

abbrev entry : BareVersion → List BareVersion → EntryRecord
entry current history = record { placed = 0; previous = nil_id; current = current; history = history }

abbrev titled : List ℕ → EntryRecord
titled title = entry (version 0 (field (codes "Title") title ∷ [])) []

abbrev doc_of : Tree → BareDoc
doc_of tree = record { tree = tree; tombs = []; meta = new_meta }

-- ---- two entries in the root, and an empty group

abbrev two_entries : BareDoc
two_entries = doc_of (node (id 1) (new_group (codes "Root") 0)
    ((id 2, titled (codes "Bank")) ∷ (id 3, titled (codes "Mail")) ∷ [])
    (beside (node (id 4) (new_group (codes "Work") 0) [] none) none))

table_of_two : table_of two_entries ≡ codes "\"Group\",\"Title\",\"Username\",\"Password\",\"URL\",\"Notes\",\"Last Modified\",\"Created\"\n\"Root\",\"Bank\",\"\",\"\",\"\",\"\",\"0001-01-01T00:00:00Z\",\"0001-01-01T00:00:00Z\"\n\"Root\",\"Mail\",\"\",\"\",\"\",\"\",\"0001-01-01T00:00:00Z\",\"0001-01-01T00:00:00Z\"\n"
unfolding year_from month_from moment_at
table_of_two = refl

-- ---- an entry two groups below the root, with a quote, a comma and a line feed in its values, and a history

abbrev old_version : BareVersion
old_version = version 0 (field (codes "Title") (codes "Old") ∷ [])

abbrev new_version : BareVersion
new_version = version 63839664000
    (field (codes "Notes") (codes "one\ntwo") ∷ field (codes "Password") (codes "a\"b") ∷ field (codes "Title") (codes "New, {REF:T@T:Old}")
    ∷ field (codes "URL") (codes "u") ∷ field (codes "UserName") (codes "me") ∷ [])

abbrev deep_entry : BareDoc
deep_entry = doc_of (node (id 1) (new_group (codes "My \"root\"") 0) []
    (beside (node (id 4) (new_group (codes "Work") 0) []
    (beside (node (id 5) (new_group (codes "Old/new") 0) ((id 2, entry new_version (old_version ∷ [])) ∷ []) none) none)) none))

table_of_deep : table_of deep_entry ≡ codes "\"Group\",\"Title\",\"Username\",\"Password\",\"URL\",\"Notes\",\"Last Modified\",\"Created\"\n\"My \"\"root\"\"/Work/Old/new\",\"New, {REF:T@T:Old}\",\"me\",\"a\"\"b\",\"u\",\"one\ntwo\",\"2024-01-01T00:00:00Z\",\"0001-01-01T00:00:00Z\"\n"
unfolding year_from month_from moment_at
table_of_deep = refl

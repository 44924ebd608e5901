-- The document of an export of Bitwarden.
use Rattle.std.specs.Prelude.{ℕ, List, Result, Ok, Err}
use Rattle.bitwarden_core.specs.Placing.{export_places}
use Rattle.bitwarden_forms.specs.Exports.{export_of}
use Rattle.bitwarden_forms.specs.declared.fails.BitwardenFail.{BitwardenFail}
use Rattle.bitwarden_forms.specs.declared.fails.BitwardenFail.TheVariants as fail
use Rattle.bitwarden_forms.specs.ImportTree.Outcome.{sound_document}
use Rattle.bitwarden_forms.specs.ImportTree.Trees.{placed_document}
use Rattle.bitwarden_forms.specs.ImportTree.declared.fails.TreeFail.{TreeFail}
use Rattle.bitwarden_forms.specs.ImportTree.declared.fails.TreeFail.TheVariants as tree
use Rattle.outside_core.specs.Results.{◌>>=◌}
use Rattle.serde_json.specs.Data.{Data}
use Rattle.vault_model.specs.Tree.{BareDoc}

-- the refusal of a tree
abbrev pub of_tree : TreeFail → BitwardenFail
of_tree (tree.DuplicateId id) = fail.DuplicateId id
of_tree (tree.TooDeep id) = fail.TooDeep id
of_tree tree.NoMemory = fail.NoMemory

-- what a tree gives, as an export gives it
abbrev pub as_export : {A : Type 0} → Result A TreeFail → Result A BitwardenFail
as_export (Ok x) = Ok x
as_export (Err refusal) = Err (of_tree refusal)

-- The document of an export that is as it has to be.
abbrev pub document_at : ℕ → Data → Result BareDoc BitwardenFail
document_at now export = do
  places ← export_places now export
  as_export (sound_document (placed_document now places))

-- The document of an unencrypted export of Bitwarden at a moment, or the first reason why there is
-- none.
abbrev pub bitwarden_document : List ℕ → ℕ → Result BareDoc BitwardenFail
bitwarden_document bytes now = do
  export ← export_of bytes
  document_at now export

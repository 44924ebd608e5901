use Rattle.std.proofs.Common.{◌≡◌, drop, map}
use Rattle.std.specs.List.{find}
use Rattle.bitwarden_forms.specs.Kinds.{has_id}
use Rattle.serde_json.specs.View.{view}
use Rattle.bitwarden_core.proofs.folders.find_folder.Given as goal

-- the first of those that are left is the first of all
abbrev pub invariant-loop-folder : goal.invariant-loop-folder
invariant-loop-folder l = find (has_id l.fn.id) (map view l.fn.folders) ≡ find (has_id l.fn.id) (map view (drop l.folder-index l.fn.folders))

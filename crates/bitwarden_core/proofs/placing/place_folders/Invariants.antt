use Rattle.std.proofs.Common.{◌≡◌, ◌++◌, drop, map}
use Rattle.bitwarden_core.specs.Placing.{folder_place}
use Rattle.bitwarden_core.specs.Steps.{all_seen}
use Rattle.serde_json.specs.View.{view}
use Rattle.bitwarden_core.proofs.placing.place_folders.Given as goal

-- the folders that are placed, with those that are left, are all
abbrev pub invariant-loop-folder : goal.invariant-loop-folder
invariant-loop-folder l = all_seen l.initial.places.items ++ map (folder_place l.fn.now) (map view l.fn.folders)
    ≡ all_seen l.places.items ++ map (folder_place l.fn.now) (map view (drop l.folder-index l.fn.folders))

-- Paths, tried on a small tree: an entry in the root, one in a group, and a group within that group.
use Rattle.std.proofs.Common.{◌≡◌, ℕ, true, false, List, [], ◌∷◌, None, map, refl}
use Rattle.std.specs.Prelude.{codes}
use Rattle.vault_model.specs.Db.{NodeId, nil_id}
use Rattle.vault_model.specs.Empty.{new_group}
use Rattle.vault_model.specs.Shape.{EntryRecord}
use Rattle.vault_model.specs.Tree.{Tree, beside, node, none}
use Rattle.vault_model.specs.Walk.{Walked, walk_tree}

-- an entry of this title
abbrev entry_titled : List ℕ → NodeId × EntryRecord
entry_titled title = (
  nil_id,
  record {
    placed = 0;
    previous = nil_id;
    current = record {
      mark = record {
        modified = 0;
        content = record {
          created = 0;
          expiry = 0;
          expires = false;
          icon = 0;
          custom_icon = None;
          fields =
              record { key = codes "Notes"; value = codes "none"; hidden = false }
              ∷ record { key = codes "Title"; value = title; hidden = false } ∷ [];
          attachments = [];
          tags = [];
          fore = [];
          back = [];
          url_override = [];
          auto_type = record { enabled = true; obfuscation = 0; sequence = []; pairs = [] };
          items = [];
          quality = true;
        };
      };
      stats = record { accessed = 0; usage = 0 };
    };
    history = [];
  },
)

abbrev old : Tree
old = node nil_id (new_group (codes "Old") 0) [] none

abbrev work : Tree
work = node nil_id (new_group (codes "Work") 0) (entry_titled (codes "wiki") ∷ []) (beside old none)

abbrev root : Tree
root = node nil_id (new_group (codes "Root") 0) (entry_titled (codes "mail") ∷ []) (beside work none)

paths_tried : map (λ (w : Walked). w.path) (walk_tree [] root)
    ≡ [] ∷ codes "mail" ∷ codes "Work" ∷ codes "Work/wiki" ∷ codes "Work/Old" ∷ []
paths_tried = refl

-- What documents keep when they are laid and when their root is replaced, each a statement by
-- itself.
use Rattle.std.specs.Prelude.{◌≡◌, ◌≢◌, false}
use Rattle.std.specs.List.{list_any}
use Rattle.vault_model.specs.Db.{NodeId, nil_id, Db, Sound}
use Rattle.vault_model.specs.Join.{is_id}
use Rattle.vault_model.specs.Tree.{BareDoc, LEVELS, FitsLevels, IsDoc, id_of, lay_doc, rooted}
use Rattle.merge_core.specs.NodesBelow.{below_ids}

-- what is laid over a document keeps what every document keeps
abbrev pub LaysAreDocuments : Type 0
LaysAreDocuments = (m : Db) (t : BareDoc) → Sound m → FitsLevels LEVELS m → IsDoc t
    → IsDoc (lay_doc LEVELS m t)

-- a document under another root, whose id none of its nodes has, keeps what every document keeps
abbrev pub RootedAreDocuments : Type 0
RootedAreDocuments = (d : BareDoc) (r : NodeId) → IsDoc d → r ≢ nil_id
    → list_any (is_id r) (below_ids d.tree) ≡ false → IsDoc (rooted d r)

-- and under its own root it is as it was
abbrev pub RootedAtHome : Type 0
RootedAtHome = (d : BareDoc) → IsDoc d → rooted d (id_of d.tree) ≡ d

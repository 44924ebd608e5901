-- The parts of a laid document are the document.
use Rattle.std.proofs.Common.{◌≡◌, ℕ, List, Some, map, ap, sym, ◌∙◌}
use Rattle.std.specs.FinMap.{entries, get}
use Rattle.std.specs.Option.{unwrap_or}
use Rattle.vault_model.specs.declared.metas.Meta.{Meta}
use Rattle.vault_model.specs.declared.nodes.Group.{Group}
use Rattle.vault_model.specs.declared.nodes.Tombstone.{Tombstone}
use Rattle.vault_model.specs.SeenNodes.{document_of, tree_seen}
use Rattle.vault_model.specs.Shape.{GroupRecord, Shape}
use Rattle.vault_model.specs.Tree.{doc_of, no_group, tree_of}
use Rattle.merge_building.specs.Tombs.{tomb_of}

pub assembled : (n : ℕ) (s : Shape) (meta : Meta) (root : Group) (tombs : List Tombstone) (row : GroupRecord) → get s.groups s.root ≡ Some row
    → tree_seen root ≡ tree_of s n s.root row → tombs ≡ map tomb_of (entries s.tombs) → meta ≡ s.meta → document_of meta root tombs ≡ doc_of n s
unfolding doc_of
assembled n s meta root tombs row there tree dead says =
    λ i. record {
      tree = (tree ∙ ap (tree_of s n s.root) (sym (ap (λ o. unwrap_or o no_group) there))) i;
      tombs = dead i;
      meta = says i;
    }

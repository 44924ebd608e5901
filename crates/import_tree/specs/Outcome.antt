-- What imported entries give, or the first reason why they are not taken.
use Rattle.std.specs.Prelude.{ℕ, zero, suc, Option, None, Some, List, [], ◌∷◌, ◌++◌, Result, Ok, Err}
use Rattle.doc_resolving.specs.DocForms.Ids.{least_duplicate, lesser_id}
use Rattle.import_tree.specs.Entries.{ImportedEntry}
use Rattle.import_tree.specs.Trees.{document_of}
use Rattle.import_tree.specs.declared.fails.TreeFail.{TreeFail}
use Rattle.import_tree.specs.declared.fails.TreeFail.TheVariants as fail
use Rattle.outside_core.specs.Results as results
use Rattle.outside_core.specs.Results.{◌>>=◌, Meaning, exact, free}
use Rattle.vault_model.specs.Db.{NodeId}
use Rattle.vault_model.specs.Tree.{BareDoc, LEVELS, Tree, Trees, beside, node, node_ids, none}

-- The ids of the groups of a tree that are below so many levels, its own group's level among them.
abbrev mutual
  pub groups_below : ℕ → Tree → List NodeId
  groups_below zero (node id group entries groups) = id ∷ groups_below_among zero groups
  groups_below (suc n) (node id group entries groups) = groups_below_among n groups

  -- the same of groups side by side
  pub groups_below_among : ℕ → Trees → List NodeId
  groups_below_among n none = []
  groups_below_among n (beside tree trees) = groups_below n tree ++ groups_below_among n trees

-- The least of some ids, if there is one.
abbrev pub least_id : List NodeId → Option NodeId
least_id [] = None
least_id (u ∷ us) = Some (lesser_id u (least_id us))

-- No two nodes have one id; else the least id that two have.
abbrev pub refuse_duplicate : Option NodeId → Result (Unit {0}) TreeFail
refuse_duplicate None = Ok tt
refuse_duplicate (Some id) = Err (fail.DuplicateId id)

-- No group is below the last level; else the least id of one that is.
abbrev pub refuse_depth : Option NodeId → Result (Unit {0}) TreeFail
refuse_depth None = Ok tt
refuse_depth (Some id) = Err (fail.TooDeep id)

-- A tree's ids differ and its groups are not too deep.
abbrev pub sound_tree : Tree → Result (Unit {0}) TreeFail
sound_tree tree = do
  _ ← refuse_duplicate (least_duplicate (node_ids tree))
  refuse_depth (least_id (groups_below LEVELS tree))

-- A document whose ids differ and whose groups are not too deep.
abbrev pub sound_document : BareDoc → Result BareDoc TreeFail
sound_document doc = sound_tree doc.tree >>= λ _. Ok doc

-- The document of imported entries at a moment, or why there is none.
unfoldable pub imported_document : ℕ → List ImportedEntry → Result BareDoc TreeFail
imported_document now entries = sound_document (document_of now entries)

-- What a refusal says of what is defined: that this is its refusal, but running out of memory says
-- nothing.
abbrev pub meaning_of : TreeFail → Meaning TreeFail
meaning_of fail.NoMemory = free
meaning_of refusal = exact refusal

-- what a call returns is what is defined, seen without memory
abbrev pub Returns : {X Y : Type 0} → (X → Y) → Result X TreeFail → Result Y TreeFail → Type 0
Returns view result defined = results.Returns meaning_of view result defined

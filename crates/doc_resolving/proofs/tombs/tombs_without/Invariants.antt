use Rattle.std.proofs.Common.{◌≡◌, ◌++◌, map, not}
use Rattle.std.specs.BTreeSet.{contains}
use Rattle.std.specs.List.{filter}
use Rattle.vault_model.specs.Db.{id_cmp}
use Rattle.vault_model.specs.declared.nodes.Tombstone.{Tombstone}
use Rattle.doc_forms.specs.Ids.{bury_all, tomb_of}
use Rattle.doc_resolving.proofs.tombs.tombs_without.Given as goal

-- the tombstones of other ids, with those that are left, are all
abbrev pub invariant-loop-id : goal.invariant-loop-id
invariant-loop-id l =
    filter (λ (t : Tombstone). not (contains id_cmp l.ids t.id)) (bury_all l.tombs)
    ≡ l.others ++ filter (λ (t : Tombstone). not (contains id_cmp l.ids t.id)) (map tomb_of l.id-iterator)

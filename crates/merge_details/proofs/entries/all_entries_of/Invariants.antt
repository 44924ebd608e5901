use Rattle.std.proofs.Common.{◌≡◌, ◌++◌, drop, map}
use Rattle.std.specs.FinMap.{get}
use Rattle.vault_model.specs.SeenDoc.{doc_seen}
use Rattle.merge_details.specs.Conflicts.{entry_in}
use Rattle.merge_details.proofs.entries.all_entries_of.Given as goal

-- what is gathered, with what is left, is all
abbrev pub invariant-loop-doc : goal.invariant-loop-doc
invariant-loop-doc l =
    map get l.all.items ++ map entry_in (map doc_seen (drop l.doc-index l.docs)) ≡ map entry_in (map doc_seen l.docs)

use Rattle.std.proofs.Common.{◌≡◌, ◌++◌, drop, map}
use Rattle.doc_forms.specs.Attachments.{binaries_from}
use Rattle.doc_forms.specs.SeenDocuments.{pool_item}
use Rattle.doc_forms.specs.SeenDrafts.{binary_seen}
use Rattle.doc_attachments.proofs.pools.number_binaries.Given as goal

-- what is numbered, with what is left, is all
abbrev pub invariant-loop-item : goal.invariant-loop-item
invariant-loop-item l =
    record {
      number : l.number ≡ l.item-index;
      made : map binary_seen l.binaries ++ binaries_from l.number (map pool_item (drop l.item-index l.given))
          ≡ binaries_from 0 (map pool_item l.given);
    }

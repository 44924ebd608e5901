use Rattle.std.proofs.Common.{◌≡◌, drop, map}
use Rattle.std.specs.List.{list_all}
use Rattle.vault_model.specs.SeenNodes.{tree_seen}
use Rattle.doc_sinks.specs.States.{after_pieces}
use Rattle.doc_spelling.specs.Groups.{group_piece}
use Rattle.doc_spelling.specs.Pieces.{pieces_of}
use Rattle.doc_spelling.specs.Ranges.{fits_tree}
use Rattle.doc_write.proofs.groups.+put_group.Given as goal

abbrev pub invariant-loop-below : goal.invariant-loop-below
invariant-loop-below g l =
    record {
      puts : after_pieces g.O.TextSink.step (g.O.TextSink.state l.out) (pieces_of (group_piece l.form l.pool) (map tree_seen (drop l.below-index l.below-items)))
          ≡ after_pieces g.O.TextSink.step (g.O.TextSink.state l.initial.out) (pieces_of (group_piece l.form l.pool) (map tree_seen l.below-items));
      fits : list_all fits_tree (map tree_seen (drop l.below-index l.below-items)) ≡ list_all fits_tree (map tree_seen l.below-items);
    }

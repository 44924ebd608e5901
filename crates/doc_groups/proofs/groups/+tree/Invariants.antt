use Rattle.std.proofs.Common.{◌≡◌, ◌+◌, ◌*◌, [], length}
use Rattle.doc_forms.specs.ElementTexts.{is_protected}
use Rattle.doc_forms.specs.Groups.{group_child}
use Rattle.doc_forms.specs.SeenDrafts.{group_parts_seen}
use Rattle.doc_entries.proofs.DocWalk.Goes.{Goes, all_from}
use Rattle.doc_groups.proofs.groups.+tree.Given as goal

-- What the whole group holds is what the rest of it holds from here on.
abbrev pub invariant-group_children-pieces : goal.invariant-group_children-pieces
invariant-group_children-pieces l =
    record {
      hides : l.hides ≡ is_protected l.tag.attrs.raw.now;
      goes : Goes l.initial.walk l.walk (all_from (λ s. group_child s l.levels) l.tag.offset l.tag.attrs.raw.now [] (group_parts_seen l.initial.known))
          (all_from (λ s. group_child s l.levels) l.tag.offset l.tag.attrs.raw.now l.text.bytes (group_parts_seen l.known));
    }

abbrev pub decreases-group_children-pieces : goal.decreases-group_children-pieces
decreases-group_children-pieces l = length l.walk.answers

abbrev pub decreases-group_children : goal.decreases-group_children
decreases-group_children l = 3 * length l.walk.now.answers

abbrev pub decreases-group : goal.decreases-group
decreases-group l = 3 * length l.walk.now.answers + 1

abbrev pub decreases-group_child : goal.decreases-group_child
decreases-group_child l = 3 * length l.walk.now.answers + 2

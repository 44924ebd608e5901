use Rattle.std.proofs.Common.{List, [], ◌∷◌, ◌++◌, map}
use Rattle.doc_forms.specs.declared.drafts.GroupDraft.{GroupDraft}
use Rattle.doc_forms.specs.Groups.{GroupParts, ReadTrees, append_tree}
use Rattle.doc_forms.specs.SeenDrafts.{draft_seen, group_parts_seen, side_by_side}
use Rattle.doc_groups.proofs.GroupWalks.{one_more_draft}
use Rattle.doc_groups.proofs.Places.{put_last}
use Rattle.doc_groups.proofs.new_groups.add_group.Goals as goal

pub returns : goal.returns
returns c =
    put_last (λ (ds : List GroupDraft). side_by_side (map draft_seen ds)) (λ (trees : ReadTrees). let p : GroupParts = record (group_parts_seen c.args.known.now) { groups = trees } in p)
    (c.args.known.now.groups.items ++ c.args.draft ∷ []) c.append.new.list.items (append_tree (side_by_side (map draft_seen c.args.known.now.groups.items)) (draft_seen c.args.draft)) c.append.result
    (one_more_draft c.args.known.now.groups.items c.args.draft) c.append.ensures

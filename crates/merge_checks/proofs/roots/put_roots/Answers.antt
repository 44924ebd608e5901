-- The roots that are put so far, and those that are left.
use Rattle.std.proofs.Common.{◌≡◌, ◌<◌, ◌≤◌, ◌+◌, ◌||◌, Bool, true, false, List, length, drop, map, is_some, arith, refl, ap, sym, ◌∙◌}
use Rattle.std.specs.FinMap.{empty, insert, get-empty}
use Rattle.std.specs.List.{list_any}
use Rattle.vault_model.specs.declared.documents.Doc.{Doc}
use Rattle.vault_model.specs.declared.nodes.Group.{out-Group}
use Rattle.vault_model.specs.Db.{NodeId, id_cmp}
use Rattle.vault_model.specs.Join.{is_id}
use Rattle.vault_model.specs.SeenDoc.{doc_seen}
use Rattle.vault_model.specs.Tree.{BareDoc, id_of}
use Rattle.merge_core.specs.Marking.{is_marked}
use Rattle.merge_tables.proofs.IdSets.{has_put, one_more}
use Rattle.merge_tables.proofs.ListSteps.{drop_next, drop_end}
use Rattle.merge_checks.proofs.RootIds.{or_off}
use Rattle.merge_checks.proofs.SeenBelow.{seen_id}
use Rattle.merge_checks.proofs.roots.put_roots.Goals as goal

abbrev is_root : NodeId → BareDoc → Bool
is_root u d = is_id u (id_of d.tree)

pub loop-source-init : goal.loop-source-init
loop-source-init c u =
    let root = c.args.target.now.root in
    let id = (out-Group root).id in
    ap (λ b. b || list_any (is_root u) (map doc_seen c.args.sources.now))
    (ap (λ t. is_marked t u) (c.in_ok-put.ensures.ok ∙ ap (λ t. insert t id true) c.requires)
    ∙ has_put empty id true u ∙ or_off (is_id u id) (is_marked empty u) (ap is_some (get-empty id_cmp u))
    ∙ ap (is_id u) (sym (seen_id root)))

pub loop-source-preserved : goal.loop-source-preserved
loop-source-preserved c u =
    let ds = c.args.sources.now in
    let i = c.loop-source.source-index in
    let s = c.source-item.result in
    let id = (out-Group s.root).id in
    let t = c.loop-source.roots in
    let rest = list_any (is_root u) (map doc_seen (drop (i + 1) ds)) in
    let all = list_any (is_root u) (map doc_seen ds) in
    let lt : i < length ds = omega arith in
    ap (λ b. b || rest) (ap (λ t. is_marked t u) c.in_ok-put-2.ensures.ok ∙ has_put t id true u)
    ∙ one_more (is_id u id) (is_marked t u) rest (is_root u (doc_seen c.args.target.now) || all)
    (ap (λ v. is_marked t u || (is_id u v || rest)) (sym (seen_id s.root))
    ∙ sym (ap (λ (xs : List Doc). is_marked t u || list_any (is_root u) (map doc_seen xs)) (drop_next ds i s lt c.source-item.is))
    ∙ c.loop-source.invariant u)

pub returns : goal.returns
returns c u =
    let ds = c.args.sources.now in
    let t = c.loop-source.roots in
    let end : length ds ≤ c.loop-source.source-index = omega arith in
    sym (ap (λ (xs : List Doc). is_marked t u || list_any (is_root u) (map doc_seen xs)) (drop_end ds c.loop-source.source-index end) ∙ or_off (is_marked t u) false refl)
    ∙ c.loop-source.invariant u

-- No node of a source has the target's root's id.
use Rattle.std.proofs.Common.{◌<◌, ◌+◌, ◌++◌, List, map, drop, length, arith, ap, sym, ◌∙◌}
use Rattle.vault_model.specs.declared.documents.Doc.{Doc}
use Rattle.vault_model.specs.Db.{Db}
use Rattle.vault_model.specs.SeenDoc.{doc_seen}
use Rattle.vault_model.specs.Tree.{BareDoc, db_in, id_of, rooted}
use Rattle.merge_core.specs.Refusals.{members}
use Rattle.merge_tables.specs.Databases.{database}
use Rattle.merge_tables.proofs.ListSteps.{drop_next}
use Rattle.merge_checks.proofs.SeenBelow.{seen_id}
use Rattle.merge_checks.proofs.OwnDocs.{at_place, copy_more, is_source}
use Rattle.merge_checks.proofs.copies.push_members.Goals as goal

pub database_of-requires : goal.database_of-requires
database_of-requires c =
    let ds = c.args.sources.now in
    let lt : c.loop-source.source-index < length ds = omega arith in
    is_source c.args.target.now ds c.requires.clear c.source-item.result (at_place ds c.loop-source.source-index c.source-item.result lt c.source-item.is)

pub loop-source-preserved : goal.loop-source-preserved
loop-source-preserved c =
    let t = c.args.target.now in
    let ds = c.args.sources.now in
    let i = c.loop-source.source-index in
    let s = c.source-item.result in
    let lt : i < length ds = omega arith in
    let f : BareDoc → Db = λ d. db_in (rooted d (id_of (doc_seen t).tree)) in
    copy_more f c.loop-source.copies.items c.push-in-loop-source.new.self.items c.in_ok-copy.copy s (drop (i + 1) ds) (members (doc_seen t) (map doc_seen ds))
    c.in_ok-push-2.ensures.items
    (c.in_ok-copy.ensures ∙ ap (λ r. db_in (rooted (doc_seen s) r)) (sym (seen_id t.root)))
    (ap (λ (es : List Doc). map database c.loop-source.copies.items ++ map f (map doc_seen es)) (sym (drop_next ds i s lt c.source-item.is)) ∙ c.loop-source.invariant)

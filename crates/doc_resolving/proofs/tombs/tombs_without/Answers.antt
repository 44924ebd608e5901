use Rattle.std.proofs.Common.{ap, not, sym, ◌∙◌}
use Rattle.std.specs.BTreeSet.{contains}
use Rattle.vault_model.specs.Db.{id_cmp}
use Rattle.vault_model.specs.declared.nodes.Tombstone.{Tombstone}
use Rattle.doc_resolving.proofs.Burials.{one_kept, one_left_out}
use Rattle.doc_resolving.proofs.tombs.tombs_without.Goals as goal

pub loop-id-preserved : goal.loop-id-preserved
loop-id-preserved c =
    one_left_out (λ (t : Tombstone). not (contains id_cmp c.args.ids.now t.id)) _ c.loop-id.others (c.in-Some.id.now, c.in-Some.deleted.now)
    c.loop-id.id-iterator c.next.new.self c.loop-id.invariant c.in-Some.ensures.steps
    (ap not (sym c.contains.ensures ∙ c.if-not-contains.false))

pub loop-id-preserved-in_default : goal.loop-id-preserved-in_default
loop-id-preserved-in_default c =
    one_kept (λ (t : Tombstone). not (contains id_cmp c.args.ids.now t.id)) _ c.loop-id.others (c.in-Some.id.now, c.in-Some.deleted.now)
    c.loop-id.id-iterator c.next.new.self c.push.new.tombs c.loop-id.invariant c.in-Some.ensures.steps
    (ap not (sym c.contains.ensures ∙ c.if-not-contains.true)) c.in_default.ensures

use Rattle.std.proofs.Common.{◌≡◌, true, Ok, ap, sym, subst, ◌∙◌}
use Rattle.doc_values.proofs.RisingLists.{rises_without}
use Rattle.doc_values.proofs.Puts.{put_done}
use Rattle.doc_values.proofs.RisingLists.{rises_put}
use Rattle.vault_model.specs.Proper.{rises}
use Rattle.doc_values.proofs.keyed.put_at.Goals.{in-Ok, in-Err}
use Rattle.doc_values.proofs.keyed.put_at.Goals as goal

pub returns-clause-put : goal.returns-clause-put
returns-clause-put g c =
    let rest = rw c.key.ensures at c.remove_same.ensures in
    elim c.match-insert.branch [
      | in-Ok w ↦ rw w.result-is (ap Ok (put_done g.T.Keyed.key c.args.item c.args.list.now c.remove_same.new.list c.insert.new.self c.args.at c.requires.position c.requires.within rest w.in-Ok.ensures.ok))
      | in-Err w ↦ rw w.result-is tt
    ]

pub returns-clause-rising : goal.returns-clause-rising
returns-clause-rising g c =
    let rest = rw c.key.ensures at c.remove_same.ensures in
    elim c.match-insert.branch [
      | in-Ok w ↦ λ up. subst (λ l. rises g.T.Keyed.key l ≡ true) (put_done g.T.Keyed.key c.args.item c.args.list.now c.remove_same.new.list c.insert.new.self c.args.at c.requires.position c.requires.within rest w.in-Ok.ensures.ok) (rises_put g.T.Keyed.key c.args.item c.args.list.now up)
      | in-Err w ↦ λ up. subst (λ l. rises g.T.Keyed.key l ≡ true) (sym (w.in-Err.ensures.err ∙ rest)) (rises_without g.T.Keyed.key (g.T.Keyed.key c.args.item) c.args.list.now c.args.at up)
    ]

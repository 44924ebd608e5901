use Rattle.std.proofs.Common.{[], ◌∷◌, ◌++◌, map}
use Rattle.std.proofs.lemmas.Result.{err_from_is_err_and}
use Rattle.doc_forms.specs.Entries.{ReadVersion, history_rows}
use Rattle.doc_forms.specs.SeenDrafts.{version_seen}
use Rattle.doc_walk.proofs.Branches.{passed_over, put_in, refused_in}
use Rattle.doc_entries.proofs.histories.HistoryDraftParts.read_child.Goals as goal

pub returns-in_ok-version-in-Entry : goal.returns-in_ok-version-in-Entry
returns-in_ok-version-in-Entry c = rw c.in-Entry.is (put_in (λ (v : ReadVersion). map version_seen c.args.self.now.versions.items ++ v ∷ []) c.in_ok-version-in-Entry.ensures c.add_version.ensures)

pub returns-in_err-version-in-Entry : goal.returns-in_err-version-in-Entry
returns-in_err-version-in-Entry c =
    let p = err_from_is_err_and c.from_residual.result c.from_residual.ensures.1 in
    rw (p.1, p.2, c.in-Entry.is) (refused_in (λ (v : ReadVersion). map version_seen c.args.self.now.versions.items ++ v ∷ []) c.in_err-version-in-Entry.ensures)

pub returns-in_default : goal.returns-in_default
returns-in_default c =
    passed_over c.args.walk.now c.pass.new.self c.pass.result history_rows (map version_seen c.args.self.now.versions.items) c.args.tag.now
    (λ _. (c.in_default.not-Entry, tt))
    c.pass.ensures

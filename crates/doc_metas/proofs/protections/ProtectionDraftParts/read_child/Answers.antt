use Rattle.std.proofs.Common.{Bool}
use Rattle.vault_model.specs.declared.metas.Protection.{Protection}
use Rattle.doc_forms.specs.Metas.{protection_rows}
use Rattle.doc_walk.proofs.Branches.{passed_over}
use Rattle.doc_walk.proofs.Rests.{kept_in}
use Rattle.doc_metas.proofs.protections.ProtectionDraftParts.read_child.Goals as goal

pub returns-in-ProtectTitle : goal.returns-in-ProtectTitle
returns-in-ProtectTitle c = rw c.in-ProtectTitle.is (kept_in (λ (v : Bool). let p : Protection = record c.args.self.now.protection { title = v } in p) c.keep.ensures)

pub returns-in-ProtectUserName : goal.returns-in-ProtectUserName
returns-in-ProtectUserName c = rw c.in-ProtectUserName.is (kept_in (λ (v : Bool). let p : Protection = record c.args.self.now.protection { user = v } in p) c.keep-in-ProtectUserName.ensures)

pub returns-in-ProtectPassword : goal.returns-in-ProtectPassword
returns-in-ProtectPassword c = rw c.in-ProtectPassword.is (kept_in (λ (v : Bool). let p : Protection = record c.args.self.now.protection { password = v } in p) c.keep-in-ProtectPassword.ensures)

pub returns-in-ProtectURL : goal.returns-in-ProtectURL
returns-in-ProtectURL c = rw c.in-ProtectURL.is (kept_in (λ (v : Bool). let p : Protection = record c.args.self.now.protection { url = v } in p) c.keep-in-ProtectURL.ensures)

pub returns-in-ProtectNotes : goal.returns-in-ProtectNotes
returns-in-ProtectNotes c = rw c.in-ProtectNotes.is (kept_in (λ (v : Bool). let p : Protection = record c.args.self.now.protection { notes = v } in p) c.keep-in-ProtectNotes.ensures)

pub returns-in_default : goal.returns-in_default
returns-in_default c =
    passed_over c.args.walk.now c.pass.new.self c.pass.result protection_rows c.args.self.now.protection c.args.tag.now
    (λ _. (c.in_default.not-ProtectTitle, (c.in_default.not-ProtectUserName, (c.in_default.not-ProtectPassword, (c.in_default.not-ProtectURL, (c.in_default.not-ProtectNotes, tt))))))
    c.pass.ensures

use Rattle.std.proofs.Common.{ℕ, Option, refl}
use Rattle.vault_model.specs.Db.{NodeId}
use Rattle.doc_forms.specs.Entries.{version_rows, with_content}
use Rattle.doc_entries.specs.SeenBuilders.{entry_known}
use Rattle.doc_walk.proofs.Rests.{by_later_rows, kept_in}
use Rattle.doc_entries.proofs.versions.version_child.Goals as goal

pub returns-in-IconID : goal.returns-in-IconID
returns-in-IconID c = rw c.in-IconID.is (kept_in (λ (v : ℕ). with_content (λ m. record m { icon = v }) (entry_known c.args.known.now)) c.keep.ensures)

pub returns-in-CustomIconUUID : goal.returns-in-CustomIconUUID
returns-in-CustomIconUUID c = rw c.in-CustomIconUUID.is (kept_in (λ (v : Option NodeId). with_content (λ m. record m { custom_icon = v }) (entry_known c.args.known.now)) c.keep-in-CustomIconUUID.ensures)

pub returns-in_default : goal.returns-in_default
returns-in_default c =
    by_later_rows (λ _. entry_known c.text_child.new.known) c.args.walk.now c.text_child.new.walk c.text_child.result 2 version_rows (entry_known c.args.known.now) c.args.tag.now (λ _. refl)
    (λ _. (c.in_default.not-IconID, (c.in_default.not-CustomIconUUID, tt)))
    c.text_child.ensures

use Rattle.std.proofs.Common.{ℕ, List, drop, refl}
use Rattle.doc_forms.specs.Metas.{meta_rows, with_meta}
use Rattle.doc_forms.specs.SeenDrafts.{meta_parts}
use Rattle.doc_walk.proofs.Rests.{by_later_rows, kept_in}
use Rattle.doc_metas.proofs.metas.description_child.Goals as goal

pub returns-in-DatabaseDescription : goal.returns-in-DatabaseDescription
returns-in-DatabaseDescription c = rw c.in-DatabaseDescription.is (kept_in (λ (v : List ℕ). with_meta (λ m. record m { description = record m.description { value = v } }) (meta_parts c.args.known.now)) c.keep.ensures)

pub returns-in-DatabaseDescriptionChanged : goal.returns-in-DatabaseDescriptionChanged
returns-in-DatabaseDescriptionChanged c = rw c.in-DatabaseDescriptionChanged.is (kept_in (λ (v : ℕ). with_meta (λ m. record m { description = record m.description { changed = v } }) (meta_parts c.args.known.now)) c.keep-in-DatabaseDescriptionChanged.ensures)

pub returns-in-DefaultUserName : goal.returns-in-DefaultUserName
returns-in-DefaultUserName c = rw c.in-DefaultUserName.is (kept_in (λ (v : List ℕ). with_meta (λ m. record m { user = record m.user { value = v } }) (meta_parts c.args.known.now)) c.keep-in-DefaultUserName.ensures)

pub returns-in-DefaultUserNameChanged : goal.returns-in-DefaultUserNameChanged
returns-in-DefaultUserNameChanged c = rw c.in-DefaultUserNameChanged.is (kept_in (λ (v : ℕ). with_meta (λ m. record m { user = record m.user { changed = v } }) (meta_parts c.args.known.now)) c.keep-in-DefaultUserNameChanged.ensures)

pub returns-in_default : goal.returns-in_default
returns-in_default c =
    by_later_rows (λ _. meta_parts c.setting_child.new.known) c.args.walk.now c.setting_child.new.walk c.setting_child.result 4 (λ s. drop 5 (meta_rows s)) (meta_parts c.args.known.now) c.args.tag.now (λ _. refl)
    (λ _. (c.in_default.not-DatabaseDescription, (c.in_default.not-DatabaseDescriptionChanged, (c.in_default.not-DefaultUserName, (c.in_default.not-DefaultUserNameChanged, tt)))))
    c.setting_child.ensures

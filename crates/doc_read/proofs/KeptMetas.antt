-- What a database says of itself is kept as it is read: its texts are UTF-8, and icons and items rise.
use Rattle.std.proofs.Common.{◌≡◌, ℕ, true, List, [], ◌∷◌, codes, refl}
use lib.Utf8.{encode}
use Rattle.std.specs.Str.{is_utf8, chars}
use Rattle.vault_model.specs.Proper.{is_text_icon}
use Rattle.vault_model.specs.declared.contents.Item.{Item}
use Rattle.vault_model.specs.declared.forms.DocForm.{DocForm}
use Rattle.vault_model.specs.declared.forms.DocForm.TheVariants.{Plain, V3, V4}
use Rattle.vault_model.specs.declared.metas.Icon.{Icon}
use Rattle.vault_model.specs.declared.metas.Meta.{Meta}
use Rattle.doc_forms.specs.KeptParts.{is_kept_meta}
use Rattle.doc_forms.specs.Metas.{MetaParts, binaries_rows, binary, icon_rows, icons_rows, meta_rows, metas, no_icon, no_meta, protection_rows}
use Rattle.doc_forms.specs.ElementTexts.{Setting}
use Rattle.vault_model.specs.Empty.{new_protection}
use Rattle.doc_read.proofs.Keeping.{◌&◌, Keeps, Rows, container_keeps, text_row, any_row, any_container}
use Rattle.doc_read.proofs.KeptEntries.{empty_text, KeptItems, custom_data_row}
use Rattle.doc_read.proofs.Rising.{Rising, one_more}

abbrev KeptIcons : List Icon → Type 0
KeptIcons icons = Rising (λ (i : Icon). i.id) is_text_icon icons

-- what a database says of itself is in order, fact by fact
pub record KeptTexts (name description user color : List ℕ) (icons : List Icon) (items : List Item) : Type 0 where
  pub name_text : is_utf8 name ≡ true
  pub description_text : is_utf8 description ≡ true
  pub user_text : is_utf8 user ≡ true
  pub color_text : is_utf8 color ≡ true
  pub icons_kept : KeptIcons icons
  pub items_kept : KeptItems items

abbrev pub InOrder : Meta → Type 0
InOrder m = KeptTexts m.name.value m.description.value m.user.value m.settings.value.color m.icons m.items

pub meta_is_kept : (m : Meta) → InOrder m → is_kept_meta m ≡ true
meta_is_kept m k =
    rw (k.name_text, k.description_text, k.user_text, k.color_text, k.icons_kept.0, k.icons_kept.1, k.items_kept.0, k.items_kept.1) refl

abbrev pub KeptMeta : MetaParts → Type 0
KeptMeta p = InOrder p.meta

pub no_meta_kept : KeptMeta no_meta
unfolding is_utf8 chars encode
no_meta_kept =
    record {
      name_text = refl;
      description_text = refl;
      user_text = refl;
      color_text = refl;
      icons_kept = (refl, refl);
      items_kept = (refl, refl);
    }

-- ---- icons and binaries

abbrev HasTextName : Icon → Type 0
HasTextName i = is_text_icon i ≡ true

icon_kept : (s : Setting) → Rows HasTextName (icon_rows s)
icon_kept s =
    any_row HasTextName s _ _ (λ p v g. g) & any_row HasTextName s _ _ (λ p v g. g)
    & text_row HasTextName s _ (λ p v g u. u) & any_row HasTextName s _ _ (λ p v g. g) & tt

icons_kept : (s : Setting) → Rows KeptIcons (icons_rows s)
icons_kept s =
    container_keeps KeptIcons HasTextName s (icon_rows s) no_icon _ (icon_kept s) empty_text (λ icons i g t. one_more (λ (j : Icon). j.id) is_text_icon i icons t g)
    & tt

-- the binaries are no part of what a database says of itself
binaries_kept : (form : DocForm) (s : Setting) → Rows KeptMeta (binaries_rows form s)
binaries_kept Plain s = any_container KeptMeta s ((codes "Binary", binary s) ∷ []) [] _ (λ p v g. g) & tt
binaries_kept V3 s = any_container KeptMeta s ((codes "Binary", binary s) ∷ []) [] _ (λ p v g. g) & tt
binaries_kept V4 s = tt

-- ---- what a database says of itself

all_rows_kept : (s : Setting) → Rows KeptMeta (meta_rows s)
all_rows_kept s =
    text_row KeptMeta s _ (λ p v g u. g)
    & any_row KeptMeta s _ _ (λ p v g. g)
    & any_row KeptMeta s _ _ (λ p v g. g)
    & text_row KeptMeta s _ (λ p v g u. assumption (u, g))
    & any_row KeptMeta s _ _ (λ p v g. g)
    & text_row KeptMeta s _ (λ p v g u. assumption (u, g))
    & any_row KeptMeta s _ _ (λ p v g. g)
    & text_row KeptMeta s _ (λ p v g u. assumption (u, g))
    & any_row KeptMeta s _ _ (λ p v g. g)
    & any_row KeptMeta s _ _ (λ p v g. g)
    & text_row KeptMeta s _ (λ p v g u. assumption (u, g))
    & any_row KeptMeta s _ _ (λ p v g. g)
    & any_row KeptMeta s _ _ (λ p v g. g)
    & any_row KeptMeta s _ _ (λ p v g. g)
    & any_row KeptMeta s _ _ (λ p v g. g)
    & any_container KeptMeta s (protection_rows s) new_protection _ (λ p v g. g)
    & container_keeps KeptMeta KeptIcons s (icons_rows s) [] _ (icons_kept s) (refl, refl) (λ p v g u. assumption (u, g))
    & any_row KeptMeta s _ _ (λ p v g. g)
    & any_row KeptMeta s _ _ (λ p v g. g)
    & any_row KeptMeta s _ _ (λ p v g. g)
    & any_row KeptMeta s _ _ (λ p v g. g)
    & any_row KeptMeta s _ _ (λ p v g. g)
    & any_row KeptMeta s _ _ (λ p v g. g)
    & any_row KeptMeta s _ _ (λ p v g. g)
    & any_row KeptMeta s _ _ (λ p v g. g)
    & any_row KeptMeta s _ _ (λ p v g. g)
    & custom_data_row KeptMeta s _ (λ p v g u. assumption (u, g))
    & binaries_kept s.form s

-- what a database says of itself, with what is known of its parent
pub meta_row : {P : Type 0} (Good : P → Type 0) (s : Setting) (keep : P → MetaParts → P)
    → ((p : P) (v : MetaParts) → Good p → KeptMeta v → Good (keep p v)) → Keeps Good (metas s keep)
meta_row Good s keep joins = container_keeps Good KeptMeta s (meta_rows s) no_meta keep (all_rows_kept s) no_meta_kept joins

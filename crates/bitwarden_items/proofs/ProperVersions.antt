-- What versions say is in order.
use Rattle.std.proofs.Common.{◌≡◌, ◌&&◌, ℕ, true, List, [], ◌∷◌, ◌++◌, refl, ap, ◌∙◌}
use Rattle.std.specs.List.{list_all}
use Rattle.std.specs.Str.{chars, is_utf8}
use Rattle.bitwarden_items.specs.Proper.{are_proper}
use Rattle.bitwarden_fields.specs.ImportTree.Entries.{content_at}
use Rattle.tree_core.proofs.Counted.{all_append}
use Rattle.vault_model.proofs.Tests.{and_both}
use Rattle.vault_model.specs.Bare.{BareField}
use Rattle.vault_model.specs.Proper.{is_proper_content, is_text_content, is_text_field, rises}
use Rattle.vault_model.specs.Shape.{BareVersion}

pub content_proper : (now created : ℕ) (fields : List BareField) → rises (λ (f : BareField). f.key) fields ≡ true → list_all is_text_field fields ≡ true → is_proper_content (content_at now created fields) ≡ true
unfolding is_proper_content is_utf8 chars lib.Utf8.encode
content_proper now created fields rise texts =
    ap (λ b. b && true && true && is_text_content (content_at now created fields)) rise
    ∙ ap (λ b. b && true && true && true && true && true && true && true) texts

-- versions and one more
pub one_more_proper : (old new : List BareVersion) (v : BareVersion) → new ≡ old ++ v ∷ [] → is_proper_content v.mark.content ≡ true → are_proper old ≡ true → are_proper new ≡ true
one_more_proper old new v is proper all =
    ap are_proper is ∙ all_append (λ (w : BareVersion). is_proper_content w.mark.content) old (v ∷ []) all (and_both (is_proper_content v.mark.content) true proper refl)

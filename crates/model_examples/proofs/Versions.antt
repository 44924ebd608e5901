-- The order of what two versions of an entry say, and those of fields and attachments. Bytes of attachments lie where those of any given
-- attachment do.
use Rattle.std.proofs.Common.{◌≡◌, ℕ, suc, Bool, true, false, ◌==◌, List, [], ◌∷◌, map, replicate, Ordering, Less, Equal, Greater, codes, refl}
use Rattle.std.specs.Ordering.{on}
use Rattle.secret_core.specs.Secret.{SecretBuffer}
use Rattle.vault_model.specs.declared.contents.Attachment.{Attachment}
use Rattle.vault_model.specs.declared.contents.Content.{Content}
use Rattle.vault_model.specs.declared.contents.Field.{Field}
use Rattle.vault_model.specs.Orders.{association_cmp, attachment_cmp, auto_type_cmp, content_cmp, field_cmp, item_cmp}
use Rattle.vault_model.specs.Seen.{bare_attachment, bare_content, bare_field}
use Rattle.model_examples.proofs.Parts.{icon_id, item, number, word}

-- a key or a name, bytes, and whether they are hidden
abbrev Named : Type 0
Named = List ℕ × (List ℕ × Bool)

-- a secret of these bytes, without spare room
abbrev secret : List ℕ → SecretBuffer
secret bytes = record { bytes = bytes; spare = 0 }

abbrev field : Named → Field
field x = record { key = x.0; value = secret x.1.0; hidden = x.1.1 }

module _ (given : Attachment) where
  abbrev attachment : Named → Attachment
  attachment x = record { name = x.0; bytes = record { ptr = given.bytes.ptr; value = secret x.1.0 }; hidden = x.1.1 }

  -- what a version says, of which the part of that number, counted from 0, is greater than where no part is
  abbrev pub content : ℕ → Content
  content greater = record {
    created = number (greater == 0);
    expiry = number (greater == 1);
    expires = greater == 2;
    icon = number (greater == 3);
    custom_icon = icon_id (greater == 4);
    fields = field (codes "Title", (codes "mail", greater == 5)) ∷ [];
    attachments = attachment (codes "key", (codes "bytes", greater == 6)) ∷ [];
    tags = word (greater == 7);
    fore = word (greater == 8);
    back = word (greater == 9);
    url_override = word (greater == 10);
    auto_type = record {
      enabled = true;
      obfuscation = 1;
      sequence = word (greater == 11);
      pairs = record { window = codes "Editor"; keys = codes "{PASSWORD}" } ∷ [];
    };
    items = item (greater == 12) ∷ [];
    quality = greater == 13;
  }

  -- the order of two such contents
  abbrev order : ℕ → ℕ → Ordering
  order one other = content_cmp (bare_content (content one)) (bare_content (content other))

  -- Of two contents the one whose greater part is listed first is the greater, and the last is without such a part.
  parts_in_their_order : map (λ part. order part (suc part)) (0 ∷ 1 ∷ 2 ∷ 3 ∷ 4 ∷ 5 ∷ 6 ∷ 7 ∷ 8 ∷ 9 ∷ 10 ∷ 11 ∷ 12 ∷ 13 ∷ [])
      ≡ replicate 14 Greater
  unfolding association_cmp attachment_cmp auto_type_cmp content_cmp field_cmp item_cmp
  parts_in_their_order = refl

  same_contents : order 14 14 ≡ Equal
  unfolding association_cmp attachment_cmp auto_type_cmp content_cmp field_cmp item_cmp
  same_contents = refl

  least_and_greatest : order 14 0 ≡ Less
  unfolding association_cmp attachment_cmp auto_type_cmp content_cmp field_cmp item_cmp
  least_and_greatest = refl

-- ---- fields and attachments

-- A shown one is below a hidden one, bytes are below longer ones that begin with them, and keys count first: the first of each pair is
-- below the second.
abbrev rising_pairs : List (Named × Named)
rising_pairs =
    ((codes "a", (codes "a", false)), (codes "a", (codes "a", true)))
    ∷ ((codes "a", (codes "a", true)), (codes "a", (codes "aa", false)))
    ∷ ((codes "a", (codes "aa", true)), (codes "b", ([], false))) ∷ []

fields_in_order : map (λ (pair : Named × Named). on bare_field field_cmp (field pair.0) (field pair.1)) rising_pairs ≡ replicate 3 Less
unfolding field_cmp
fields_in_order = refl

attachments_in_order : (given : Attachment)
    → map (λ (pair : Named × Named). on bare_attachment attachment_cmp (attachment given pair.0) (attachment given pair.1)) rising_pairs
    ≡ replicate 3 Less
unfolding attachment_cmp
attachments_in_order given = refl

-- The entries of an imported file, with the groups that they are in.
use Rattle.std.specs.Prelude.{◌≡◌, ℕ, Bool, true, false, Option, None, Some, List, [], ◌∷◌, ◌++◌, codes}
use Rattle.std.specs.Option.{ForSome}
use Rattle.std.specs.Str.{is_utf8}
use Rattle.doc_resolving.specs.DocForms.Entries.{no_content}
use Rattle.import_ids.specs.Names.{EntryTexts}
use Rattle.vault_model.specs.Bare.{BareContent, BareField}
use Rattle.vault_model.specs.Db.{NodeId, nil_id}
use Rattle.vault_model.specs.Shape.{EntryRecord}
use Rattle.vault_model.specs.Walk.{slash_joined}

-- An entry of an imported file: the names of the groups that it is in, from below the root; the id
-- that the file gives it, if it gives one; its texts; the passwords that it had before, in the form in
-- which the file keeps them, and where its one-time codes come from, if it has them; and when it was
-- made and changed.
pub record ImportedEntry : Type 0 where
  pub groups : List (List ℕ)
  pub id : Option NodeId
  pub title : List ℕ
  pub user : List ℕ
  pub password : List ℕ
  pub url : List ℕ
  pub notes : List ℕ
  pub history : Option (List ℕ)
  pub otp : Option (List ℕ)
  pub created : ℕ
  pub modified : ℕ

-- What tells an entry apart from the others of its file.
abbrev pub texts_of : ImportedEntry → EntryTexts
texts_of entry = record {
  path = slash_joined entry.groups;
  title = entry.title;
  user = entry.user;
  url = entry.url;
}

-- A field of an entry.
abbrev pub field : List ℕ → List ℕ → Bool → BareField
field key value hidden = record { key = key; value = value; hidden = hidden }

-- A hidden field of this key, where there is a text for it.
abbrev pub hidden_field : List ℕ → Option (List ℕ) → List BareField
hidden_field key None = []
hidden_field key (Some text) = field key text true ∷ []

-- The passwords before, where there are some.
abbrev pub history_field : Option (List ℕ) → List BareField
history_field text = hidden_field (codes "PasswordHistory") text

-- The source of one-time codes, where there is one.
abbrev pub otp_field : Option (List ℕ) → List BareField
otp_field text = hidden_field (codes "otp") text

-- The fields of an entry, by their keys.
abbrev pub fields_of : ImportedEntry → List BareField
fields_of entry =
    field (codes "Notes") entry.notes false
    ∷ field (codes "Password") entry.password true
    ∷ (history_field entry.history
    ++ field (codes "Title") entry.title false
    ∷ field (codes "URL") entry.url false
    ∷ field (codes "UserName") entry.user false
    ∷ otp_field entry.otp)

-- All texts of an entry are in UTF-8: its title, its user's name, its password, its URL and its notes,
-- the passwords that it had before and the source of its one-time codes.
pub record AreTexts (a b c d e : List ℕ) (f g : Option (List ℕ)) : Type 0 where
  pub title : is_utf8 a ≡ true
  pub user : is_utf8 b ≡ true
  pub password : is_utf8 c ≡ true
  pub url : is_utf8 d ≡ true
  pub notes : is_utf8 e ≡ true
  pub history : ForSome f (λ text. is_utf8 text ≡ true)
  pub otp : ForSome g (λ text. is_utf8 text ≡ true)

-- What an entry says at a moment that has these fields and was made then; every time is that moment
-- that the file does not give.
abbrev pub content_at : ℕ → ℕ → List BareField → BareContent
content_at now created fields =
    record no_content { created = created; expiry = now; fields = fields }

-- The entry that is made of an imported one at a moment.
abbrev pub entry_at : ℕ → ImportedEntry → EntryRecord
entry_at now entry = record {
  placed = now;
  previous = nil_id;
  current = record {
    mark = record {
      modified = entry.modified;
      content = content_at now entry.created (fields_of entry);
    };
    stats = record { accessed = now; usage = 0 };
  };
  history = [];
}

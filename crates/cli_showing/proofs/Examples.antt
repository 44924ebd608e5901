-- What is shown of a small document: the entry Bank, whose password is hidden and has a reference, with an attachment
-- and a field of its own, and two versions before it; and the group Work with the entry Mail.
use Rattle.std.proofs.Common.{◌≡◌, ℕ, Bool, true, false, List, [], ◌∷◌, ◌++◌, None, Some, Ok, Err, refl}
use Rattle.std.specs.Fmt.{digits}
use Rattle.std.specs.Prelude.{codes, replicate}
use Rattle.doc_spelling.specs.Moments.{moment_at, month_from, year_from}
use Rattle.uuid.specs.Text.{by_index}
use Rattle.vault_model.specs.Bare.{BareAttachment, BareField}
use Rattle.vault_model.specs.Db.{NodeId}
use Rattle.vault_model.specs.Empty.{empty_bare, new_group}
use Rattle.vault_model.specs.Orders.{attachment_cmp, auto_type_cmp, field_cmp}
use Rattle.vault_model.specs.Shape.{BareVersion, EntryRecord}
use Rattle.vault_model.specs.Tree.{BareDoc, beside, node, none}
use Rattle.tree_core.specs.Finding.{entry_found}
use Rattle.find_references.specs.Terms.{term_before, terms_of}
use Rattle.find_references.specs.References.{reference_at}
use Rattle.find_references.specs.Resolved.{resolved}
use Rattle.cli_messages.specs.Messages.{refusal_of}
use Rattle.cli_messages.specs.declared.answers.Reason.TheVariants.{EmptyTerm, NoAttribute, NoResult, NoSuchPath, NoVersion}
use Rattle.cli_showing.specs.Paths.{paths_found}
use Rattle.cli_showing.specs.History.{all_changed, history_shown}
use Rattle.cli_showing.specs.Showing.{entries_shown, entry_shown, paths_or_refusal, version_shown}

abbrev id : ℕ → NodeId
id n = replicate 16 n

abbrev field : List ℕ → List ℕ → Bool → BareField
field key value hidden = record { key = key; value = value; hidden = hidden }

-- A version of these fields, attachments and tags.
abbrev version : (modified : ℕ) → List BareField → List BareAttachment → List ℕ → BareVersion
version modified fields attachments tags = record {
  mark = record {
    modified = modified;
    content = record {
      created = 0;
      expiry = 0;
      expires = false;
      icon = 0;
      custom_icon = None;
      fields = fields;
      attachments = attachments;
      tags = tags;
      fore = [];
      back = [];
      url_override = [];
      auto_type = record { enabled = true; obfuscation = 0; sequence = []; pairs = [] };
      items = [];
      quality = true;
    };
  };
  stats = record { accessed = 0; usage = 0 };
}

-- An entry of these versions.
abbrev entry : BareVersion → List BareVersion → EntryRecord
entry current history = record {
  placed = 0;
  previous = id 0;
  current = current;
  history = history;
}

abbrev note : BareAttachment
note = record { name = codes "note.txt"; bytes = replicate 12 65; hidden = false }

abbrev title : BareField
title = field (codes "Title") (codes "Bank") false

-- The oldest version has no pin. In the next one it is hidden, and the attachment is there.
abbrev bank : EntryRecord
bank = entry
    (version 61 (field (codes "Password") (codes "x{REF:U@T:Mail}") true ∷ field (codes "Pin") (codes "77") false ∷ title ∷ [])
    (note ∷ []) (codes "home"))
    (version 0 (field (codes "Password") (codes "old") true ∷ title ∷ []) [] (codes "home")
    ∷ version 60 (field (codes "Note") (codes "n") false ∷ field (codes "Pin") (codes "77") true ∷ title ∷ []) (note ∷ []) (codes "work") ∷ [])

abbrev doc : BareDoc
doc = record (empty_bare (id 1) 0) {
  tree = node (id 1) (new_group (codes "Root") 0) ((id 2, bank) ∷ [])
      (beside (node (id 4) (new_group (codes "Work") 0)
      ((id 3, entry (version 0 (field (codes "Title") (codes "Mail") false ∷ field (codes "UserName") (codes "me") false ∷ []) [] []) []) ∷ []) none)
      none);
}

abbrev file : List ℕ
file = codes "f"

-- A hidden value is not shown, and a field that the entry lacks is empty.
all_of_bank : entry_shown file false true true [] 0 (codes "/Bank") doc
    ≡ Ok (codes "Title: Bank\nUserName: \nPassword: PROTECTED\nURL: \nNotes: \nPin: 77\n"
    ++ codes "Uuid: {02020202-0202-0202-0202-020202020202}\nTags: home\nAttachments:\n  note.txt (12 bytes)\n")
unfolding entry_shown entry_found resolved reference_at by_index digits
all_of_bank = refl

in_clear : entry_shown file true false false [] 0 (codes "Bank") doc
    ≡ Ok (codes "Title: Bank\nUserName: \nPassword: xme\nURL: \nNotes: \n"
    ++ codes "Uuid: {02020202-0202-0202-0202-020202020202}\nTags: home\n")
unfolding entry_shown entry_found resolved reference_at by_index
in_clear = refl

-- Fields that are named are shown in the order of their names, hidden ones too.
named : entry_shown file false true false (codes "Pin" ∷ codes "Password" ∷ codes "URL" ∷ []) 0 (codes "Bank") doc
    ≡ Ok (codes "77\nxme\n\n")
unfolding entry_shown entry_found resolved reference_at by_index
named = refl

missing : entry_shown file false false false (codes "Pin" ∷ codes "pin" ∷ []) 0 (codes "Bank") doc ≡ Err (refusal_of (NoAttribute (codes "pin")) file)
unfolding entry_shown entry_found by_index
missing = refl

no_entry : entry_shown file false false false (codes "pin" ∷ []) 0 (codes "Work") doc ≡ Err (refusal_of NoSuchPath file)
unfolding entry_shown entry_found by_index
no_entry = refl

-- ---- versions

-- The version 0 of an entry is the entry as it is.
current_shown : (e : NodeId × EntryRecord) → version_shown 0 e ≡ Some e
current_shown e = refl

-- The versions before it are the last of the history and then the one before that.
before_it : entry_shown file true true true [] 1 (codes "Bank") doc
    ≡ Ok (codes "Title: Bank\nUserName: \nPassword: \nURL: \nNotes: \nNote: n\nPin: 77\n"
    ++ codes "Uuid: {02020202-0202-0202-0202-020202020202}\nTags: work\nAttachments:\n  note.txt (12 bytes)\n")
unfolding entry_shown entry_found resolved reference_at by_index digits
before_it = refl

the_oldest : entry_shown file false true true (codes "Password" ∷ []) 2 (codes "Bank") doc ≡ Ok (codes "old\nAttachments:\n")
unfolding entry_shown entry_found resolved reference_at by_index
the_oldest = refl

-- A version that is not there is refused before a field that is not there.
past_the_oldest : entry_shown file false false false (codes "pin" ∷ []) 3 (codes "Bank") doc ≡ Err (refusal_of (NoVersion 3) file)
unfolding entry_shown entry_found by_index
past_the_oldest = refl

not_then : entry_shown file false false false (codes "Pin" ∷ []) 2 (codes "Bank") doc ≡ Err (refusal_of (NoAttribute (codes "Pin")) file)
unfolding entry_shown entry_found by_index
not_then = refl

-- ---- history

-- A field that is new or gone, or is hidden no more, is named, by rising name.
of_bank : history_shown file (codes "/Bank") doc
    ≡ Ok (codes "0  0001-01-01T00:01:01Z  Note, Password, Pin, tags\n"
    ++ codes "1  0001-01-01T00:01:00Z  Note, Password, Pin, tags, attachments\n"
    ++ codes "2  0001-01-01T00:00:00Z  -\n")
unfolding history_shown entry_found by_index digits year_from month_from moment_at attachment_cmp auto_type_cmp field_cmp
of_bank = refl

-- What differs beside the fields is named in this order.
each_part : all_changed (record bank.current.mark.content { created = 1; expiry = 1; icon = 1; attachments = []; tags = []; fore = codes "#0000FF" })
    bank.current.mark.content
    ≡ codes "icon" ∷ codes "tags" ∷ codes "expiry" ∷ codes "attachments" ∷ codes "colours" ∷ codes "other" ∷ []
unfolding field_cmp
each_part = refl

no_history : history_shown file (codes "Work") doc ≡ Err (refusal_of NoSuchPath file)
unfolding history_shown entry_found by_index
no_history = refl

-- ---- searches

-- Paths are in the order of the document, whatever the order of the ids.
in_order : paths_found (id 3 ∷ id 9 ∷ id 2 ∷ []) doc ≡ codes "/Bank\n/Work/Mail\n"
in_order = refl

no_match : paths_or_refusal file [] doc ≡ Err (refusal_of NoResult file)
no_match = refl

no_text : entries_shown file (codes "a t:") doc ≡ Err (refusal_of (EmptyTerm 2) (codes "words"))
unfolding entries_shown terms_of term_before
no_text = refl

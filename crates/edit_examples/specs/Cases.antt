-- An entry of the worked example that is edited, to which something is attached, and of which a
-- version is restored.
use Rattle.std.specs.Prelude.{◌≡◌, ℕ, false, true, List, [], ◌∷◌, codes, None, Some, Ok, Err}
use Rattle.vault_model.specs.Bare.{BareAttachment, BareContent, BareField}
use Rattle.vault_model.specs.Db.{nil_id}
use Rattle.vault_model.specs.Shape.{BareVersion, EntryRecord}
use Rattle.vault_model.specs.Tree.{BareDoc, IsDoc, beside, node, none}
use Rattle.merge_core.specs.Example.{bank, edited, entry, group, home, mail, meta, root, version, work}
use Rattle.tree_core.specs.After.{after_attach, after_detach, after_edit, after_restore, attachment_in}
use Rattle.tree_core.specs.declared.fails.TreeFail.TheVariants.{NameTaken, NoAttachment, NoField, NoVersion}
use Rattle.tree_core.specs.declared.values.Expiry.TheVariants.{At}
use Rattle.tree_core.specs.FurtherChanges.{FurtherChange, no_further_change}
use Rattle.tree_core.specs.NewNodes.{GivenValues, field}

-- the second copy of the worked example with another record of its entry
abbrev pub with_bank : EntryRecord → BareDoc
with_bank e = record {
  tree = node root (group 10 (codes "Root"))
      ((bank, e) ∷ (mail, entry 10 nil_id (version 10 (codes "Mail") []) []) ∷ [])
      (beside (node work (group 10 (codes "Work")) [] none)
      (beside (node home (group 30 (codes "Home")) [] none) none));
  tombs = [];
  meta = meta;
}

-- the entry's first version
abbrev pub first : BareVersion
first = version 10 (codes "Bank") (codes "a")

-- that copy before its entry was edited
abbrev pub unedited : BareDoc
unedited = with_bank (entry 10 nil_id first [])

-- no value is given
abbrev pub no_values : GivenValues
no_values = record {
  title = None;
  user = None;
  password = None;
  url = None;
  notes = None;
  otp = None;
}

-- the notes that the edit gives
abbrev pub new_notes : GivenValues
new_notes = record no_values { notes = Some (codes "b") }

-- The edit at 20 makes the one of the other.
pub record ExampleEdit : Type 0 where
  pub before : IsDoc unedited
  pub after : IsDoc edited
  pub made : after_edit (codes "Bank") new_notes no_further_change 20 unedited ≡ Ok edited

-- ---- fields, tags and expiry

-- what an entry says with these fields and tags, and where it expires at a time
abbrev pub said_with : List BareField → List ℕ → BareContent
said_with fields tags = record first.mark.content { fields = fields; tags = tags }

-- a version made at a time that says this
abbrev pub version_at : ℕ → BareContent → BareVersion
version_at time content = record {
  mark = record { modified = time; content = content };
  stats = record { accessed = time; usage = 0 };
}

-- three fields, of which none is hidden, and two tags
abbrev pub labelled : BareVersion
labelled = version_at 10 (said_with
    (field (codes "Notes") (codes "a") false
    ∷ field (codes "PIN") (codes "1") false
    ∷ field (codes "Title") (codes "Bank") false ∷ [])
    (codes "home;old"))

-- the user is given
abbrev pub new_user : GivenValues
new_user = record no_values { user = Some (codes "me") }

-- two fields get values that are hidden, one of them two; the notes are taken away; a tag is put to
-- the others, one is there already, and one is taken away; and the entry expires at 99
abbrev pub all_changes : FurtherChange
all_changes = record {
  set = (codes "Site", codes "x") ∷ (codes "PIN", codes "2") ∷ (codes "Site", codes "y") ∷ [];
  protect = true;
  unset = codes "Notes" ∷ [];
  tags = codes "new" ∷ codes "home" ∷ [];
  untags = codes "old" ∷ codes "none" ∷ [];
  expiry = Some (At 99);
}

-- what is made of it
abbrev pub relabelled : BareVersion
relabelled = version_at 20 (record (said_with
    (field (codes "PIN") (codes "2") true
    ∷ field (codes "Site") (codes "y") true
    ∷ field (codes "Title") (codes "Bank") false
    ∷ field (codes "UserName") (codes "me") false ∷ [])
    (codes "home;new")) { expires = true; expiry = 99 })

-- the notes are to be taken away, and a field that is not there
abbrev pub one_missing : FurtherChange
one_missing = record no_further_change { unset = codes "Notes" ∷ codes "Nickname" ∷ [] }

-- All of this is changed at 20; and it is refused where the second of the fields that are to be
-- taken away is not there.
pub record ExampleChange : Type 0 where
  pub before : IsDoc (with_bank (entry 10 nil_id labelled []))
  pub after : IsDoc (with_bank (entry 10 nil_id relabelled (labelled ∷ [])))
  pub made : after_edit (codes "Bank") new_user all_changes 20
      (with_bank (entry 10 nil_id labelled []))
      ≡ Ok (with_bank (entry 10 nil_id relabelled (labelled ∷ [])))
  pub missing : after_edit (codes "Bank") new_user one_missing 20
      (with_bank (entry 10 nil_id labelled [])) ≡ Err (NoField 1)

-- ---- attachments

-- a hidden attachment of a name
abbrev pub key_file : List ℕ → BareAttachment
key_file bytes = record { name = codes "key"; bytes = bytes; hidden = true }

-- what the entry says with it
abbrev pub said_keyed : List ℕ → BareContent
said_keyed bytes = record first.mark.content { attachments = key_file bytes ∷ [] }

-- the version with it
abbrev pub keyed : BareVersion
keyed = version_at 20 (said_keyed (codes "k"))

-- the copy with it
abbrev pub with_key : BareDoc
with_key = with_bank (entry 10 nil_id keyed (first ∷ []))

-- the copy where it was replaced
abbrev pub with_other_key : BareDoc
with_other_key = with_bank
    (entry 10 nil_id (version_at 30 (said_keyed (codes "l"))) (first ∷ keyed ∷ []))

-- the copy where it was taken away
abbrev pub without_key : BareDoc
without_key = with_bank
    (entry 10 nil_id (version 30 (codes "Bank") (codes "a")) (first ∷ keyed ∷ []))

-- Something is attached at 20 and taken out; under its name nothing else is attached, but where that
-- is to replace it, at 30; it is taken away at 30, and what is not there is not.
pub record ExampleAttachment : Type 0 where
  pub attached : IsDoc with_key
  pub attach : after_attach (codes "Bank") (codes "key") (codes "k") false 20 unedited ≡ Ok with_key
  pub out : attachment_in (codes "Bank") (codes "key") with_key ≡ Ok (key_file (codes "k"))
  pub taken : after_attach (codes "Bank") (codes "key") (codes "l") false 30 with_key
      ≡ Err NameTaken
  pub replaced : IsDoc with_other_key
  pub replace : after_attach (codes "Bank") (codes "key") (codes "l") true 30 with_key
      ≡ Ok with_other_key
  pub detached : IsDoc without_key
  pub detach : after_detach (codes "Bank") (codes "key") 30 with_key ≡ Ok without_key
  pub absent : after_detach (codes "Bank") (codes "key") 30 unedited ≡ Err NoAttachment

-- ---- a version restored

-- the edited copy, where the entry says again at 30 what it said before the edit, with both versions
-- as its history
abbrev pub restored : BareDoc
restored = with_bank (entry 10 nil_id (version 30 (codes "Bank") (codes "a"))
    (first ∷ version 20 (codes "Bank") (codes "b") ∷ []))

-- The version before the edit, which is number 1 then, is restored at 30; number 2 there is none.
pub record ExampleRestore : Type 0 where
  pub after : IsDoc restored
  pub made : after_restore (codes "Bank") 1 30 edited ≡ Ok restored
  pub past : after_restore (codes "Bank") 2 30 edited ≡ Err (NoVersion 2)

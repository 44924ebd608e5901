-- Documents without what is hidden, and commands that print the same for all that are alike so.
use Rattle.std.specs.Prelude.{◌≡◌, ℕ, Bool, true, false, not, ◌&&◌, ◌||◌, cond, List, [], ◌∷◌, bytes_eq, codes, map, Option, Some, Result, Ok, Err}
use Rattle.std.specs.Option.{option_map}
use Rattle.kdbx_frame.specs.declared.settings.Settings.{Settings}
use Rattle.std.specs.List.{list_all, list_any}
use Rattle.vault_model.specs.Bare.{BareAttachment, BareContent, BareField}
use Rattle.vault_model.specs.Db.{NodeId}
use Rattle.vault_model.specs.Shape.{BareVersion, EntryRecord}
use Rattle.vault_model.specs.Tree.{BareDoc, Tree, Trees, beside, node, none}
use Rattle.tree_core.specs.After.{Holding, entry_named}
use Rattle.find_references.specs.Fields.{fields_of, is_other}
use Rattle.find_references.specs.References.{Piece, byte, pieces, reference}
use Rattle.find_references.specs.Terms.{terms_of}
use Rattle.find_references.specs.declared.terms.SearchField.{SearchField}
use Rattle.find_references.specs.declared.terms.SearchField.TheVariants as field
use Rattle.find_references.specs.declared.terms.Term.{Term}
use Rattle.find_core.specs.Search.{found_in}
use Rattle.cli_messages.specs.declared.answers.Refusal.{Refusal}
use Rattle.cli_needs.specs.declared.command.Command.{Command}
use Rattle.cli_needs.specs.declared.command.Command.TheVariants.{Ls, Show, History, Search, Add, Edit, Restore, ExportAttachment, ImportAttachment, RemoveAttachment, Move, Remove, MakeGroup, RemoveGroup, Merge, Import, Create, Export, EditFile, Info}
use Rattle.cli_printing.specs.Info.{info_shown}
use Rattle.cli_printing.specs.Listing.{group_lines, tree_listed}
use Rattle.cli_showing.specs.Showing.{entries_shown, entry_shown, version_shown}
use Rattle.cli_commands.specs.Commands.{Change, Inputs, change_with, makes_node}

-- ---- documents without what is hidden

-- a password, or a value that is marked hidden; a title is always shown
abbrev pub is_secret : BareField → Bool
is_secret f = not (bytes_eq (codes "Title") f.key)
    && (f.hidden || bytes_eq (codes "Password") f.key)

-- a value that is marked hidden; a title is always shown
abbrev pub is_marked : BareField → Bool
is_marked f = not (bytes_eq (codes "Title") f.key) && f.hidden

-- Some fields are hidden, and titles are not.
abbrev pub ShowsTitles : (BareField → Bool) → Type 0
ShowsTitles p = (f : BareField) → bytes_eq (codes "Title") f.key ≡ true → p f ≡ false

-- a field without its value where that is to be hidden
abbrev pub mask_field : (BareField → Bool) → BareField → BareField
mask_field p f = cond (p f) (record f { value = [] }) f

-- an attachment of the same length, all of zeros
abbrev pub mask_attachment : BareAttachment → BareAttachment
mask_attachment a = record a { bytes = map (λ b. 0) a.bytes }

-- A content whose fields of this kind are empty, and whose attachments are zeros.
abbrev pub mask_content : (BareField → Bool) → BareContent → BareContent
mask_content p c = record c {
  fields = map (mask_field p) c.fields;
  attachments = map mask_attachment c.attachments;
}

-- A version with such a content.
abbrev pub mask_version : (BareField → Bool) → BareVersion → BareVersion
mask_version p v =
    record v { mark = record v.mark { content = mask_content p v.mark.content } }

-- an entry so, its old versions too
abbrev pub mask_entry : (BareField → Bool) → EntryRecord → EntryRecord
mask_entry p e = record e {
  current = mask_version p e.current;
  history = map (mask_version p) e.history;
}

-- An entry so, with its id.
abbrev pub mask_row : (BareField → Bool) → NodeId × EntryRecord → NodeId × EntryRecord
mask_row p r = (r.0, mask_entry p r.1)

abbrev mutual
  -- A group whose entries are so, and those of the groups in it.
  pub mask_tree : (BareField → Bool) → Tree → Tree
  mask_tree p (node u r es ts) = node u r (map (mask_row p) es) (mask_trees p ts)

  -- the same of groups side by side
  pub mask_trees : (BareField → Bool) → Trees → Trees
  mask_trees p none = none
  mask_trees p (beside t ts) = beside (mask_tree p t) (mask_trees p ts)

-- a document so
abbrev pub mask : (BareField → Bool) → BareDoc → BareDoc
mask p d = record d { tree = mask_tree p d.tree }

-- two documents are the same but for what is hidden
abbrev pub LookAlike : (BareField → Bool) → BareDoc → BareDoc → Type 0
LookAlike p d e = mask p d ≡ mask p e

-- ---- laws

-- what `ls` prints of the group that a path names, or of the root; nothing where the path names
-- none
abbrev pub listing : Option (List ℕ) → (recursive flat ids : Bool) → BareDoc → Option (List ℕ)
listing group recursive flat ids d =
    option_map (group_lines recursive flat ids []) (tree_listed group d)

-- `ls` prints, or finds no group, the same
abbrev pub ListingIsBlind : Type 0
ListingIsBlind = (d e : BareDoc) → LookAlike is_secret d e → (group : Option (List ℕ))
    (recursive flat ids : Bool)
    → listing group recursive flat ids d ≡ listing group recursive flat ids e

-- `db-info` prints the same
abbrev pub InfoIsBlind : Type 0
InfoIsBlind = (d e : BareDoc) → LookAlike is_secret d e → (settings : Option Settings)
    → info_shown settings d ≡ info_shown settings e

-- a document looks like itself without what is hidden
abbrev pub MasksLookAlike : Type 0
MasksLookAlike = (d : BareDoc) → LookAlike is_secret (mask is_secret d) d

-- ---- commands

-- What a command makes, but for what is hidden: its refusal, or what it prints, and the document
-- that is written, if one is.
abbrev pub mask_change : (BareField → Bool) → Result Change Refusal → Result Change Refusal
mask_change p (Ok change) = Ok (record change { doc = option_map (mask p) change.doc })
mask_change p (Err refusal) = Err refusal

-- The commands that look at no value but titles: `ls`, `db-info`, `mv`, `rm`, `mkdir` and `rmdir`.
abbrev pub reads_no_value : Command → Bool
reads_no_value (Ls access file group recursive flat ids) = true
reads_no_value (Show access file entry clear all attachments names totp at) = false
reads_no_value (History access file entry) = false
reads_no_value (Search access file term) = false
reads_no_value (Add access file entry asked) = false
reads_no_value (Edit access file entry asked further) = false
reads_no_value (Restore access file entry version) = false
reads_no_value (ExportAttachment access file entry name to) = false
reads_no_value (ImportAttachment access file entry name source replaces) = false
reads_no_value (RemoveAttachment access file entry name) = false
reads_no_value (Move access file word group) = true
reads_no_value (Remove access file entry) = true
reads_no_value (MakeGroup access file group) = true
reads_no_value (RemoveGroup access file group) = true
reads_no_value (Merge access file names from same dry details) = false
reads_no_value (Import access format source from file) = false
reads_no_value (Create access file name cipher kdf) = false
reads_no_value (Export access format file) = false
reads_no_value (EditFile access file change) = false
reads_no_value (Info access file) = true

-- Such a command refuses the same, or prints the same and makes documents that are the same but for
-- what is hidden.
abbrev pub CommandsAreBlind : Type 0
CommandsAreBlind = (d e : BareDoc) → LookAlike is_secret d e → (command : Command)
    → reads_no_value command ≡ true → (time : ℕ) (input : Inputs) (id : NodeId)
    → mask_change is_secret (change_with time command input id d)
    ≡ mask_change is_secret (change_with time command input id e)

-- Such a command makes a node, whose id is drawn, of the one document where it does of the other.
abbrev pub DrawsAreBlind : Type 0
DrawsAreBlind = (d e : BareDoc) → LookAlike is_secret d e → (command : Command)
    → makes_node command d ≡ makes_node command e

-- ---- show

-- a piece of a text is no reference
abbrev pub is_plain_byte : Piece → Bool
is_plain_byte (byte b) = true
is_plain_byte (reference r) = false

-- a text has no references
abbrev pub has_no_reference : List ℕ → Bool
has_no_reference text = list_all is_plain_byte (pieces 0 text)

-- The value of a field is shown: one that is not marked hidden, of the fields that have names of
-- their own, or of all fields.
abbrev pub is_shown : (all : Bool) → BareField → Bool
is_shown all f = not f.hidden && (all || not (is_other f))

-- no value of an entry that is shown has a reference
abbrev pub shows_no_reference : (all : Bool) → EntryRecord → Bool
shows_no_reference all e =
    list_all (λ (f : BareField). not (is_shown all f) || has_no_reference f.value) (fields_of e)

-- Where two documents are the same but for values that are marked hidden and the bytes of
-- attachments, and no value that is shown of a version of the entry that a path names has a
-- reference, `show` prints the same of it, or refuses the same, unless hidden values or single fields
-- are asked for.
abbrev pub ShowIsBlind : Type 0
ShowIsBlind = (d e : BareDoc) → LookAlike is_marked d e → (path file : List ℕ)
    (all attachments : Bool) (at : ℕ)
    → ((held : Holding) (shown : NodeId × EntryRecord) → entry_named path d ≡ Ok held
    → version_shown at held.entry ≡ Some shown → shows_no_reference all shown.1 ≡ true)
    → entry_shown file false all attachments [] at path d
    ≡ entry_shown file false all attachments [] at path e

-- ---- search

-- The keys of the fields that a term without a field's name looks at.
abbrev pub plain_keys : List (List ℕ)
plain_keys = codes "Title" ∷ codes "UserName" ∷ codes "URL" ∷ codes "Notes" ∷ []

-- A term of this kind looks at the value of a field. Tags, and the name of a group, are no fields.
abbrev pub looks_at : SearchField → BareField → Bool
looks_at field.Any f = list_any (λ key. bytes_eq key f.key) plain_keys
looks_at field.Title f = bytes_eq (codes "Title") f.key
looks_at field.UserName f = bytes_eq (codes "UserName") f.key
looks_at field.Password f = bytes_eq (codes "Password") f.key
looks_at field.Url f = bytes_eq (codes "URL") f.key
looks_at field.Notes f = bytes_eq (codes "Notes") f.key
looks_at field.Tags f = false
looks_at field.Group f = false
looks_at field.Attr f = is_other f

-- One of some terms looks at a value of an entry that is hidden.
abbrev pub looks_at_secret : List Term → EntryRecord → Bool
looks_at_secret terms e = list_any (λ (term : Term). list_any
    (λ f. looks_at term.field f && is_secret f) (fields_of e)) terms

-- The terms of a search look at no hidden value of an entry that is searched.
abbrev pub LooksAtNoSecret : List ℕ → BareDoc → Type 0
LooksAtNoSecret words d = (terms : List Term) → terms_of words ≡ Ok terms
    → found_in (λ name. looks_at_secret terms) true d.tree ≡ []

-- Such a search finds the same, or refuses the same, in two documents that are the same but for
-- what is hidden.
abbrev pub SearchIsBlind : Type 0
SearchIsBlind = (d e : BareDoc) → LookAlike is_secret d e → (words : List ℕ)
    → LooksAtNoSecret words d → (file : List ℕ)
    → entries_shown file words d ≡ entries_shown file words e

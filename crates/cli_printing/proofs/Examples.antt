-- What is printed of a small document, by itself and in files; and listings of another.
use Rattle.std.proofs.Common.{◌≡◌, ℕ, true, false, List, [], ◌∷◌, ◌++◌, codes, None, Some, refl, replicate}
use Rattle.std.specs.Fmt.{digits}
use Rattle.uuid.specs.Text.{by_index}
use Rattle.argon_core.specs.declared.params.ArgonKind.TheVariants.{D}
use Rattle.cli_needs.specs.KdbxFrame.declared.settings.Cipher.TheVariants as cipher
use Rattle.cli_needs.specs.KdbxFrame.declared.settings.Settings.{Settings}
use Rattle.cli_needs.specs.KeyCore.declared.kdf.Kdf.TheVariants as kdf
use Rattle.vault_model.specs.Db.{NodeId, nil_id}
use Rattle.vault_model.specs.Empty.{new_group, new_meta}
use Rattle.vault_model.specs.Shape.{BareVersion, EntryRecord}
use Rattle.vault_model.specs.Tree.{BareDoc, Tree, node, none, beside}
use Rattle.vault_model.specs.declared.forms.FileVersion.TheVariants.{V31, V41}
use Rattle.doc_forms.specs.Entries.{no_content}
use Rattle.cli_printing.specs.Info.{file_lines, info_shown, line}
use Rattle.cli_printing.specs.Listing.{group_lines}

abbrev id : ℕ → NodeId
id b = replicate 16 b

abbrev version : BareVersion
version = record {
  mark = record { modified = 0; content = no_content };
  stats = record { accessed = 0; usage = 0 };
}

-- An entry with a history of two versions.
abbrev entry : EntryRecord
entry = record { placed = 0; previous = nil_id; current = version; history = version ∷ version ∷ [] }

-- Two entries in the root, and an empty group.
abbrev two_entries : BareDoc
two_entries = record {
  tree = node (id 1) (new_group (codes "Root") 0) ((id 2, entry) ∷ (id 3, entry) ∷ [])
      (beside (node (id 4) (new_group (codes "Work") 0) [] none) none);
  tombs = [];
  meta = new_meta;
}

plain_document : info_shown None two_entries ≡ codes "Name: \nDescription: \nVersion: plain\nCipher: none\nKDF: none\nGroups: 2\nEntries: 2\nRecycle bin: enabled\n"
unfolding digits line
plain_document = refl

-- 64 MiB, and 1,023 bytes that are not used
abbrev argon_file : Settings
argon_file = record {
  version = V41;
  cipher = cipher.ChaCha;
  kdf = kdf.Argon D 10 67109887 2 [];
  public = None;
}

argon_lines : file_lines (Some argon_file) ≡ codes "Version: 4.1\nCipher: ChaCha20\nKDF: Argon2d (10 passes, 65536 KiB, 2 lanes)\n"
unfolding digits line
argon_lines = refl

abbrev aes_file : Settings
aes_file = record {
  version = V31;
  cipher = cipher.Twofish;
  kdf = kdf.Aes 6000 [];
  public = None;
}

aes_lines : file_lines (Some aes_file) ≡ codes "Version: 3.1\nCipher: Twofish\nKDF: AES (6000 rounds)\n"
unfolding digits line
aes_lines = refl

-- ---- listings

-- An entry that has this title.
abbrev titled : List ℕ → EntryRecord
titled title = record {
  placed = 0;
  previous = nil_id;
  current = record {
    mark = record {
      modified = 0;
      content = record no_content { fields = record { key = codes "Title"; value = title; hidden = false } ∷ [] };
    };
    stats = record { accessed = 0; usage = 0 };
  };
  history = [];
}

-- An entry in the root, and one in a group below it.
abbrev listed_tree : Tree
listed_tree = node (id 1) (new_group (codes "Root") 0) ((id 2, titled (codes "Bank")) ∷ [])
    (beside (node (id 4) (new_group (codes "Work") 0) ((id 3, titled (codes "Mail")) ∷ []) none) none)

names_alone : group_lines true false false [] listed_tree ≡ codes "Bank\nWork/\n  Mail\n"
names_alone = refl

-- The spaces come before the id.
with_ids : group_lines true false true [] listed_tree
    ≡ codes "{02020202-0202-0202-0202-020202020202} Bank\n{04040404-0404-0404-0404-040404040404} Work/\n"
    ++ codes "  {03030303-0303-0303-0303-030303030303} Mail\n"
unfolding by_index
with_ids = refl

-- So does the path, which has no ids.
paths_with_ids : group_lines true true true [] listed_tree
    ≡ codes "{02020202-0202-0202-0202-020202020202} Bank\n{04040404-0404-0404-0404-040404040404} Work/\n"
    ++ codes "Work/{03030303-0303-0303-0303-030303030303} Mail\n"
unfolding by_index
paths_with_ids = refl

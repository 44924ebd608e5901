-- Exports of Bitwarden that are refused, so that the law speaks of something.
use Rattle.std.specs.Prelude.{◌≡◌, ◌+◌, ℕ, List, ◌++◌, codes, replicate, Err}
use Rattle.bitwarden_core.specs.Documents.{bitwarden_document}
use Rattle.bitwarden_forms.specs.declared.fails.BitwardenFail.TheVariants.{DuplicateId, Encrypted, FolderForm, JsonForm, Member, NilId, StampLimit}
use Rattle.time_core.specs.Times.{last_stamp}

-- an export with two items of one id, written with hyphens and without
abbrev pub two_items : List ℕ
two_items = codes "{\"items\":[{\"id\":\"05050505-0505-0505-0505-050505050505\"},"
    ++ codes "{\"id\":\"05050505050505050505050505050505\"}]}"

-- An array; an export that is encrypted; one whose folders are no list, one with a folder without a
-- name; one whose second item has a login that is a text, one whose second item has the nil id, and
-- one with two items of one id; and one with a password that was last used in the last second of the
-- year 9999.
pub record ExampleRefusals : Type 0 where
  pub array : bitwarden_document (codes "[]") 5 ≡ Err JsonForm
  pub encrypted : bitwarden_document (codes "{\"encrypted\":true}") 5 ≡ Err Encrypted
  pub other_folders : bitwarden_document (codes "{\"folders\":{}}") 5 ≡ Err (FolderForm 0)
  pub unnamed : bitwarden_document (codes "{\"folders\":[{\"id\":\"f\"}]}") 5
      ≡ Err (FolderForm 1)
  pub other_login : bitwarden_document (codes "{\"items\":[{},{\"login\":\"a\"}]}") 5
      ≡ Err (Member 2)
  pub nil : bitwarden_document
      (codes "{\"items\":[{},{\"id\":\"00000000-0000-0000-0000-000000000000\"}]}") 5
      ≡ Err (NilId 2)
  pub twice : bitwarden_document two_items 5 ≡ Err (DuplicateId (replicate 16 5))
  pub late : bitwarden_document
      (codes "{\"items\":[{\"passwordHistory\":[{\"lastUsedDate\":\"9999-12-31T23:59:59Z\"}]}]}") 5
      ≡ Err (StampLimit (last_stamp + 1))

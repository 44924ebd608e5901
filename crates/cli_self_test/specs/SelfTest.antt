-- What `selftest` prints.
use Rattle.std.specs.Prelude.{◌-◌, ℕ, Bool, true, false, List, [], ◌∷◌, ◌++◌, codes, length, None, Result, Ok, Err}
use Rattle.std.specs.FinMap.{entries, values}
use Rattle.std.specs.Fmt.{decimal}
use Rattle.std.specs.List.{sum_by}
use Rattle.hex.specs.Hex.{encode_lower}
use Rattle.sha2.specs.Sha256.{sha256}
use Rattle.outside_core.specs.Results.{◌>>=◌}
use Rattle.stream_core.specs.InnerStream.{NoKeystream}
use Rattle.vault_model.specs.declared.forms.DocForm.TheVariants.{Plain}
use Rattle.vault_model.specs.Db.{Db, Versions}
use Rattle.vault_model.specs.Join.{join}
use Rattle.vault_model.specs.Tree.{BareDoc, LEVELS, db_in, lay_doc}
use Rattle.cli_writing.specs.DocWrite.Written.{write_outcome}
use Rattle.cli_writing.specs.DocWrite.declared.writing.WriteFail.{WriteFail}
use Rattle.merge_twins.specs.Twins.{first_twin, second_twin}
use Rattle.cli_messages.specs.Messages.{refusal_of}
use Rattle.cli_messages.specs.declared.answers.Refusal.{Refusal}
use Rattle.cli_writing.specs.Writing.{write_answer}
use Rattle.cli_self_test.specs.declared.counting.Counts.{Counts}

-- ---- how much is in a database

-- How many versions an entry has besides its newest.
abbrev pub earlier_count : Versions → ℕ
earlier_count versions = length (entries versions) - 1

-- How many entries, earlier versions of them, groups and tombstones are in a database.
abbrev pub counts_of : Db → Counts
counts_of m = record {
  entries = length (entries m.entries);
  history = sum_by earlier_count (values m.entries);
  groups = length (entries m.groups);
  tombs = length (entries m.tombs);
}

-- ---- the report

-- A line: a word, and what is said of it.
unfoldable pub line : List ℕ → List ℕ → List ℕ
line word said = word ++ said ++ codes "\n"

-- The lines of what is in a database.
unfoldable pub count_lines : Counts → List ℕ
count_lines counts =
    line (codes "entries ") (decimal counts.entries)
    ++ line (codes "history ") (decimal counts.history)
    ++ line (codes "groups ") (decimal counts.groups)
    ++ line (codes "tombstones ") (decimal counts.tombs)

-- What is printed: by what is in the database, by the hashes of the two documents, and by what
-- became of the first in another merge.
unfoldable pub report : Counts → (first second again : List ℕ) → List ℕ
report counts first second again =
    count_lines counts ++ line (codes "first ") first ++ line (codes "second ") second
    ++ line (codes "again: ") again

-- What became of a document.
abbrev pub change_text : Bool → List ℕ
change_text true = codes "modified"
change_text false = codes "not modified"

-- ---- the documents

-- The two copies of a database of so many entries, made one.
unfoldable pub joined_twins : ℕ → Db
joined_twins count = join (db_in (first_twin count) ∷ db_in (second_twin count) ∷ [])

-- The copies made one and laid over the first.
abbrev pub first_merged : ℕ → BareDoc
first_merged count = lay_doc LEVELS (joined_twins count) (first_twin count)

-- And laid over the second.
abbrev pub second_merged : ℕ → BareDoc
second_merged count = lay_doc LEVELS (joined_twins count) (second_twin count)

-- The SHA-256 of a text in lower-case hexadecimal, or the refusal to write it, which is about the
-- words.
abbrev pub hash_or_refusal : Result (List ℕ) WriteFail → Result (List ℕ) Refusal
hash_or_refusal (Ok text) = Ok (encode_lower (sha256 text))
hash_or_refusal (Err why) = Err (refusal_of (write_answer why) (codes "words"))

-- The hash of the text of a document in the plain form, which hides nothing and has no binaries
-- beside it.
unfoldable pub hash_of : BareDoc → Result (List ℕ) Refusal
hash_of doc = hash_or_refusal (write_outcome Plain NoKeystream None doc)

-- What `selftest` prints of two copies of a database of so many entries.
abbrev pub self_test : ℕ → Result (List ℕ) Refusal
self_test count = do
  first ← hash_of (first_merged count)
  second ← hash_of (second_merged count)
  Ok (report (counts_of (joined_twins count)) first second (change_text false))

-- What writing a document gives: its text, or why it is not written.
use Rattle.std.specs.Prelude.{◌≡◌, ℕ, ◌+◌, ◌≤◌, nat_lt, if◌then◌else◌, Bool, Option, List, [], length, codes, min, Result, Ok, Err}
use Rattle.stream_core.specs.InnerStream.{Keystream}
use Rattle.secret_core.specs.Secret.{SecretBuffer}
use Rattle.vault_model.specs.Tree.{BareDoc}
use Rattle.vault_model.specs.declared.forms.DocForm.{DocForm}
use Rattle.vault_model.specs.declared.forms.DocForm.TheVariants.{V4}
use Rattle.doc_spelling.specs.Documents.{spelled_document}
use Rattle.doc_spelling.specs.Pool.{PoolPair, pool_of}
use Rattle.doc_spelling.specs.Ranges.{count_all, tree_nodes}
use Rattle.doc_write.specs.declared.writing.WriteFail.{WriteFail}
use Rattle.doc_write.specs.declared.writing.WriteFail.TheVariants.{TooMany, TooLarge, NoMemory}

-- what a text has before its outermost element
abbrev pub front_text : List ℕ
front_text = codes "<?xml version=\"1.0\" encoding=\"utf-8\"?>\n"

-- how many bytes the inner field of a binary takes: its number, its length, whether it is hidden,
-- and the binary
abbrev pub binary_len : PoolPair → ℕ
binary_len p = 6 + length p.0

-- how many bytes the pool takes that the file of a document in a form keeps apart from it
abbrev pub pool_len : DocForm → List PoolPair → ℕ
pool_len V4 pool = count_all binary_len pool
pool_len _ pool = 0

-- how many bytes a written document takes, in KDBX 4 with its pool
abbrev pub written_len : DocForm → Keystream → Option (List ℕ) → BareDoc → ℕ
written_len form k hash d = length (spelled_document form k hash d) + pool_len form (pool_of d)

-- a number; the last one of 64 bits is given for every larger one
abbrev pub up_to_u64 : ℕ → ℕ
up_to_u64 n = min n 18446744073709551615

-- what is written of a document whose text is not too long
abbrev pub text_or : DocForm → Keystream → Option (List ℕ) → BareDoc → Result (List ℕ) WriteFail
text_or form k hash d =
    if nat_lt 134086656 (written_len form k hash d)
    then Err (TooLarge (up_to_u64 (written_len form k hash d)))
    else Ok (spelled_document form k hash d)

-- what is written of a document
abbrev pub write_outcome : DocForm → Keystream → Option (List ℕ) → BareDoc
    → Result (List ℕ) WriteFail
write_outcome form k hash d =
    if nat_lt 262144 (tree_nodes d.tree)
    then Err (TooMany (up_to_u64 (tree_nodes d.tree)))
    else text_or form k hash d

-- a call returns what is defined; running out of memory says nothing
abbrev pub Writes : Result SecretBuffer WriteFail → Result (List ℕ) WriteFail → Type 0
Writes (Ok text) defined = defined ≡ Ok text.bytes
Writes (Err NoMemory) defined = Unit {0}
Writes (Err e) defined = defined ≡ Err e

-- A document is written, and its text has this length; with the pool it is within the limit.
pub record IsMeasured (form : DocForm) (k : Keystream) (hash : Option (List ℕ)) (d : BareDoc)
    (len : ℕ) : Type 0 where
  pub outcome : write_outcome form k hash d ≡ Ok (spelled_document form k hash d)
  pub text : len ≡ length (spelled_document form k hash d)
  pub limit : len + pool_len form (pool_of d) ≤ 134086656

-- The length of the text that is written of a document, or why it is not written.
abbrev pub Measures : DocForm → Keystream → Option (List ℕ) → BareDoc → Result ℕ WriteFail → Type 0
Measures form k hash d (Ok len) = IsMeasured form k hash d len
Measures form k hash d (Err e) = write_outcome form k hash d ≡ Err e

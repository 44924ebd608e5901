-- The bytes of attachments: resolved among the binaries to which they refer, and the first
-- reference to none.
use Rattle.std.specs.Prelude.{ℕ, ◌+◌, ◌==◌, ◌&&◌, nat_le, Bool, true, if◌then◌else◌, is_some, Option, Some, None, List, [], ◌∷◌, ◌++◌, map, flat_map, Result, Ok, Err}
use Rattle.vault_model.specs.Bare.{BareAttachment}
use Rattle.vault_model.specs.Db.{NodeId}
use Rattle.vault_model.specs.Shape.{BareVersion, EntryRecord}
use Rattle.vault_model.specs.Tree as vault
use Rattle.vault_model.specs.Tree.{Tree, Trees}
use Rattle.vault_model.specs.declared.forms.DocForm.{DocForm}
use Rattle.vault_model.specs.declared.forms.DocForm.TheVariants.{V4}
use Rattle.doc_forms.specs.declared.fails.DocFail.{DocFail}
use Rattle.doc_forms.specs.declared.fails.DocFail.TheVariants.{BinaryRef}
use Rattle.doc_forms.specs.Entries.{ReadAttachment, ReadSource, own_bytes, pool_number, ReadVersion, ReadEntry}
use Rattle.doc_forms.specs.Groups.{ReadTree, ReadTrees, node, none, beside}
use Rattle.doc_forms.specs.Metas.{ReadBinary}

-- ---- binaries

-- the binaries that the file keeps apart, by their order from a number on
abbrev pub binaries_from : ℕ → List (List ℕ × Bool) → List ReadBinary
binaries_from n [] = []
binaries_from n (item ∷ items) =
    record { number = n; bytes = item.0; hidden = item.1 } ∷ binaries_from (n + 1) items

-- the binaries to which attachments refer: those that the file keeps apart, or the document's own
abbrev pub pool_from : DocForm → List (List ℕ × Bool) → List ReadBinary → List ReadBinary
pool_from V4 given listed = binaries_from 0 given
pool_from _ given listed = listed

-- the last of some binaries that has the number, or else this one
abbrev pub last_of_number : ℕ → Option ReadBinary → List ReadBinary → Option ReadBinary
last_of_number n known [] = known
last_of_number n known (b ∷ bs) = last_of_number n (if b.number == n then Some b else known) bs

-- the binary of a number
abbrev pub binary_of : List ReadBinary → ℕ → Option ReadBinary
binary_of pool n = last_of_number n None pool

-- the binary of an attachment
abbrev pub binary_in : List ReadBinary → ReadSource → Option ReadBinary
binary_in pool (own_bytes bytes) = None
binary_in pool (pool_number offset n) = binary_of pool n

-- ---- the bytes of attachments

-- an attachment with its bytes: of a binary to which it refers both the bytes and whether they are
-- hidden count
abbrev pub with_bytes : ReadAttachment → ReadSource → Option ReadBinary → BareAttachment
with_bytes a (own_bytes bytes) binary = record { name = a.name; bytes = bytes; hidden = a.hidden }
with_bytes a (pool_number offset n) None = record { name = a.name; bytes = []; hidden = a.hidden }
with_bytes a (pool_number offset n) (Some b) = record
    { name = a.name; bytes = b.bytes; hidden = b.hidden }

-- an attachment with the bytes that are its own or those of its binary
abbrev pub resolved_attachment : List ReadBinary → ReadAttachment → BareAttachment
resolved_attachment pool a = with_bytes a a.source (binary_in pool a.source)

-- a version with the bytes of its attachments
abbrev pub resolved_version : List ReadBinary → ReadVersion → BareVersion
resolved_version pool v = record {
  mark = record {
    modified = v.modified;
    content = record v.content { attachments = map (resolved_attachment pool) v.attachments };
  };
  stats = v.stats;
}

-- an entry with the bytes of its attachments
abbrev pub resolved_entry : List ReadBinary → ReadEntry → NodeId × EntryRecord
resolved_entry pool e = (
  e.id,
  record {
    placed = e.placed;
    previous = e.previous;
    current = resolved_version pool e.current;
    history = map (resolved_version pool) e.history;
  },
)

abbrev mutual
  -- a tree with the bytes of its attachments
  pub resolved_tree : List ReadBinary → ReadTree → Tree
  resolved_tree pool (node u r es ts) = vault.node u r (map (resolved_entry pool) es)
      (resolved_trees pool ts)

  -- the same of groups side by side
  pub resolved_trees : List ReadBinary → ReadTrees → Trees
  resolved_trees pool none = vault.none
  resolved_trees pool (beside t ts) = vault.beside (resolved_tree pool t) (resolved_trees pool ts)

-- ---- missing binaries

-- A reference to a binary that does not exist: the offset of the element that refers, and the
-- number.
abbrev pub Missing : Type 0
Missing = ℕ × ℕ

-- what is missing of an attachment's source
abbrev pub missing_source : List ReadBinary → ReadSource → List Missing
missing_source pool (own_bytes bytes) = []
missing_source pool (pool_number offset n) = if is_some (binary_of pool n) then [] else (offset, n)
    ∷ []

-- what is missing of an attachment
abbrev pub missing_attachment : List ReadBinary → ReadAttachment → List Missing
missing_attachment pool a = missing_source pool a.source

-- what is missing of a version
abbrev pub missing_version : List ReadBinary → ReadVersion → List Missing
missing_version pool v = flat_map (missing_attachment pool) v.attachments

-- what is missing of an entry
abbrev pub missing_entry : List ReadBinary → ReadEntry → List Missing
missing_entry pool e = flat_map (missing_version pool) (e.current ∷ e.history)

abbrev mutual
  -- all that is missing in a tree
  pub missing_in : List ReadBinary → ReadTree → List Missing
  missing_in pool (node u r es ts) = flat_map (missing_entry pool) es ++ missing_all pool ts

  -- the same of groups side by side
  pub missing_all : List ReadBinary → ReadTrees → List Missing
  missing_all pool none = []
  missing_all pool (beside t ts) = missing_in pool t ++ missing_all pool ts

-- of one and another, where there is another, the one of the lesser offset
abbrev pub earlier_missing : Missing → Option Missing → Missing
earlier_missing m None = m
earlier_missing m (Some n) = if nat_le m.0 n.0 then m else n

-- the one of the least offset, which is the first in the text
abbrev pub first_missing : List Missing → Option Missing
first_missing [] = None
first_missing (m ∷ ms) = Some (earlier_missing m (first_missing ms))

-- of two that may be missing the one that is first in the text; at one offset the first of the two
abbrev pub first_missing_of : Option Missing → Option Missing → Option Missing
first_missing_of None n = n
first_missing_of (Some m) n = Some (earlier_missing m n)

-- a tree with the bytes of its attachments, and what is missing first
abbrev pub resolved_in : List ReadBinary → ReadTree → Tree × Option Missing
resolved_in pool tree = (resolved_tree pool tree, first_missing (missing_in pool tree))

-- nothing is missing
abbrev pub refuse_missing : Option Missing → Result (Unit {0}) DocFail
refuse_missing None = Ok tt
refuse_missing (Some m) = Err (BinaryRef m.1)

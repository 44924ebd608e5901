-- The bytes of attachments, which a document keeps apart from its entries: each with whether it is
-- hidden, once, in the order in which the written document names them first.
use Rattle.std.specs.Prelude.{ℕ, ◌+◌, Bool, true, false, ◌&&◌, not, if◌then◌else◌, List, [], ◌∷◌, ◌++◌, bytes_eq, map, flat_map}
use Rattle.std.specs.List.{list_any}
use Rattle.vault_model.specs.Bare.{BareAttachment}
use Rattle.vault_model.specs.Db.{NodeId}
use Rattle.vault_model.specs.Shape.{BareVersion, EntryRecord}
use Rattle.vault_model.specs.Tree.{BareDoc, entry_rows}

-- the bytes of an attachment, and whether they are hidden
abbrev pub PoolPair : Type 0
PoolPair = List ℕ × Bool

-- both are hidden, or neither is
abbrev pub same_bool : Bool → Bool → Bool
same_bool true b = b
same_bool false b = not b

-- the same bytes, both hidden or neither
abbrev pub is_pair : PoolPair → PoolPair → Bool
is_pair p q = bytes_eq p.0 q.0 && same_bool p.1 q.1

-- the pairs of a version's attachments
abbrev pub version_pairs : BareVersion → List PoolPair
version_pairs v = map (λ (a : BareAttachment). (a.bytes, a.hidden)) v.mark.content.attachments

-- the pairs of an entry: those of its current version, and then those of its history
abbrev pub entry_pairs : NodeId × EntryRecord → List PoolPair
entry_pairs e = flat_map version_pairs (e.1.current ∷ e.1.history)

-- one more pair at the end of a pool, unless it is there
abbrev pub with_pair : List PoolPair → PoolPair → List PoolPair
with_pair pool p = if list_any (is_pair p) pool then pool else pool ++ p ∷ []

-- more pairs, one after another
abbrev pub with_pairs : List PoolPair → List PoolPair → List PoolPair
with_pairs pool [] = pool
with_pairs pool (p ∷ ps) = with_pairs (with_pair pool p) ps

-- the pool of a document
abbrev pub pool_of : BareDoc → List PoolPair
pool_of d = with_pairs [] (flat_map entry_pairs (entry_rows d.tree))

-- the number of a pair in a pool, from 0 on; of one that is not in it, how many are
abbrev pub number_in : List PoolPair → PoolPair → ℕ
number_in [] p = 0
number_in (q ∷ pool) p = if is_pair p q then 0 else 1 + number_in pool p

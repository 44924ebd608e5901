-- Attached files as they are written among the inner fields.
use Rattle.std.specs.Prelude.{ℕ, List, map}
use Rattle.std.specs.List.{flat_map}
use Rattle.vault_model.specs.declared.forms.PoolItem.{PoolItem}
use Rattle.kdbx_inner.specs.Seen.{binary_seen}
use Rattle.kdbx_writing.specs.Fields.{spelled_field}
use Rattle.kdbx_writing.specs.Inner.{binary_field}

-- The fields of attached files, one after another.
abbrev pub pool_bytes : List PoolItem → List ℕ
pool_bytes pool = flat_map spelled_field (map binary_field (map binary_seen pool))

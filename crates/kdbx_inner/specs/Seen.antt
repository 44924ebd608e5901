-- What is seen of inner fields in memory: their bytes.
use Rattle.std.specs.Prelude.{map, option_map}
use Rattle.vault_model.specs.declared.forms.PoolItem.{PoolItem}
use Rattle.kdbx_inner.specs.declared.inner.Inner.{Inner}
use Rattle.kdbx_inner.specs.declared.inner.InnerRead as read
use Rattle.kdbx_inner.specs.declared.inner.PartialInner as partial
use Rattle.kdbx_inner.specs.Inner as inner

-- An attached file with its bytes.
abbrev pub binary_seen : PoolItem → inner.Binary
binary_seen p = record { bytes = p.bytes.value.bytes; hidden = p.hidden }

-- The inner fields so far.
abbrev pub partial_inner_seen : partial.PartialInner → inner.PartialInner
partial_inner_seen f = record {
  stream_id = f.stream_id;
  stream_key = option_map (λ x. x.now) f.stream_key;
  pool = map binary_seen f.pool;
}

-- The inner fields so far, and the bytes after them.
abbrev pub inner_read_seen : read.InnerRead → inner.InnerRead
inner_read_seen r = record { fields = partial_inner_seen r.found; rest = r.rest.now }

-- The inner fields.
abbrev pub inner_seen : Inner → inner.InnerFields
inner_seen i = record {
  stream_id = i.stream_id;
  stream_key = i.stream_key.bytes;
  pool = map binary_seen i.pool;
  size = i.size;
}

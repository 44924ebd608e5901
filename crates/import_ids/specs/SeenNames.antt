-- What is seen of the texts and the names of entries in memory.
use Rattle.std.specs.Prelude.{ℕ, List}
use Rattle.std.specs.Cmp.{IsTotalOrder, on_total}
use Rattle.std.specs.Cmp.Lexicographic.{nat_list_cmp_total}
use Rattle.std.specs.Ordering.{on}
use Rattle.std.specs.declared.cmp.Ordering.{Ordering}
use Rattle.import_ids.specs.Names.{EntryTexts}
use Rattle.import_ids.specs.declared.names.EntryName.{EntryName}
use Rattle.import_ids.specs.declared.names.EntryTexts as memory
use Rattle.vault_model.specs.Orders.{bytes_cmp}
use Rattle.vault_model.specs.Walk.{slash_joined}

-- The texts of an entry without memory.
abbrev pub texts_seen : memory.EntryTexts → EntryTexts
texts_seen texts = record {
  path = slash_joined texts.groups.now;
  title = texts.title.now;
  user = texts.user.now;
  url = texts.url.now;
}

-- The bytes of a name.
abbrev pub name_bytes : EntryName → List ℕ
name_bytes name = name.bytes.bytes

-- Names by their bytes.
abbrev pub name_cmp : EntryName → EntryName → Ordering
name_cmp = on name_bytes bytes_cmp

-- A total order.
pub name_total : IsTotalOrder name_cmp
name_total = on_total {J = List ℕ} name_bytes nat_list_cmp_total

-- The databases that a program holds, as the databases of the definitions.
use Rattle.std.specs.Prelude.{List, map}
use Rattle.vault_model.specs.Db.{Db, SharedMeta}
use Rattle.merge_tables.specs.declared.databases.Database.{Database}
use Rattle.merge_tables.specs.declared.metas.LentMeta.{LentMeta}

-- the values that every copy shares, each lent by some document
abbrev pub shared_meta : LentMeta → SharedMeta
shared_meta m = record {
  name = m.name.now;
  description = m.description.now;
  user = m.user.now;
  bin = m.bin.now;
  templates = m.templates.now;
  settings = m.settings.now;
  icons = m.icons;
  items = m.items;
}

-- the database that a program's database represents
abbrev pub database : Database → Db
database d = record {
  root = d.root;
  entries = d.entries;
  groups = d.groups;
  places = d.places;
  tombs = d.tombs;
  meta = shared_meta d.meta;
}

-- those of some members
abbrev pub databases : List Database → List Db
databases = map database

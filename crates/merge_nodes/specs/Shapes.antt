-- The documents that a program holds with their nodes side by side, as the shapes of the
-- definitions.
use Rattle.vault_model.specs.declared.metas.Meta.{Meta}
use Rattle.vault_model.specs.Shape.{Shape}
use Rattle.merge_nodes.specs.declared.shapes.Shape.{Shape as LentShape}
use Rattle.merge_nodes.specs.declared.shapes.ShapeMeta.{ShapeMeta}

-- what a document says of itself, each value lent by some document
abbrev pub meta_of : ShapeMeta → Meta
meta_of m = record {
  name = m.name.now;
  description = m.description.now;
  user = m.user.now;
  bin = m.bin.now;
  templates = m.templates.now;
  settings = m.settings.now;
  icons = m.icons.items;
  items = m.items.items;
  view = m.view;
}

-- the shape that a program's document represents
abbrev pub shape : LentShape → Shape
shape s = record {
  root = s.root;
  entries = s.entries;
  groups = s.groups;
  children = s.children;
  tombs = s.tombs;
  meta = meta_of s.meta;
}

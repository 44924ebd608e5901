-- A new database: a root group with nothing in it, and what a database says of itself before
-- anything was changed.
use Rattle.std.specs.Prelude.{ℕ, true, false, List, [], None, codes, negsuc, pos}
use Rattle.vault_model.specs.declared.contents.Tri.TheVariants.{Inherit}
use Rattle.vault_model.specs.declared.metas.Meta.{Meta}
use Rattle.vault_model.specs.declared.metas.MetaSettings.{MetaSettings}
use Rattle.vault_model.specs.declared.metas.MetaView.{MetaView}
use Rattle.vault_model.specs.declared.metas.Protection.{Protection}
use Rattle.vault_model.specs.declared.metas.Timed.{Timed}
use Rattle.vault_model.specs.Db.{NodeId, nil_id}
use Rattle.vault_model.specs.Shape.{GroupRecord, new_view}
use Rattle.vault_model.specs.Tree.{BareDoc, Tree, node, none}

-- a value that was never changed
abbrev pub unchanged : {A : Type 0} → A → Timed A
unchanged x = record { changed = 0; value = x }

-- of a new entry's fields the password alone is hidden
abbrev pub new_protection : Protection
new_protection = record { title = false; user = false; password = true; url = false; notes = false }

-- maintenance after 365 days, no limit (-1) on the age of the key, histories of 10 versions and of
-- 6 MiB, and no order to change the key
abbrev pub new_settings : MetaSettings
new_settings = record {
  color = [];
  days = 365;
  key_rec = negsuc 0;
  key_force = negsuc 0;
  protect = new_protection;
  history_items = pos 10;
  history_size = pos 6_291_456;
  key_force_once = false;
}

-- nothing was looked at
abbrev pub new_meta_view : MetaView
new_meta_view = record { key_changed = 0; last_group = nil_id; last_top = nil_id }

-- no texts, no icons and no items; deleted nodes go into a bin, which is not made yet
abbrev pub new_meta : Meta
new_meta = record {
  name = unchanged [];
  description = unchanged [];
  user = unchanged [];
  bin = unchanged (record { enabled = true; id = nil_id });
  templates = unchanged nil_id;
  settings = unchanged new_settings;
  icons = [];
  items = [];
  view = new_meta_view;
}

-- a group of this name that is made now: all its times are now, it was in no other group, and all
-- else is as in every new group
abbrev pub new_group : List ℕ → ℕ → GroupRecord
new_group name now = record {
  placed = now;
  previous = nil_id;
  state = record {
    modified = now;
    content = record {
      created = now;
      expiry = now;
      expires = false;
      name = name;
      notes = [];
      icon = 48;
      custom_icon = None;
      sequence = [];
      auto_type = Inherit;
      searching = Inherit;
      items = [];
      tags = [];
    };
    stats = record { accessed = now; usage = 0 };
  };
  view = new_view;
}

-- a root group with nothing in it
abbrev pub empty_tree : NodeId → ℕ → Tree
empty_tree root now = node root (new_group (codes "Root") now) [] none

-- the document of a new database
abbrev pub empty_bare : NodeId → ℕ → BareDoc
empty_bare root now = record { tree = empty_tree root now; tombs = []; meta = new_meta }

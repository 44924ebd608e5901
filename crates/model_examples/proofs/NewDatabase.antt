-- A new database, made at 9: a root group with nothing in it, and what KeePass writes for a new database, but for the times.
use Rattle.std.proofs.Common.{◌≡◌, true, false, [], None, replicate, negsuc, pos, codes, refl}
use Rattle.vault_model.specs.declared.contents.Tri.TheVariants.{Inherit}
use Rattle.vault_model.specs.Db.{NodeId, nil_id}
use Rattle.vault_model.specs.Empty.{empty_bare}
use Rattle.vault_model.specs.Tree.{BareDoc, node, none}

abbrev id : NodeId
id = replicate 16 1

abbrev new : BareDoc
new = empty_bare id 9

-- The root is named, shown open, and has no tags; whether its entries are typed and searched is left open.
root_alone : new.tree ≡ node id (record {
  placed = 9;
  previous = nil_id;
  state = record {
    modified = 9;
    content = record {
      created = 9;
      expiry = 9;
      expires = false;
      name = codes "Root";
      notes = [];
      icon = 48;
      custom_icon = None;
      sequence = [];
      auto_type = Inherit;
      searching = Inherit;
      items = [];
      tags = [];
    };
    stats = record { accessed = 9; usage = 0 };
  };
  view = record { expanded = true; top_entry = nil_id };
}) [] none
root_alone = refl

nothing_deleted : new.tombs ≡ []
nothing_deleted = refl

-- There is no bin yet, and deleted nodes are to go into one.
bin : new.meta.bin ≡ record { changed = 0; value = record { enabled = true; id = nil_id } }
bin = refl

unnamed : new.meta.name ≡ record { changed = 0; value = [] }
unnamed = refl

-- 365 days, no limit on the age of the key (-1), passwords hidden, ten older versions of 6 MiB together, and no order to change the key.
settings : new.meta.settings ≡ record {
  changed = 0;
  value = record {
    color = [];
    days = 365;
    key_rec = negsuc 0;
    key_force = negsuc 0;
    protect = record { title = false; user = false; password = true; url = false; notes = false };
    history_items = pos 10;
    history_size = pos 6_291_456;
    key_force_once = false;
  };
}
settings = refl

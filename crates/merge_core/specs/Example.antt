-- Three copies of one database that agree: the first as it was, the second with an edit and a new
-- group, the third with a move and a deletion.
use Rattle.std.specs.Prelude.{ℕ, false, true, List, [], ◌∷◌, None, codes, pos, negsuc}
use Rattle.vault_model.specs.declared.contents.Tri.TheVariants.{Inherit}
use Rattle.vault_model.specs.declared.metas.Meta.{Meta}
use Rattle.vault_model.specs.Db.{NodeId, Db, nil_id}
use Rattle.vault_model.specs.Shape.{BareVersion, EntryRecord, GroupRecord, new_view}
use Rattle.vault_model.specs.Tree.{node, none, beside, BareDoc, db_in}

-- an id by its repeated byte
abbrev pub id : ℕ → NodeId
id b = b ∷ b ∷ b ∷ b ∷ b ∷ b ∷ b ∷ b ∷ b ∷ b ∷ b ∷ b ∷ b ∷ b ∷ b ∷ b ∷ []

-- the root group
abbrev pub root : NodeId
root = id 1

-- an entry
abbrev pub bank : NodeId
bank = id 2

-- another entry
abbrev pub mail : NodeId
mail = id 3

-- a group
abbrev pub work : NodeId
work = id 4

-- another group
abbrev pub home : NodeId
home = id 5

-- a version made at a time, with a title and notes
abbrev pub version : ℕ → List ℕ → List ℕ → BareVersion
version time title notes = record {
  mark = record {
    modified = time;
    content = record {
      created = 10;
      expiry = 10;
      expires = false;
      icon = 0;
      custom_icon = None;
      fields = record { key = codes "Notes"; value = notes; hidden = false } ∷ record
          { key = codes "Title"; value = title; hidden = false } ∷ [];
      attachments = [];
      tags = [];
      fore = [];
      back = [];
      url_override = [];
      auto_type = record { enabled = true; obfuscation = 0; sequence = []; pairs = [] };
      items = [];
      quality = true;
    };
  };
  stats = record { accessed = time; usage = 0 };
}

-- an entry in its group since a time and in another group before, with its current version and those
-- before it
abbrev pub entry : ℕ → NodeId → BareVersion → List BareVersion → EntryRecord
entry placed previous current history = record {
  placed = placed;
  previous = previous;
  current = current;
  history = history;
}

-- a group made and placed at a time, with a name
abbrev pub group : ℕ → List ℕ → GroupRecord
group time name = record {
  placed = time;
  previous = nil_id;
  state = record {
    modified = time;
    content = record {
      created = time;
      expiry = time;
      expires = false;
      name = name;
      notes = [];
      icon = 48;
      custom_icon = None;
      sequence = [];
      auto_type = Inherit;
      searching = Inherit;
      items = [];
      tags = [];
    };
    stats = record { accessed = time; usage = 0 };
  };
  view = new_view;
}

-- what all three say of themselves
abbrev pub meta : Meta
meta = record {
  name = record { changed = 10; value = codes "Family" };
  description = record { changed = 0; value = [] };
  user = record { changed = 0; value = [] };
  bin = record { changed = 0; value = record { enabled = false; id = nil_id } };
  templates = record { changed = 0; value = nil_id };
  settings = record {
    changed = 0;
    value = record {
      color = [];
      days = 365;
      key_rec = negsuc 0;
      key_force = negsuc 0;
      protect = record { title = false; user = false; password = true; url = false; notes = false };
      history_items = pos 10;
      history_size = pos 6291456;
      key_force_once = false;
    };
  };
  icons = [];
  items = [];
  view = record { key_changed = 0; last_group = nil_id; last_top = nil_id };
}

-- the first copy: two entries and a group below the root
abbrev pub as_it_was : BareDoc
as_it_was = record {
  tree = node root (group 10 (codes "Root"))
      ((bank, entry 10 nil_id (version 10 (codes "Bank") (codes "a")) []) ∷
      (mail, entry 10 nil_id (version 10 (codes "Mail") []) []) ∷ [])
      (beside (node work (group 10 (codes "Work")) [] none) none);
  tombs = [];
  meta = meta;
}

-- the second: the notes of one entry were edited at 20, and a group was made at 30
abbrev pub edited : BareDoc
edited = record {
  tree = node root (group 10 (codes "Root"))
      ((
        bank,
        entry 10 nil_id (version 20 (codes "Bank") (codes "b"))
            (version 10 (codes "Bank") (codes "a") ∷ []),
      ) ∷
      (mail, entry 10 nil_id (version 10 (codes "Mail") []) []) ∷ [])
      (beside (node work (group 10 (codes "Work")) [] none)
      (beside (node home (group 30 (codes "Home")) [] none) none));
  tombs = [];
  meta = meta;
}

-- the third: that entry was moved at 25, and the other one was deleted at 40
abbrev pub moved : BareDoc
moved = record {
  tree = node root (group 10 (codes "Root")) []
      (beside (node work (group 10 (codes "Work"))
      ((bank, entry 25 root (version 10 (codes "Bank") (codes "a")) []) ∷ []) none) none);
  tombs = record { id = mail; deleted = 40 } ∷ [];
  meta = meta;
}

-- their databases
abbrev pub copies : List Db
copies = db_in as_it_was ∷ db_in edited ∷ db_in moved ∷ []

-- New entries and groups, and entries with other values.
use Rattle.std.specs.Prelude.{ℕ, Bool, true, false, cond, List, [], ◌∷◌, codes, Option, None, Some}
use Rattle.std.specs.Borrow.{Bor}
use Rattle.std.specs.Option.{option_map, unwrap_or}
use Rattle.std.specs.Str.{bytes_eq}
use Rattle.vault_model.specs.declared.contents.Tri.TheVariants.{No}
use Rattle.vault_model.specs.declared.metas.Protection.{Protection}
use Rattle.vault_model.specs.Bare.{BareContent, BareField}
use Rattle.vault_model.specs.Db.{NodeId, nil_id}
use Rattle.vault_model.specs.Empty.{new_group}
use Rattle.vault_model.specs.Orders.{bytes_cmp}
use Rattle.vault_model.specs.Shape.{BareVersion, EntryRecord, GroupRecord}
use Rattle.vault_model.specs.Tree.{Tree, node, none}
use Rattle.tree_core.specs.declared.values.Values.{Values}
use Rattle.tree_core.specs.InOrder.{put_in_order}

-- The values that an entry is given, each where it is given.
pub record GivenValues : Type 0 where
  pub title : Option (List ℕ)
  pub user : Option (List ℕ)
  pub password : Option (List ℕ)
  pub url : Option (List ℕ)
  pub notes : Option (List ℕ)
  -- what a one-time code is made from; where empty, it is taken away
  pub otp : Option (List ℕ)

-- a value that is lent
abbrev pub lent_value : Option (Bor (List ℕ)) → Option (List ℕ)
lent_value = option_map (λ value. value.now)

-- the values that a call is given
abbrev pub given_values : Values → GivenValues
given_values v = record {
  title = lent_value v.title;
  user = lent_value v.user;
  password = lent_value v.password;
  url = lent_value v.url;
  notes = lent_value v.notes;
  otp = lent_value v.otp;
}

-- ---- a new entry

-- a field, and whether its value is hidden
abbrev pub field : List ℕ → List ℕ → Bool → BareField
field key value hidden = record { key = key; value = value; hidden = hidden }

-- the five fields of every new entry, by rising key; a value that is not given is empty, and what a
-- one-time code is made from is passed over
abbrev pub new_fields : Protection → List ℕ → GivenValues → List BareField
new_fields p title v =
    field (codes "Notes") (unwrap_or v.notes []) p.notes
    ∷ field (codes "Password") (unwrap_or v.password []) p.password
    ∷ field (codes "Title") title p.title
    ∷ field (codes "URL") (unwrap_or v.url []) p.url
    ∷ field (codes "UserName") (unwrap_or v.user []) p.user ∷ []

-- what a new entry says that has these fields
abbrev pub new_content : List BareField → ℕ → BareContent
new_content fields now = record {
  created = now;
  expiry = now;
  expires = false;
  icon = 0;
  custom_icon = None;
  fields = fields;
  attachments = [];
  tags = [];
  fore = [];
  back = [];
  url_override = [];
  auto_type = record { enabled = true; obfuscation = 0; sequence = []; pairs = [] };
  items = [];
  quality = true;
}

-- an entry with one version, all of whose times are now, and which was in no other group
abbrev pub new_entry : List BareField → ℕ → EntryRecord
new_entry fields now = record {
  placed = now;
  previous = nil_id;
  current = record {
    mark = record { modified = now; content = new_content fields now };
    stats = record { accessed = now; usage = 0 };
  };
  history = [];
}

-- ---- an entry with other values

-- fields with another value of a key; a field that was not there is put in its place by rising key,
-- and is hidden or not as it is said
abbrev pub with_value : List ℕ → Bool → List ℕ → List BareField → List BareField
with_value key hidden value fields = put_in_order (λ (f : BareField). bytes_cmp key f.key)
    (field key value hidden) (λ (f : BareField). record f { value = value }) fields

-- the same where a value is given
abbrev pub with_given : List ℕ → Bool → Option (List ℕ) → List BareField → List BareField
with_given key hidden None fields = fields
with_given key hidden (Some value) fields = with_value key hidden value fields

-- fields with those values that are given of the five that every new entry has
abbrev pub with_values : Protection → GivenValues → List BareField → List BareField
with_values p v fields =
    with_given (codes "UserName") p.user v.user (with_given (codes "URL") p.url v.url
    (with_given (codes "Title") p.title v.title (with_given (codes "Password") p.password v.password
    (with_given (codes "Notes") p.notes v.notes fields))))

-- fields without the first of a key; keys rise in a document, so there is no other
abbrev pub without_field : List ℕ → List BareField → List BareField
without_field key [] = []
without_field key (f ∷ fields) = cond (bytes_eq key f.key) fields (f ∷ without_field key fields)

-- fields with what a one-time code is made from, where it is given: the field `otp`, which is
-- hidden whatever it was before, and which an empty text takes away
abbrev pub with_otp : Option (List ℕ) → List BareField → List BareField
with_otp None fields = fields
with_otp (Some []) fields = without_field (codes "otp") fields
with_otp (Some (b ∷ bs)) fields =
    with_value (codes "otp") true (b ∷ bs) (without_field (codes "otp") fields)

-- fields with all values that are given
abbrev pub edited_fields : Protection → GivenValues → List BareField → List BareField
edited_fields p v fields = with_otp v.otp (with_values p v fields)

-- what an entry says, with the values that are given
abbrev pub edited_content : Protection → GivenValues → BareContent → BareContent
edited_content p v content = record content { fields = edited_fields p v content.fields }

-- a version that says this, made and looked at at a time, and used as often as another
abbrev pub new_version : BareContent → ℕ → BareVersion → BareVersion
new_version content time old = record {
  mark = record { modified = time; content = content };
  stats = record { accessed = time; usage = old.stats.usage };
}

-- the version that an edit with these values makes of another
abbrev pub edited_version : Protection → GivenValues → ℕ → BareVersion → BareVersion
edited_version p v time old = new_version (edited_content p v old.mark.content) time old

-- ---- new groups

-- a new group of this name, with nothing in it
abbrev pub empty_group : NodeId → List ℕ → ℕ → Tree
empty_group id name now = node id (new_group name now) [] none

-- a new group as the bin: of an icon and a name of its own, into whose entries nothing is typed and
-- in which nothing is searched
abbrev pub as_bin : GroupRecord → GroupRecord
as_bin g = record g {
  state = record g.state {
    content = record g.state.content { icon = 43; auto_type = No; searching = No };
  };
}

-- a new bin, with nothing in it
abbrev pub empty_bin : NodeId → ℕ → Tree
empty_bin id now = node id (as_bin (new_group (codes "Recycle Bin") now)) [] none

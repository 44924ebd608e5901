-- Groups: what their elements say, and the tree that they make.
use Rattle.std.specs.Prelude.{ℕ, ◌-◌, ◌==◌, Bool, true, false, if◌then◌else◌, Option, Some, None, List, [], ◌∷◌, ◌++◌, codes, bytes_eq, Result, Ok, Err}
use Rattle.text_forms.specs.MarkupGrammar.Elements.{Element, Content, element, last, also, cut, own_text}
use Rattle.vault_model.specs.Db.{NodeId, nil_id}
use Rattle.vault_model.specs.Shape.{GroupRecord}
use Rattle.vault_model.specs.declared.contents.GroupContent.{GroupContent}
use Rattle.vault_model.specs.declared.contents.Tri.TheVariants.{Inherit}
use Rattle.vault_model.specs.declared.nodes.GroupView.{GroupView}
use Rattle.doc_forms.specs.declared.cursor.Cursor.{Cursor}
use Rattle.doc_forms.specs.declared.fails.DocFail.{DocFail}
use Rattle.doc_forms.specs.declared.fails.DocFail.TheVariants.{BadValue, TooDeep}
use Rattle.doc_forms.specs.declared.times.Times.{Times}
use Rattle.doc_forms.specs.Children.{Child, name_of, offset_of, by_name, value, count_node}
use Rattle.doc_forms.specs.ElementTexts.{Setting, text_at_end}
use Rattle.doc_forms.specs.Entries.{ReadEntry, id_or_none, node_id, own_id, entry}
use Rattle.stream_core.specs.OutsideCore.Results.{◌>>=◌}
use Rattle.doc_forms.specs.Refusals.{markup_refusal}
use Rattle.doc_forms.specs.Tables.{no_times, times, custom_data}
use Rattle.doc_forms.specs.Values.{text_in, value_or, id, boolean, choice, number32}

-- A group with its entries and its groups, before the bytes of attachments are resolved.
mutual
  pub data ReadTree : Type 0 where
    node : NodeId → GroupRecord → List ReadEntry → ReadTrees → ReadTree

  -- groups side by side
  pub data ReadTrees : Type 0 where
    none : ReadTrees
    beside : ReadTree → ReadTrees → ReadTrees

-- one group more, after the others
abbrev pub append_tree : ReadTrees → ReadTree → ReadTrees
append_tree none tree = beside tree none
append_tree (beside t ts) tree = beside t (append_tree ts tree)

-- What is known of a group before its end.
pub record GroupParts : Type 0 where
  pub id : Option NodeId
  pub previous : NodeId
  pub times : Times
  pub content : GroupContent
  pub view : GroupView
  pub entries : List ReadEntry
  pub groups : ReadTrees

-- a group of which nothing is known
abbrev pub no_group : GroupParts
no_group = record {
  id = None;
  previous = nil_id;
  times = no_times;
  content = record {
    created = 0;
    expiry = 0;
    expires = false;
    name = [];
    notes = [];
    icon = 48;
    custom_icon = None;
    sequence = [];
    auto_type = Inherit;
    searching = Inherit;
    items = [];
    tags = [];
  };
  view = record { expanded = true; top_entry = nil_id };
  entries = [];
  groups = none;
}

-- what is known with its content changed
abbrev pub with_group_content : (GroupContent → GroupContent) → GroupParts → GroupParts
with_group_content change p = record p { content = change p.content }

-- the children of a group, except for the groups in it
abbrev pub group_rows : Setting → List (List ℕ × Child GroupParts)
group_rows s =
    (codes "UUID", own_id s (λ p u. record p { id = Some u }))
    ∷ (codes "Name", value s text_in (λ p v. with_group_content (λ c. record c { name = v }) p))
    ∷ (codes "Notes", value s text_in (λ p v. with_group_content (λ c. record c { notes = v }) p))
    ∷ (codes "Tags", value s text_in (λ p v. with_group_content (λ c. record c { tags = v }) p))
    ∷ (
      codes "IconID",
      value s (value_or 48 number32) (λ p v. with_group_content (λ c. record c { icon = v }) p),
    )
    ∷ (
      codes "CustomIconUUID",
      value s id_or_none (λ p v. with_group_content (λ c. record c { custom_icon = v }) p),
    )
    ∷ (codes "Times", times s (λ p v. record p { times = v }))
    ∷ (
      codes "IsExpanded",
      value s (value_or true boolean) (λ p v. record p { view = record p.view { expanded = v } }),
    )
    ∷ (
      codes "DefaultAutoTypeSequence",
      value s text_in (λ p v. with_group_content (λ c. record c { sequence = v }) p),
    )
    ∷ (
      codes "EnableAutoType",
      value s (value_or Inherit choice) (λ p v. with_group_content (λ c. record c { auto_type = v })
          p),
    )
    ∷ (
      codes "EnableSearching",
      value s (value_or Inherit choice) (λ p v. with_group_content (λ c. record c { searching = v })
          p),
    )
    ∷ (
      codes "LastTopVisibleEntry",
      value s (value_or nil_id id) (λ p v. record p { view = record p.view { top_entry = v } }),
    )
    ∷ (
      codes "PreviousParentGroup",
      value s (value_or nil_id id) (λ p v. record p { previous = v }),
    )
    ∷ (
      codes "CustomData",
      custom_data s (λ p v. with_group_content (λ c. record c { items = v })
          p),
    )
    ∷ (codes "Entry", entry s (λ p e. record p { entries = p.entries ++ e ∷ [] }))
    ∷ []

-- the group's own record, with its times
abbrev pub record_of : GroupParts → GroupRecord
record_of p = record {
  placed = p.times.placed;
  previous = p.previous;
  state = record {
    modified = p.times.modified;
    content = record p.content {
      created = p.times.created;
      expiry = p.times.expiry;
      expires = p.times.expires;
    };
    stats = record { accessed = p.times.accessed; usage = p.times.usage };
  };
  view = p.view;
}

-- the end of a group that begins at the offset and has this text; one that may not be there is
-- refused
abbrev pub group_end : Setting → Bool → ℕ → List ℕ → List ℕ → GroupParts → Cursor
    → Result (ReadTree × Cursor) DocFail
group_end s fits offset raw text p cursor = do
  y ← text_at_end s offset raw text cursor
  after ← (if fits then count_node y.1 else Err (BadValue offset))
  u ← node_id offset p.id
  Ok (node u (record_of p) p.entries p.groups, after)

abbrev mutual
  -- a group, below which so many levels are allowed
  pub group : Setting → ℕ → Bool → Element → Cursor → Result (ReadTree × Cursor) DocFail
  group s levels fits (element offset name raw content) cursor =
      group_parts s levels content no_group cursor
      >>= λ x. group_end s fits offset raw (own_text content) x.0 x.1

  -- the children of a group
  pub group_parts : Setting → ℕ → Content → GroupParts → Cursor
      → Result (GroupParts × Cursor) DocFail
  group_parts s levels (last text) p cursor = Ok (p, cursor)
  group_parts s levels (also text e more) p cursor =
      (if bytes_eq (name_of e) (codes "Group")
      then (if levels == 0 then Err (TooDeep (offset_of e))
      else (group s (levels - 1) true e cursor >>= λ x. Ok
      (record p { groups = append_tree p.groups x.0 }, x.1)))
      else by_name s (group_rows s) p e cursor)
      >>= λ x. group_parts s levels more x.0 x.1
  group_parts s levels (cut text answer) p cursor = markup_refusal answer

-- a child of a group, below which so many levels are allowed
abbrev pub group_child : Setting → ℕ → Child GroupParts
group_child s levels p e cursor =
    if bytes_eq (name_of e) (codes "Group")
    then (if levels == 0 then Err (TooDeep (offset_of e))
    else (group s (levels - 1) true e cursor >>= λ x. Ok
    (record p { groups = append_tree p.groups x.0 }, x.1)))
    else by_name s (group_rows s) p e cursor

-- Groups, whose start tags were given.
use Rattle.std.specs.Prelude.{ℕ, Bool, if◌then◌else◌, Option, [], ◌∷◌, ◌++◌, Result, Ok, Err}
use Rattle.markup_grammar.specs.Elements.{element}
use Rattle.vault_model.specs.Db.{NodeId}
use Rattle.doc_forms.specs.declared.cursor.Cursor.{Cursor}
use Rattle.doc_forms.specs.declared.fails.DocFail.{DocFail}
use Rattle.doc_forms.specs.declared.fails.DocFail.TheVariants.{BadValue}
use Rattle.doc_forms.specs.ElementTexts.{Setting}
use Rattle.doc_forms.specs.Children.{Child, count_node}
use Rattle.doc_forms.specs.Entries.{entry, node_id}
use Rattle.doc_forms.specs.Groups.{ReadTree, GroupParts, group, node, record_of}
use Rattle.doc_entries.specs.DocWalk.declared.walk.Tag.{Tag}
use Rattle.doc_entries.specs.DocWalk.Steps.{Rest}
use Rattle.outside_core.specs.Results.{◌>>=◌}

-- a group, below which so many levels are allowed
abbrev pub group_step : ℕ → Bool → Tag → Rest ReadTree
group_step levels fits tag s content cursor =
    group s levels fits (element tag.offset tag.name.now tag.attrs.raw.now content) cursor

-- the id of a group that begins at the offset, at its end; one that may not be there is refused
abbrev pub id_at_end : Bool → ℕ → Option NodeId → Cursor → Result (NodeId × Cursor) DocFail
id_at_end fits offset id cursor = do
  after ← (if fits then count_node cursor else Err (BadValue offset))
  u ← node_id offset id
  Ok (u, after)

-- a group that begins at the offset, when its children and its end have been read
abbrev pub whole_group : Bool → ℕ → GroupParts → Cursor → Result (ReadTree × Cursor) DocFail
whole_group fits offset parts cursor = id_at_end fits offset parts.id cursor >>= λ y. Ok
    (node y.0 (record_of parts) parts.entries parts.groups, y.1)

-- an entry of a group, after those that are known
abbrev pub entry_child : Setting → Child GroupParts
entry_child s = entry s (λ p e. record p { entries = p.entries ++ e ∷ [] })

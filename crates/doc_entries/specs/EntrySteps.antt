-- Entries and history items, whose start tags were given.
use Rattle.std.specs.Prelude.{ℕ, Result, Ok}
use Rattle.doc_forms.specs.declared.fails.DocFail.{DocFail}
use Rattle.doc_forms.specs.Entries.{ReadVersion, ReadEntry, EntryParts, entry_of, node_id, history_item_at, entry_at}
use Rattle.outside_core.specs.Results.{◌>>=◌}
use Rattle.doc_walk.specs.declared.walk.Tag.{Tag}
use Rattle.doc_walk.specs.Steps.{Rest}

-- a history item
abbrev pub history_item_step : Tag → Rest ReadVersion
history_item_step tag s content cursor = history_item_at s tag.offset tag.attrs.raw.now content
    cursor

-- an entry
abbrev pub entry_step : Tag → Rest ReadEntry
entry_step tag s content cursor = entry_at s tag.offset tag.attrs.raw.now content cursor

-- an entry that begins at an offset, of which all parts are known
abbrev pub whole_entry : ℕ → EntryParts → Result ReadEntry DocFail
whole_entry offset parts = node_id offset parts.id >>= λ u. Ok (entry_of u parts)

-- The ids of imported entries: their own, or else those that are made of their names.
use Rattle.std.specs.Prelude.{Option, List, [], ◌∷◌, ◌++◌, ℕ}
use Rattle.std.specs.Option.{unwrap_or}
use Rattle.uuid_core.specs.Ids.{named_bytes}
use Rattle.vault_model.specs.Db.{NodeId}
use Rattle.import_ids.specs.Names.{EntryTexts, name_after}

-- What the ids of entries without an id are made in.
abbrev pub entry_space : NodeId
entry_space = 0x2f ∷ 0x0c ∷ 0x7a ∷ 0x54 ∷ 0x31 ∷ 0xb8 ∷ 0x4e ∷ 0x6d
    ∷ 0x9a ∷ 0x02 ∷ 0xc4 ∷ 0x7d ∷ 0x5e ∷ 0x81 ∷ 0x90 ∷ 0xab ∷ []

-- A name-based id of version 5 (RFC 9562, section 5.5).
abbrev pub named_id : NodeId → List ℕ → NodeId
named_id space name = named_bytes space name

-- The id of an entry of these texts: its own, if it has one, and else that of its name, where the
-- entries before it in its source have those texts.
unfoldable pub id_after : List EntryTexts → Option NodeId → EntryTexts → NodeId
id_after before own texts = unwrap_or own (named_id entry_space (name_after before texts))

-- The ids of entries, one after another, where those before them in their source have these texts.
-- Of each its own id is known, if it has one, and its texts.
abbrev pub ids_after : List EntryTexts → List (Option NodeId × EntryTexts) → List NodeId
ids_after before [] = []
ids_after before (entry ∷ entries) =
    id_after before entry.0 entry.1 ∷ ids_after (before ++ entry.1 ∷ []) entries

-- The ids of all entries of a source.
abbrev pub entry_ids : List (Option NodeId × EntryTexts) → List NodeId
entry_ids entries = ids_after [] entries

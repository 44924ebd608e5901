-- When an entry was modified: when its newest version was, whether that is the current one or one of its history.
use Rattle.std.proofs.Common.{◌≡◌, ℕ, List, [], ◌∷◌, map, refl}
use Rattle.vault_model.specs.declared.contents.Attachment.{Attachment}
use Rattle.vault_model.specs.declared.nodes.Entry.{Entry}
use Rattle.vault_model.specs.declared.nodes.Version.{Version}
use Rattle.vault_model.specs.Db.{nil_id}
use Rattle.vault_model.specs.SeenNodes.{entry_record, entry_time}
use Rattle.model_examples.proofs.Versions.{content}

module _ (given : Attachment) where
  abbrev version : ℕ → Version
  version modified = record { modified = modified; content = content given 14; stats = record { accessed = 7; usage = 3 } }

  -- an entry of these times, the current version's first
  abbrev entry : ℕ → List ℕ → Entry
  entry current history =
      record { id = nil_id; placed = 90; previous = nil_id; current = version current; history = map version history }

  alone : entry_time (entry_record (entry 5 [])) ≡ 5
  alone = refl

  current_is_newest : entry_time (entry_record (entry 5 (3 ∷ []))) ≡ 5
  current_is_newest = refl

  older_is_newest : entry_time (entry_record (entry 5 (3 ∷ 9 ∷ 7 ∷ []))) ≡ 9
  older_is_newest = refl

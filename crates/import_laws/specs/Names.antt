-- Names of entries tell them apart.
use Rattle.std.specs.Prelude.{◌≡◌, ◌<◌, ◌^◌, List, length}
use Rattle.import_ids.specs.Names.{EntryTexts, name_after}

-- Texts whose lengths can be counted.
pub record AreShort (texts : EntryTexts) : Type 0 where
  pub path : length texts.path < 2 ^ 64
  pub title : length texts.title < 2 ^ 64
  pub user : length texts.user < 2 ^ 64
  pub url : length texts.url < 2 ^ 64

-- Two entries of whatever sources have one name only where they have the same four texts.
abbrev pub NamesTellApart : Type 0
NamesTellApart = (before after : List EntryTexts) (one other : EntryTexts) → AreShort one
    → AreShort other → name_after before one ≡ name_after after other → one ≡ other

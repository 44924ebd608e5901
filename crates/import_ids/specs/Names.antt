-- The names of imported entries, of which the ids of those are made that have no id.
use Rattle.std.specs.Prelude.{ℕ, ◌+◌, List, ◌++◌, codes, length}
use Rattle.std.specs.Fmt.{decimal}
use Rattle.std.specs.List.{filter}
use Rattle.std.specs.Str.{bytes_eq}

-- What tells an imported entry apart from the others of its source: the names of its groups, from
-- below the root, with a slash between each two; its title; its user's name; its URL.
pub record EntryTexts : Type 0 where
  pub path : List ℕ
  pub title : List ℕ
  pub user : List ℕ
  pub url : List ℕ

-- A text after its length in bytes.
abbrev pub counted : List ℕ → List ℕ
counted text = decimal (length text) ++ codes ":" ++ text

-- The texts of an entry, one after another.
abbrev pub texts_name : EntryTexts → List ℕ
texts_name texts =
    counted texts.path ++ counted texts.title ++ counted texts.user ++ counted texts.url

-- How many of some entries have these texts.
abbrev pub count_of : EntryTexts → List EntryTexts → ℕ
count_of texts entries =
    length (filter (λ (other : EntryTexts). bytes_eq (texts_name texts) (texts_name other)) entries)

-- The name of an entry of these texts, where those before it in its source have these: the texts, and
-- then the number from 1 that it has among the entries with the same texts.
abbrev pub name_after : List EntryTexts → EntryTexts → List ℕ
name_after before texts = texts_name texts ++ decimal (count_of texts before + 1)

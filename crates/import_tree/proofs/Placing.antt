-- Imported entries are placed one after another.
use Rattle.std.proofs.Common.{◌≡◌, ◌<◌, ◌+◌, ◌^◌, ℕ, List, [], ◌∷◌, ◌++◌, length, map, append_assoc, ap, ◌∙◌, arith}
use Rattle.std.proofs.lemmas.List.{length-append, map-append}
use Rattle.import_ids.specs.Counts.{GivesId, HasCounted}
use Rattle.import_ids.specs.Names.{EntryTexts}
use Rattle.import_ids.specs.declared.counts.NameCounts.{NameCounts}
use Rattle.vault_model.specs.Db.{NodeId}
use Rattle.vault_model.specs.Shape.{EntryRecord}
use Rattle.import_tree.specs.Entries.{ImportedEntry, entry_at, texts_of}
use Rattle.import_tree.specs.Placing.{Added, Adds}
use Rattle.import_tree.specs.SeenDrafts.{placed_seen}
use Rattle.import_tree.specs.Trees.{Placed, placed_after, placed_at}
use Rattle.import_tree.specs.declared.drafts.ImportedPlace.{ImportedPlace}

-- the place of an entry
pub placed_is : (now : ℕ) (entry : ImportedEntry) (names : List (List ℕ)) (row : NodeId × EntryRecord) (id : NodeId) (place : Placed) → place ≡ record { now = now; names = names; rows = row ∷ [] }
    → names ≡ entry.groups → row ≡ (id, entry_at now entry) → place ≡ record { now = now; names = entry.groups; rows = (id, entry_at now entry) ∷ [] }
placed_is now entry names row id place is lead made = is ∙ (λ i. record { now = now; names = lead i; rows = made i ∷ [] })

-- one entry is placed
pub added : (now : ℕ) (before : List EntryTexts) (entry : ImportedEntry) (ps qs : List ImportedPlace) (p : ImportedPlace) (id : NodeId) (after : NameCounts)
    → GivesId before entry.id (texts_of entry) id after → qs ≡ ps ++ p ∷ []
    → placed_seen p ≡ record { now = now; names = entry.groups; rows = (id, entry_at now entry) ∷ [] }
    → Added now before entry (map placed_seen ps) (map placed_seen qs) after
added now before entry ps qs p id after given is seen = record {
  placed = ap (map placed_seen) is ∙ map-append placed_seen ps (p ∷ [])
      ∙ ap (λ (q : Placed). map placed_seen ps ++ q ∷ [])
      (seen ∙ ap (λ (u : NodeId). let q : Placed = record { now = now; names = entry.groups; rows = (u, entry_at now entry) ∷ [] } in q) given.id);
  counted = given.counted;
}

-- What is placed so far, with the entries that are left, is all, where those before were counted.
pub record Placing (now : ℕ) (total : List Placed) (all : ℕ) (placed : List Placed) (left : List ImportedEntry) (counts : NameCounts) : Type 0 where
  pub before : List EntryTexts
  pub counted : HasCounted counts before
  pub many : length before + length left ≡ all
  pub total_is : placed ++ placed_after now before left ≡ total

pub placing_more : (now : ℕ) (total : List Placed) (all : ℕ) (placed more : List Placed) (entry : ImportedEntry) (left : List ImportedEntry) (counts after : NameCounts)
    → all < 2 ^ 64 → Placing now total all placed (entry ∷ left) counts → Adds now entry counts placed after more → Placing now total all more left after
placing_more now total all placed more entry left counts after fits so_far adds =
    let many = so_far.many in
    let step = adds so_far.before so_far.counted (omega (arith, fits, many)) in
    let longer = length-append so_far.before (texts_of entry ∷ []) in
    record {
      before = so_far.before ++ texts_of entry ∷ [];
      counted = step.counted;
      many = omega (arith, many, longer);
      total_is = ap (λ ps. ps ++ placed_after now (so_far.before ++ texts_of entry ∷ []) left) step.placed
          ∙ append_assoc placed (placed_at now so_far.before entry ∷ []) (placed_after now (so_far.before ++ texts_of entry ∷ []) left)
          ∙ so_far.total_is;
    }

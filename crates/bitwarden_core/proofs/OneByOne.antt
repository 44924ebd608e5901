-- Items placed, one after another.
use Rattle.std.proofs.Common.{◌≡◌, ℕ, ◌+◌, ◌-◌, ◌^◌, ◌<◌, List, [], ◌∷◌, ◌++◌, Result, Ok, Err, length, map, get_or, drop, refl, sym, ap, subst, ◌∙◌, arith, append_assoc, append-nil}
use Rattle.std.proofs.lemmas.List.{drop_more, length-append, map-append}
use Rattle.bitwarden_core.specs.Folders.{item_groups}
use Rattle.bitwarden_core.specs.Placing.{entry_place, placed_item, placed_items, texts_of, with_places}
use Rattle.bitwarden_core.specs.Steps.{PlacedNext, PlacesNext, all_seen}
use Rattle.bitwarden_forms.specs.Kinds.{given_id}
use Rattle.bitwarden_forms.specs.Refusals.{meaning_of}
use Rattle.bitwarden_forms.specs.declared.fails.BitwardenFail.{BitwardenFail}
use Rattle.bitwarden_items.specs.Versions.{entry_modified, in_time, item_row, modified_at}
use Rattle.import_ids.specs.Counts.{GivesId, HasCounted}
use Rattle.import_ids.specs.Names.{EntryTexts}
use Rattle.import_ids.specs.declared.counts.NameCounts.{NameCounts}
use Rattle.bitwarden_forms.specs.ImportTree.SeenDrafts.{placed_seen}
use Rattle.bitwarden_forms.specs.ImportTree.Trees.{Placed}
use Rattle.bitwarden_forms.specs.ImportTree.declared.drafts.ImportedPlace.{ImportedPlace}
use Rattle.outside_core.specs.Results.{◌>>=◌, Fails, Meaning, exact, free, never}
use Rattle.serde_json.specs.Data.{Data}
use Rattle.serde_json.specs.View.{view}
use Rattle.serde_json.specs.declared.value.Value.{Value}
use Rattle.vault_model.specs.Db.{NodeId}
use Rattle.vault_model.specs.Shape.{EntryRecord}

-- a refusal of the first of two computations is one of both
pub fails_then : {A B : Type 0} (m : Meaning BitwardenFail) (x : Result A BitwardenFail) (f : A → Result B BitwardenFail) → Fails m x → Fails m (x >>= f)
fails_then (exact e) x f h = ap (λ r. r >>= f) h
fails_then free x f h = tt
fails_then never x f h = h

-- one item is placed
pub item_placed : (now : ℕ) (folders : List Data) (before : List EntryTexts) (item : Data) (ps qs : List ImportedPlace) (p : ImportedPlace) (names : List (List ℕ)) (id : NodeId) (after : NameCounts)
    → GivesId before (given_id item) (texts_of folders item) id after → qs ≡ ps ++ p ∷ []
    → names ≡ item_groups folders item → entry_place now names id item ≡ Ok (placed_seen p)
    → PlacedNext now folders before item (all_seen ps) (all_seen qs) after
item_placed now folders before item ps qs p names id after given_member is lead place = record {
  entry = placed_seen p;
  is = ap (λ (u : NodeId). entry_place now (item_groups folders item) u item) (sym given_member.id)
      ∙ ap (λ (ns : List (List ℕ)). entry_place now ns id item) (sym lead) ∙ place;
  placed = ap all_seen is ∙ map-append placed_seen ps (p ∷ []);
  counted = given_member.counted;
}

-- the id of an item's entry is the one that it was given
row_of : (r : Result ℕ BitwardenFail) (id : NodeId) (made : ℕ → EntryRecord) (row : NodeId × EntryRecord)
    → (r >>= λ (m : ℕ). let row_made : Result (NodeId × EntryRecord) BitwardenFail = Ok (id, made m) in row_made) ≡ Ok row → row.0 ≡ id
row_of (Ok m) id made row e = let same : (id, made m) ≡ row = cc e in ap (λ (r : NodeId × EntryRecord). r.0) (sym same)
row_of (Err refusal) id made row e = absurd (cc e)

pub entry_id : (now : ℕ) (id : NodeId) (item : Data) (row : NodeId × EntryRecord) → item_row now id item ≡ Ok row → row.0 ≡ id
entry_id now id item row e = row_of (in_time (modified_at now item)) id (entry_modified now item) row e

-- What is placed so far, with the items that are left, is all, where those before were counted.
pub record Placing (now : ℕ) (folders : List Data) (total : Result (List Placed) BitwardenFail) (all : ℕ) (placed : List Placed) (left : List Data) (counts : NameCounts) : Type 0 where
  pub before : List EntryTexts
  pub counted : HasCounted counts before
  pub many : length before + length left ≡ all
  pub total_is : with_places placed (placed_items now folders before left) ≡ total

after_one : (placed : List Placed) (p : Placed) (rest : Result (List Placed) BitwardenFail) → with_places placed (rest >>= λ more. Ok (p ∷ more)) ≡ with_places (placed ++ p ∷ []) rest
after_one placed p (Ok more) = ap (λ (ps : List Placed). let made : Result (List Placed) BitwardenFail = Ok ps in made) (sym (append_assoc placed (p ∷ []) more))
after_one placed p (Err e) = refl

module _ (now : ℕ) (folders : List Data) (total : Result (List Placed) BitwardenFail) (all : ℕ) (placed : List Placed) (item : Data) (left : List Data) (counts : NameCounts) (fits : all < 2 ^ 64)
    (so_far : Placing now folders total all placed (item ∷ left) counts) where
  abbrev rest : Result (List Placed) BitwardenFail
  rest = placed_items now folders (so_far.before ++ texts_of folders item ∷ []) left

  few : length so_far.before < 2 ^ 64 - 1
  few = let many = so_far.many in omega (arith, fits, many)

  pub placing_more : (more : List Placed) (after : NameCounts) (u : Unit {0}) → PlacesNext now folders item counts placed after more (Ok u) → Placing now folders total all more left after
  placing_more more after u places =
      let many = so_far.many in
      let step = places so_far.before so_far.counted few in
      let longer = length-append so_far.before (texts_of folders item ∷ []) in
      record {
        before = so_far.before ++ texts_of folders item ∷ [];
        counted = step.counted;
        many = omega (arith, many, longer);
        total_is = ap (λ (ps : List Placed). with_places ps rest) step.placed
            ∙ sym (after_one placed step.entry rest)
            ∙ ap (λ (x : Result Placed BitwardenFail). with_places placed (x >>= λ p. rest >>= λ more. Ok (p ∷ more))) (sym step.is)
            ∙ so_far.total_is;
      }

  pub placing_refused : (more : List Placed) (after : NameCounts) (e : BitwardenFail) → PlacesNext now folders item counts placed after more (Err e) → Fails (meaning_of e) total
  placing_refused more after e places =
      let step = places so_far.before so_far.counted few in
      subst (Fails (meaning_of e)) so_far.total_is
      (fails_then (meaning_of e) (placed_items now folders so_far.before (item ∷ left)) (λ ps. Ok (placed ++ ps))
      (fails_then (meaning_of e) (placed_item now folders so_far.before item) (λ p. rest >>= λ ps. Ok (p ∷ ps)) step))

-- all are placed
pub placing_done : (now : ℕ) (folders : List Data) (total : Result (List Placed) BitwardenFail) (all : ℕ) (placed : List Placed) (counts : NameCounts) → Placing now folders total all placed [] counts → total ≡ Ok placed
placing_done now folders total all placed counts so_far = sym so_far.total_is ∙ ap (λ (ps : List Placed). let made : Result (List Placed) BitwardenFail = Ok ps in made) (append-nil placed)

-- the items from a place on, the first of them apart
pub item_at : (items : List Value) (at : ℕ) (item : Value) → at < length items → item ≡ get_or items at item → map view (drop at items) ≡ view item ∷ map view (drop (at + 1) items)
item_at items at item less is = ap (map view) (drop_more items at item less) ∙ ap (λ v. view v ∷ map view (drop (at + 1) items)) (sym is)

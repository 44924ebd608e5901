-- Searches of a small document: the entries Bank and Mail in the root, and below it the group Work, which is not
-- searched, with an entry Bank.
use Rattle.std.proofs.Common.{◌≡◌, ℕ, Bool, true, false, List, [], ◌∷◌, None, refl}
use Rattle.std.specs.Prelude.{codes, replicate}
use Rattle.std.specs.Str.{chars, is_utf8}
use lib.Utf8.{encode}
use Rattle.caseless.proofs.Computing.{caseless}
use Rattle.vault_model.specs.Bare.{BareField}
use Rattle.vault_model.specs.declared.contents.Tri.{Tri}
use Rattle.vault_model.specs.declared.contents.Tri.TheVariants.{Inherit, No, Yes}
use Rattle.vault_model.specs.Db.{NodeId}
use Rattle.vault_model.specs.Empty.{empty_bare, new_group}
use Rattle.vault_model.specs.Shape.{EntryRecord, GroupRecord}
use Rattle.vault_model.specs.Tree.{BareDoc, beside, node, none}
use Rattle.find_references.specs.declared.terms.SearchField.{SearchField}
use Rattle.find_references.specs.declared.terms.SearchField.TheVariants.{Any, Title, Attr, Group}
use Rattle.find_references.specs.declared.terms.Term.{Term}
use Rattle.find_core.specs.Folding.{case_folded}
use Rattle.find_core.specs.Search.{entries_found}

abbrev id : ℕ → NodeId
id n = replicate 16 n

abbrev field : List ℕ → List ℕ → BareField
field key value = record { key = key; value = value; hidden = false }

-- An entry of these fields.
abbrev entry : List BareField → EntryRecord
entry fields = record {
  placed = 0;
  previous = id 0;
  current = record {
    mark = record {
      modified = 0;
      content = record {
        created = 0;
        expiry = 0;
        expires = false;
        icon = 0;
        custom_icon = None;
        fields = fields;
        attachments = [];
        tags = codes "home;Bad";
        fore = [];
        back = [];
        url_override = [];
        auto_type = record { enabled = true; obfuscation = 0; sequence = []; pairs = [] };
        items = [];
        quality = true;
      };
    };
    stats = record { accessed = 0; usage = 0 };
  };
  history = [];
}

-- A group that says so whether it is searched.
abbrev group : Tri → List ℕ → GroupRecord
group searching name =
    let new = new_group name 0 in
    record new { state = record new.state { content = record new.state.content { searching = searching } } }

abbrev doc : BareDoc
doc = record (empty_bare (id 1) 0) {
  tree = node (id 1) (group Inherit (codes "Root"))
      ((id 2, entry (field (codes "Title") (codes "Bank") ∷ []))
      ∷ (id 3, entry (field (codes "Pin") (codes "77") ∷ field (codes "Title") (codes "Mail") ∷ [])) ∷ [])
      (beside (node (id 4) (group No (codes "Work"))
      ((id 5, entry (field (codes "Title") (codes "Bank") ∷ [])) ∷ [])
      (beside (node (id 6) (group Yes (codes "Shared")) ((id 7, entry (field (codes "Title") (codes "BANK") ∷ [])) ∷ []) none) none)) none);
}

abbrev term : Bool → Bool → SearchField → List ℕ → Term
term not whole field text = record { not = not; whole = whole; field = field; text = text }

-- Letters in any case, and one letter that folds to two.
sharp_s : case_folded (0xC3 ∷ 0x9F ∷ 0x53 ∷ []) ≡ codes "sss"
unfolding case_folded caseless chars is_utf8 encode
sharp_s = refl

bank : entries_found (term false false Title (codes "ba") ∷ []) doc ≡ id 2 ∷ id 7 ∷ []
unfolding entries_found case_folded caseless chars is_utf8 encode
bank = refl

-- All terms must match, and "not" turns one around.
not_bank : entries_found (term true true Title (codes "bank") ∷ term false false Any (codes "HOME") ∷ []) doc ≡ id 3 ∷ []
unfolding entries_found case_folded caseless chars is_utf8 encode
not_bank = refl

by_other_field : entries_found (term false true Attr (codes "77") ∷ []) doc ≡ id 3 ∷ []
unfolding entries_found case_folded caseless chars is_utf8 encode
by_other_field = refl

by_group : entries_found (term false false Group (codes "shar") ∷ []) doc ≡ id 7 ∷ []
unfolding entries_found case_folded caseless chars is_utf8 encode
by_group = refl

nothing : entries_found (term false false Any (codes "zz") ∷ []) doc ≡ []
unfolding entries_found case_folded caseless chars is_utf8 encode
nothing = refl

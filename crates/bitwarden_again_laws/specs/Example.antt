-- An export of which the laws speak.
use Rattle.std.specs.Prelude.{◌≡◌, ◌≢◌, ℕ, List, Ok, codes}
use Rattle.bitwarden_core.specs.Documents.{bitwarden_document}
use Rattle.history_laws.specs.Current.{current_view}
use Rattle.vault_model.specs.Tree.{BareDoc, IsDoc, db_in}

-- an export with one item
abbrev pub one_item : List ℕ
one_item =
    codes "{\"items\":[{\"id\":\"05050505-0505-0505-0505-050505050505\",\"name\":\"a\"}]}"

-- It is imported at two moments. Each of the documents keeps what every document keeps, and what is
-- current differs, so that a merge of the two has to choose.
pub record ExampleIsImported : Type 0 where
  pub one : BareDoc
  pub other : BareDoc
  pub first : bitwarden_document one_item 1 ≡ Ok one
  pub second : bitwarden_document one_item 2 ≡ Ok other
  pub one_doc : IsDoc one
  pub other_doc : IsDoc other
  pub differ : current_view (db_in one) ≢ current_view (db_in other)

-- The entries that are searched for, before it is asked whether there is one.
use Rattle.std.specs.Prelude.{ℕ, List, Result, Ok}
use Rattle.outside_core.specs.Results.{◌>>=◌}
use Rattle.find_references.specs.Terms.{terms_of}
use Rattle.find_references.specs.declared.fail.FindFail.{FindFail}
use Rattle.find_core.specs.Search.{entries_found}
use Rattle.vault_model.specs.Db.{NodeId}
use Rattle.vault_model.specs.Tree.{BareDoc}

-- The ids of the entries that match the terms in a text.
abbrev pub entries_sought : List ℕ → BareDoc → Result (List NodeId) FindFail
entries_sought words doc = terms_of words >>= λ terms. Ok (entries_found terms doc)

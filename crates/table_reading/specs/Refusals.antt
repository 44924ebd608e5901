-- Why a table gives no document.
use Rattle.std.specs.Prelude.{Result, Ok, Err}
use Rattle.import_tree.specs.declared.fails.TreeFail.{TreeFail}
use Rattle.import_tree.specs.declared.fails.TreeFail.TheVariants as tree
use Rattle.outside_core.specs.Results as results
use Rattle.outside_core.specs.Results.{Meaning, exact, free}
use Rattle.table_reading.specs.declared.fails.TableFail.{TableFail}
use Rattle.table_reading.specs.declared.fails.TableFail.TheVariants as fail

-- the refusal of a tree
abbrev pub of_tree : TreeFail → TableFail
of_tree (tree.DuplicateId id) = fail.DuplicateId id
of_tree (tree.TooDeep id) = fail.TooDeep id
of_tree tree.NoMemory = fail.NoMemory

-- what a tree gives, as a table gives it
abbrev pub as_table : {A : Type 0} → Result A TreeFail → Result A TableFail
as_table (Ok x) = Ok x
as_table (Err refusal) = Err (of_tree refusal)

-- What a refusal says of what is defined: that this is its refusal, but running out of memory says
-- nothing.
abbrev pub meaning_of : TableFail → Meaning TableFail
meaning_of fail.NoMemory = free
meaning_of refusal = exact refusal

-- what a call returns is what is defined, seen without memory
abbrev pub Returns : {X Y : Type 0} → (X → Y) → Result X TableFail → Result Y TableFail → Type 0
Returns view result defined = results.Returns meaning_of view result defined

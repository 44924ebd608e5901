-- Plain files of the worked example's documents, and words that merge them.
use Rattle.std.specs.Prelude.{ℕ, List, [], ◌∷◌, None, codes, map}
use Rattle.std.specs.FinMap.{empty, insert}
use Rattle.outside_core.specs.Files.{FileMap}
use Rattle.stream_core.specs.InnerStream.{NoKeystream}
use Rattle.vault_model.specs.Db.{Db}
use Rattle.vault_model.specs.Tree.{BareDoc}
use Rattle.vault_model.specs.declared.forms.DocForm.TheVariants.{Plain}
use Rattle.merge_core.specs.Example.{as_it_was, copies, edited, moved}
use Rattle.doc_spelling.specs.Documents.{spelled_document}
use Rattle.merge_examples.specs.Cases.{bare}
use Rattle.keepass_call.specs.Merges.{IsAgreedMerge, IsMergeAgain}
use Rattle.keepass_call.specs.Outcome.{World}

-- the bytes of a document's plain file
abbrev pub plain_bytes : BareDoc → List ℕ
plain_bytes d = spelled_document Plain NoKeystream None d

-- the three copies of the worked example, each in a file
abbrev pub three_files : FileMap
three_files = insert (insert (insert empty (codes "a.xml") (plain_bytes as_it_was))
    (codes "b.xml") (plain_bytes edited)) (codes "c.xml") (plain_bytes moved)

-- the second and the third are merged into the first
abbrev pub merge_three : List (List ℕ)
merge_three = codes "merge" ∷ codes "--plain" ∷ codes "a.xml" ∷ codes "b.xml" ∷ codes "c.xml" ∷ []

-- there is no input, and nothing to draw
abbrev pub world_of : FileMap → World
world_of files = record { files = files; input = []; dice = [] }

-- they meet the premise of the part `agreed_merge` of a call, at every moment
abbrev pub ThreeFilesAgree : Type 0
ThreeFilesAgree = (time : ℕ) → IsAgreedMerge merge_three time (world_of three_files)
    (map (λ (m : Db). m ∷ []) copies)

-- two files of the document that has nothing in its root group
abbrev pub two_files : FileMap
two_files = insert (insert empty (codes "a.xml") (plain_bytes bare)) (codes "b.xml")
    (plain_bytes bare)

-- the second is merged into the first
abbrev pub merge_two : List (List ℕ)
merge_two = codes "merge" ∷ codes "--plain" ∷ codes "a.xml" ∷ codes "b.xml" ∷ []

-- they meet the premise of the part `merge_again` of a call, at every moment
abbrev pub TwoFilesAreMerged : Type 0
TwoFilesAreMerged = (time : ℕ) → IsMergeAgain merge_two time (world_of two_files)

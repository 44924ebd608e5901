-- The line that reports an attachment that was taken away, by its parts.
use Rattle.std.proofs.Common.{◌≡◌, ◌∙◌, ℕ, List, [], ◌∷◌, ◌++◌, Result, Ok, Err, ap, sym, refl, append_assoc, append-nil}
use Rattle.std.specs.Prelude.{IfOk, false, codes}
use Rattle.secret_core.specs.Secret.{SecretBuffer}
use Rattle.cli_changes.specs.Attachments.{removal_report}

two_words : codes "Successfully " ++ codes "removed attachment " ≡ codes "Successfully removed attachment "
two_words = refl

begins_so : (rest : List ℕ) → codes "Successfully " ++ ((codes "removed attachment " ++ rest) ++ codes ".\n") ≡ codes "Successfully removed attachment " ++ (rest ++ codes ".\n")
begins_so rest = ap (λ (x : List ℕ). codes "Successfully " ++ x) (append_assoc (codes "removed attachment ") rest (codes ".\n"))
    ∙ sym (append_assoc (codes "Successfully ") (codes "removed attachment ") (rest ++ codes ".\n"))
    ∙ ap (λ (x : List ℕ). x ++ (rest ++ codes ".\n")) two_words

ends_so : (name path : List ℕ)
    → codes "Successfully " ++ ((codes "removed attachment " ++ (name ++ (codes " from entry " ++ (path ++ [])))) ++ codes ".\n") ≡ removal_report false path name
ends_so name path =
    ap (λ (p : List ℕ). codes "Successfully " ++ ((codes "removed attachment " ++ (name ++ (codes " from entry " ++ p))) ++ codes ".\n")) (append-nil path)
    ∙ begins_so (name ++ (codes " from entry " ++ path))
    ∙ ap (λ (x : List ℕ). codes "Successfully removed attachment " ++ x)
    (append_assoc name (codes " from entry " ++ path) (codes ".\n") ∙ ap (λ (x : List ℕ). name ++ x) (append_assoc (codes " from entry ") path (codes ".\n")))
    ∙ sym (append_assoc ((codes "Successfully removed attachment " ++ name) ++ codes " from entry ") path (codes ".\n")
    ∙ append_assoc (codes "Successfully removed attachment " ++ name) (codes " from entry ") (path ++ codes ".\n")
    ∙ append_assoc (codes "Successfully removed attachment ") name (codes " from entry " ++ (path ++ codes ".\n")))

pub removal_line : {E : Type 0} (r : Result SecretBuffer E) (a b name path : List ℕ) → a ≡ name → b ≡ path
    → IfOk r (λ text. text.bytes ≡ codes "Successfully " ++ (codes "removed attachment " ++ (a ++ (codes " from entry " ++ (b ++ [])))) ++ codes ".\n")
    → IfOk r (λ text. text.bytes ≡ removal_report false path name)
removal_line (Ok text) a b name path e f h =
    h ∙ (λ i. codes "Successfully " ++ ((codes "removed attachment " ++ (e i ++ (codes " from entry " ++ (f i ++ [])))) ++ codes ".\n")) ∙ ends_so name path
removal_line (Err fail) a b name path e f h = tt

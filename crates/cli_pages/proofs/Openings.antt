-- Words that open a session ask for no page.
use Rattle.std.proofs.Common.{◌≡◌, ℕ, Bool, true, false, List, [], ◌∷◌, codes, bytes_eq, Option, Some, None, refl, subst}
use Rattle.std.specs.Prelude.{if◌then◌else◌}
use Rattle.std.proofs.lemmas.Slice.Eq.{bytes_eq-Decides}
use Rattle.cli_messages.specs.Pages as alone
use Rattle.cli_sessions.specs.declared.opening.SessionDatabase.{SessionDatabase}
use Rattle.cli_sessions.specs.Openings.{opening_of}
use Rattle.cli_pages.specs.Pages.{asks_why, page_of, why}

-- A word that is no command's name opens no session.
other_name : (name word : List ℕ) (words : List (List ℕ)) (database : SessionDatabase) → opening_of (name ∷ words) ≡ None
    → bytes_eq word name ≡ true → opening_of (word ∷ words) ≡ Some database → ⊥
other_name name word words database none is h = no_some (subst (λ opening. opening ≡ Some database) none here)
  where
    here : opening_of (name ∷ words) ≡ Some database
    here = subst (λ (w : List ℕ). opening_of (w ∷ words) ≡ Some database) ((bytes_eq-Decides word name).0 is) h

    no_some : ◌≡◌ {A = Option SessionDatabase} None (Some database) → ⊥
    no_some e = cc e

-- What is there unless a test is met that never is.
unless : {A : Type 0} (met : Bool) (one : A) (other : Option A) → (met ≡ true → ⊥) → other ≡ None → (if met then Some one else other) ≡ None
unless true one other never h = absurd (never refl)
unless false one other never h = h

alone_no_page : (words : List (List ℕ)) (database : SessionDatabase) → opening_of words ≡ Some database → alone.page_of words ≡ None
alone_no_page [] database h = refl
alone_no_page (word ∷ other ∷ words) database h = refl
alone_no_page (word ∷ []) database h =
    unless (bytes_eq word (codes "--help")) _ _ (λ is. other_name (codes "--help") word [] database refl is h)
    (unless (bytes_eq word (codes "--version")) _ _ (λ is. other_name (codes "--version") word [] database refl is h) refl)

-- Words that open a session ask for no page.
pub opening_no_page : (words : List (List ℕ)) (database : SessionDatabase) → opening_of words ≡ Some database → page_of words ≡ None
opening_no_page [] database h = refl
opening_no_page (word ∷ words) database h =
    unless (asks_why word) (why words) (alone.page_of (word ∷ words)) (λ is. other_name (codes "--why") word words database refl is h)
    (alone_no_page (word ∷ words) database h)

-- Words that ask for a page, or are a command that needs no database, are no command that has one;
-- and a command that needs no database asks for no page.
use Rattle.std.proofs.Common.{◌≡◌, ℕ, Bool, true, false, List, [], ◌∷◌, codes, bytes_eq, Option, Some, None, Result, Ok, Err, inl, inr, refl, subst}
use Rattle.std.specs.Prelude.{◌⊎◌, if◌then◌else◌}
use Rattle.std.proofs.lemmas.Slice.Eq.{bytes_eq-Decides}
use Rattle.cli_messages.specs.Messages.{refusal_of}
use Rattle.cli_messages.specs.declared.answers.Reason.TheVariants.{WrongWords}
use Rattle.cli_messages.specs.declared.answers.Refusal.{Refusal}
use Rattle.cli_messages.specs.Pages as alone
use Rattle.cli_pages.specs.Pages.{asks_why, page_of, why}
use Rattle.std.specs.Prelude.{option_and_then}
use Rattle.cli_standalone.specs.declared.standalone.Standalone.{Standalone}
use Rattle.cli_options.specs.Credentials.{is_whole}
use Rattle.cli_options.specs.Options.{command_named}
use Rattle.cli_options.specs.Said.{Said, nothing_said, with_words}
use Rattle.cli_options.specs.declared.names.CommandName.{CommandName}
use Rattle.cli_options.specs.declared.names.CommandName.TheVariants as n
use Rattle.cli_parse.specs.Words.{command_at, command_by, command_in, command_of, command_saying, or_wrong_words}
use Rattle.cli_standalone.specs.Standalone.{standalone_at, standalone_by, standalone_of, standalone_saying}
use Rattle.cli_needs.specs.declared.command.Command.{Command}
use Rattle.keepass_call.specs.Outcome.{AsksCommand}

one_of : (first second : Bool) (one other page : List ℕ) → (if first then Some one else (if second then Some other else None)) ≡ Some page
    → (first ≡ true) ⊎ (second ≡ true)
one_of true second one other page h = inl refl
one_of false true one other page h = inr refl
one_of false false one other page h = cc h

-- The one word of words that ask for a page alone.
page_word : (word page : List ℕ) → alone.page_of (word ∷ []) ≡ Some page → (word ≡ codes "--help") ⊎ (word ≡ codes "--version")
page_word word page h =
    elim (one_of (bytes_eq word (codes "--help")) (bytes_eq word (codes "--version")) _ _ page h) [
      | inl is ↦ inl ((bytes_eq-Decides word (codes "--help")).0 is)
      | inr is ↦ inr ((bytes_eq-Decides word (codes "--version")).0 is)
    ]

not_both : (command : Command) → ◌≡◌ {A = Result Command Refusal} (Err (refusal_of WrongWords (codes "words"))) (Ok command) → ⊥
not_both command h = cc h

-- A command is no page.
alone_paged : (words : List (List ℕ)) (page : List ℕ) (command : Command) → alone.page_of words ≡ Some page → command_of words ≡ Ok command → ⊥
alone_paged [] page command h c = cc h
alone_paged (word ∷ other ∷ words) page command h c = cc h
alone_paged (word ∷ []) page command h c =
    elim (page_word word page h) [
      | inl is ↦ not_both command (subst (λ (w : List ℕ). command_of (w ∷ []) ≡ Ok command) is c)
      | inr is ↦ not_both command (subst (λ (w : List ℕ). command_of (w ∷ []) ≡ Ok command) is c)
    ]

which : (asks : Bool) (one page : List ℕ) (other : Option (List ℕ)) → (if asks then Some one else other) ≡ Some page → (asks ≡ true) ⊎ (other ≡ Some page)
which true one page other h = inl refl
which false one page other h = inr h

paged : (words : List (List ℕ)) (page : List ℕ) (command : Command) → page_of words ≡ Some page → command_of words ≡ Ok command → ⊥
paged [] page command h c = cc h
paged (word ∷ words) page command h c =
    elim (which (asks_why word) (why words) page (alone.page_of (word ∷ words)) h) [
      | inl is ↦ not_both command (subst (λ (w : List ℕ). command_of (w ∷ words) ≡ Ok command) ((bytes_eq-Decides word (codes "--why")).0 is) c)
      | inr is ↦ alone_paged (word ∷ words) page command is c
    ]

pub no_page : (words : List (List ℕ)) (command : Command) → command_of words ≡ Ok command → page_of words ≡ None
no_page words command c = by (page_of words) refl
  where
    by : (page : Option (List ℕ)) → page_of words ≡ page → page_of words ≡ None
    by None e = e
    by (Some page) e = absurd (paged words page command e c)

-- ---- commands that need no database

-- A name is not that of a command of both kinds.
one_kind : (name : CommandName) (words : List (List ℕ)) (standalone : Standalone) (command : Command)
    → standalone_by words name ≡ Some standalone → command_by words name ≡ Some command → ⊥
one_kind name words standalone command h c = by (with_words name words nothing_said) h c
  where
    at : (said : Said) (whole : Bool) (name : CommandName) (positions : List (List ℕ)) → (if whole then standalone_at name said positions else None) ≡ Some standalone
        → (if whole then command_at name said positions else None) ≡ Some command → ⊥
    at said false name positions h c = cc h
    at said true n.Generate positions h c = cc c
    at said true n.SelfTest positions h c = cc c
    at said true n.Open positions h c = cc c
    at said true n.Ls positions h c = cc h
    at said true n.Show positions h c = cc h
    at said true n.History positions h c = cc h
    at said true n.Search positions h c = cc h
    at said true n.Add positions h c = cc h
    at said true n.Edit positions h c = cc h
    at said true n.ExportAttachment positions h c = cc h
    at said true n.ImportAttachment positions h c = cc h
    at said true n.RemoveAttachment positions h c = cc h
    at said true n.Move positions h c = cc h
    at said true n.Remove positions h c = cc h
    at said true n.MakeGroup positions h c = cc h
    at said true n.RemoveGroup positions h c = cc h
    at said true n.Merge positions h c = cc h
    at said true n.Import positions h c = cc h
    at said true n.Create positions h c = cc h
    at said true n.Export positions h c = cc h
    at said true n.EditFile positions h c = cc h
    at said true n.Info positions h c = cc h

    by : (said : Option Said) → option_and_then (standalone_saying name) said ≡ Some standalone → option_and_then (command_saying name) said ≡ Some command → ⊥
    by None h c = cc h
    by (Some said) h c = at said (is_whole said) name said.positions h c

is_command : (made : Option Command) (command : Command) → or_wrong_words made ≡ Ok command → made ≡ Some command
is_command None command c = cc c
is_command (Some made) command c = cc c

neither_both : (words : List (List ℕ)) (standalone : Standalone) (command : Command) → standalone_of words ≡ Some standalone → command_of words ≡ Ok command → ⊥
neither_both [] standalone command h c = cc h
neither_both (word ∷ words) standalone command h c = by (command_named word) h (is_command (command_in (word ∷ words)) command c)
  where
    by : (name : Option CommandName) → option_and_then (standalone_by words) name ≡ Some standalone → option_and_then (command_by words) name ≡ Some command → ⊥
    by None h c = cc h
    by (Some name) h c = one_kind name words standalone command h c

-- A command that has a database is none that needs none.
pub no_standalone : (words : List (List ℕ)) (command : Command) → command_of words ≡ Ok command → standalone_of words ≡ None
no_standalone words command c = by (standalone_of words) refl
  where
    by : (standalone : Option Standalone) → standalone_of words ≡ standalone → standalone_of words ≡ None
    by None e = e
    by (Some standalone) e = absurd (neither_both words standalone command e c)

-- And asks for no page.
pub asks_command : (words : List (List ℕ)) (command : Command) → command_of words ≡ Ok command → AsksCommand words
asks_command words command c = record { no_page = no_page words command c; no_standalone = no_standalone words command c }

-- A command that needs no database is none that has one.
pub standalone_words : (words : List (List ℕ)) (standalone : Standalone) → standalone_of words ≡ Some standalone → (refusal : Refusal) × (command_of words ≡ Err refusal)
standalone_words words standalone h = by (command_of words) refl
  where
    by : (read : Result Command Refusal) → command_of words ≡ read → (refusal : Refusal) × (command_of words ≡ Err refusal)
    by (Err refusal) e = (refusal, e)
    by (Ok command) e = absurd (neither_both words standalone command h e)

no_some : (standalone : Standalone) → ◌≡◌ {A = Option Standalone} None (Some standalone) → ⊥
no_some standalone h = cc h

alone_standalone : (words : List (List ℕ)) (page : List ℕ) (standalone : Standalone) → alone.page_of words ≡ Some page → standalone_of words ≡ Some standalone → ⊥
alone_standalone [] page standalone h c = cc h
alone_standalone (word ∷ other ∷ words) page standalone h c = cc h
alone_standalone (word ∷ []) page standalone h c =
    elim (page_word word page h) [
      | inl is ↦ no_some standalone (subst (λ (w : List ℕ). standalone_of (w ∷ []) ≡ Some standalone) is c)
      | inr is ↦ no_some standalone (subst (λ (w : List ℕ). standalone_of (w ∷ []) ≡ Some standalone) is c)
    ]

standalone_paged : (words : List (List ℕ)) (page : List ℕ) (standalone : Standalone) → page_of words ≡ Some page → standalone_of words ≡ Some standalone → ⊥
standalone_paged [] page standalone h c = cc h
standalone_paged (word ∷ words) page standalone h c =
    elim (which (asks_why word) (why words) page (alone.page_of (word ∷ words)) h) [
      | inl is ↦ no_some standalone (subst (λ (w : List ℕ). standalone_of (w ∷ words) ≡ Some standalone) ((bytes_eq-Decides word (codes "--why")).0 is) c)
      | inr is ↦ alone_standalone (word ∷ words) page standalone is c
    ]

pub standalone_no_page : (words : List (List ℕ)) (standalone : Standalone) → standalone_of words ≡ Some standalone → page_of words ≡ None
standalone_no_page words standalone c = by (page_of words) refl
  where
    by : (page : Option (List ℕ)) → page_of words ≡ page → page_of words ≡ None
    by None e = e
    by (Some page) e = absurd (standalone_paged words page standalone e c)

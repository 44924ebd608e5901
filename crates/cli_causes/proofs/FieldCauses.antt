-- What else of an entry is to change has a cause exactly where it does not fit together.
use Rattle.std.proofs.Common.{◌≡◌, ◌∙◌, ℕ, Bool, true, false, List, [], ◌∷◌, Option, Some, None, refl, ap₂}
use Rattle.std.specs.Prelude.{not, ◌&&◌, ◌||◌, if◌then◌else◌, is_some}
use Rattle.std.specs.List.{find, list_all}
use Rattle.std.specs.Option.{option_map}
use Rattle.cli_options.specs.declared.forms.CommandOption.{CommandOption}
use Rattle.cli_options.specs.declared.forms.CommandOption.TheVariants as option
use Rattle.cli_options.specs.Said.{Said, is_given, text_of, texts_of}
use Rattle.cli_needs.specs.declared.command.FurtherAsked.{FurtherAsked}
use Rattle.cli_parse.specs.Fields.{expiry_asked, expiry_named, further_of, further_with, is_own_name}
use Rattle.tree_core.specs.Tags.{is_tag}
use Rattle.tree_core.specs.declared.values.Expiry.{Expiry}
use Rattle.cli_causes.specs.declared.cause.Cause.TheVariants.{NeedsSet, UnknownTag, UnknownTime}
use Rattle.cli_causes.specs.Fields.{all_names_cause, all_tags_cause, expiring_cause, expiry_cause, first_wrong_name, first_wrong_tag, further_cause, names_cause, protect_cause, tags_cause, wrong_name}
use Rattle.cli_causes.proofs.Tests.{some_mapped, some_or}

-- There is a first that a test does not meet where not all meet it.
first_other : {A : Type 0} (p : A → Bool) (xs : List A) → is_some (find (λ x. not (p x)) xs) ≡ not (list_all p xs)
first_other p [] = refl
first_other p (x ∷ xs) = by (p x) (first_other p xs)
  where
    by : (met : Bool) → is_some (find (λ x. not (p x)) xs) ≡ not (list_all p xs)
        → is_some (if not met then Some x else find (λ x. not (p x)) xs) ≡ not (met && list_all p xs)
    by true rest = rest
    by false rest = refl

names_agree : (option : CommandOption) (said : Said) → is_some (names_cause option said) ≡ not (list_all is_own_name (texts_of option said))
names_agree option said = some_mapped (wrong_name option) (first_wrong_name (texts_of option said)) ∙ first_other is_own_name (texts_of option said)

tags_agree : (option : CommandOption) (said : Said) → is_some (tags_cause option said) ≡ not (list_all is_tag (texts_of option said))
tags_agree option said = some_mapped (UnknownTag option) (first_wrong_tag (texts_of option said)) ∙ first_other is_tag (texts_of option said)

either : (a b : Bool) → (not a || not b) ≡ not (a && b)
either true b = refl
either false b = refl

all_names_agree : (said : Said)
    → is_some (all_names_cause said) ≡ not (list_all is_own_name (texts_of option.Set said) && list_all is_own_name (texts_of option.Unset said))
all_names_agree said =
    some_or (names_cause option.Set said) (names_cause option.Unset said)
    ∙ ap₂ (λ (a b : Bool). a || b) (names_agree option.Set said) (names_agree option.Unset said)
    ∙ either (list_all is_own_name (texts_of option.Set said)) (list_all is_own_name (texts_of option.Unset said))

all_tags_agree : (said : Said)
    → is_some (all_tags_cause said) ≡ not (list_all is_tag (texts_of option.Tag said) && list_all is_tag (texts_of option.Untag said))
all_tags_agree said =
    some_or (tags_cause option.Tag said) (tags_cause option.Untag said)
    ∙ ap₂ (λ (a b : Bool). a || b) (tags_agree option.Tag said) (tags_agree option.Untag said)
    ∙ either (list_all is_tag (texts_of option.Tag said)) (list_all is_tag (texts_of option.Untag said))

protect_agrees : (protect set : Bool) → is_some (if protect && not set then Some NeedsSet else None) ≡ not (not protect || set)
protect_agrees true true = refl
protect_agrees true false = refl
protect_agrees false set = refl

expiry_agrees : (t : Option (List ℕ)) → is_some (expiry_cause t) ≡ not (is_some (expiry_asked t))
expiry_agrees None = refl
expiry_agrees (Some text) = by (expiry_named text)
  where
    by : (o : Option Expiry) → is_some (if is_some o then None else Some (UnknownTime text)) ≡ not (is_some (option_map Some o))
    by None = refl
    by (Some expiry) = refl

expiring_agrees : (said : Said)
    → is_some (expiring_cause said) ≡ (not (not (is_given option.Protect said) || is_given option.Set said) || not (is_some (expiry_asked (text_of option.Expires said))))
expiring_agrees said =
    some_or (protect_cause said) (expiry_cause (text_of option.Expires said))
    ∙ ap₂ (λ (a b : Bool). a || b) (protect_agrees (is_given option.Protect said) (is_given option.Set said)) (expiry_agrees (text_of option.Expires said))

-- All parts fit where the whole does.
parts : (set unset tag untag hidden : Bool) (F : Option Expiry → FurtherAsked) (o : Option (Option Expiry))
    → (not (set && unset) || (not (tag && untag) || (not hidden || not (is_some o))))
    ≡ not (is_some (if set && unset && tag && untag && hidden then option_map F o else None))
parts false unset tag untag hidden F o = refl
parts true false tag untag hidden F o = refl
parts true true false untag hidden F o = refl
parts true true true false hidden F o = refl
parts true true true true false F o = refl
parts true true true true true F None = refl
parts true true true true true F (Some expiry) = refl

pub further_agrees : (said : Said) → is_some (further_cause said) ≡ not (is_some (further_of said))
further_agrees said =
    some_or (all_names_cause said) _
    ∙ ap₂ (λ (a b : Bool). a || b) (all_names_agree said)
    (some_or (all_tags_cause said) (expiring_cause said) ∙ ap₂ (λ (a b : Bool). a || b) (all_tags_agree said) (expiring_agrees said))
    ∙ parts (list_all is_own_name (texts_of option.Set said)) (list_all is_own_name (texts_of option.Unset said))
    (list_all is_tag (texts_of option.Tag said)) (list_all is_tag (texts_of option.Untag said))
    (not (is_given option.Protect said) || is_given option.Set said) (further_with said) (expiry_asked (text_of option.Expires said))

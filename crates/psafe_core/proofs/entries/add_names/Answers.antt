use Rattle.std.proofs.Common.{◌++◌, ◌∷◌, [], List, ℕ, Some, None, ap, sym, ◌∙◌, arith, rules, append_assoc}
use Rattle.std.specs.List.{filter}
use Rattle.std.proofs.lemmas.Str.Pattern.{split_parts}
use Rattle.psafe_core.specs.Records.{group_names, is_named}
use Rattle.psafe_core.proofs.Names.{names_last, names_then}
use Rattle.psafe_core.proofs.entries.add_names.Goals as goal

pub loop-name-preserved : goal.loop-name-preserved
loop-name-preserved c =
    let rest = c.loop-name.rest.now in
    let name = c.in-Some.name.now in
    let later = c.in-Some.later.now in
    let parts = split_parts 46 rest (Some (c.in-Some.name, c.in-Some.later)) c.in-Some.ensures.cases (omega arith) in (
      search rules,
      ap (λ (l : List (List ℕ)). l ++ group_names later) c.in_ok-add_name.ensures
          ∙ append_assoc c.loop-name.names (filter is_named (name ∷ [])) (group_names later)
          ∙ ap (λ (l : List (List ℕ)). c.loop-name.names ++ l) (sym (names_then rest name later parts.0 parts.1))
          ∙ c.loop-name.invariant.1,
    )

pub returns : goal.returns
returns c =
    let rest = c.loop-name.rest.now in
    let last = split_parts 46 rest None c.in_default.ensures.cases (omega arith) in
    c.in_ok-add_name-2.ensures ∙ ap (λ (l : List (List ℕ)). c.loop-name.names ++ l) (sym (names_last rest last)) ∙ c.loop-name.invariant.1

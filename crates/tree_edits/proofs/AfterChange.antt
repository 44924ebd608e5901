-- What an entry that comes to say something else comes to, step by step.
use Rattle.std.proofs.Common.{◌≡◌, ℕ, List, Option, None, Some, Result, Ok, Err, sym, ap, ◌∙◌}
use Rattle.std.specs.Option.{ok_or}
use Rattle.vault_model.specs.declared.metas.Meta.{Meta}
use Rattle.vault_model.specs.Bare.{BareContent}
use Rattle.vault_model.specs.SeenNodes.{entry_time}
use Rattle.vault_model.specs.Shape.{BareVersion, EntryRecord}
use Rattle.vault_model.specs.Tree.{BareDoc}
use Rattle.outside_core.specs.Results.{◌>>=◌}
use Rattle.tree_core.specs.declared.fails.TreeFail.{TreeFail}
use Rattle.tree_core.specs.declared.fails.TreeFail.TheVariants.{NoVersion}
use Rattle.tree_core.specs.After.{Holding, after_change, after_restore, changed_content, entry_named, time_after, version_or_refusal}
use Rattle.tree_core.specs.Changes.{changed_at, changed_entry}
use Rattle.tree_core.specs.Histories.{version_numbered}
use Rattle.tree_core.proofs.Binds.{ends, goes_on}
use Rattle.tree_core.proofs.Edited.{changed_same}
use Rattle.tree_edits.specs.Versions.{with_versions}
use Rattle.tree_edits.proofs.NamedEntries.{named_there}

-- an entry that says something from a time on
abbrev pub says_from : BareDoc → Holding → (BareContent → BareContent) → ℕ → Result BareDoc TreeFail
says_from d held says time = Ok (record d { tree = changed_at held.group (changed_entry held.entry.0 (changed_content d.meta says time)) d.tree })

-- what the program makes is what the definition makes
versions_same : (path : List ℕ) (d : BareDoc) (held : Holding) → entry_named path d ≡ Ok held → (says : BareContent → BareContent) (time : ℕ) (current : BareVersion) (history : List BareVersion)
    → record held.entry.1 { current = current; history = history } ≡ changed_content d.meta says time held.entry.1
    → says_from d held says time ≡ Ok (with_versions held.group held.entry.0 current history d)
versions_same path d held is says time current history same =
    sym (ap (λ t. Ok (record d { tree = t }))
    (changed_same held.group held.entry.0 (λ (e : EntryRecord). record e { current = current; history = history }) (changed_content d.meta says time) held.entry d.tree (named_there path d held is) same))

module _ (path : List ℕ) (allows : BareContent → Result (Unit {0}) TreeFail) (says : Meta → BareContent → BareContent) (now : ℕ) (d : BareDoc) where
  abbrev after : Result BareDoc TreeFail
  after = after_change path allows says now d

  abbrev timed : Holding → Unit {0} → Result BareDoc TreeFail
  timed held u = time_after now (entry_time held.entry.1) >>= says_from d held (says d.meta)

  abbrev rest : Holding → Result BareDoc TreeFail
  rest held = allows held.entry.1.current.mark.content >>= timed held

  pub not_named : (fail : TreeFail) → entry_named path d ≡ Err fail → after ≡ Err fail
  not_named fail e = ends rest (entry_named path d) fail e

  module _ (held : Holding) (is : entry_named path d ≡ Ok held) where
    pub not_allowed : (fail : TreeFail) → allows held.entry.1.current.mark.content ≡ Err fail → after ≡ Err fail
    not_allowed fail e = goes_on rest (entry_named path d) held is ∙ ends (timed held) (allows held.entry.1.current.mark.content) fail e

    module _ (allowed : allows held.entry.1.current.mark.content ≡ Ok tt) where
      reached : after ≡ timed held tt
      reached = goes_on rest (entry_named path d) held is ∙ goes_on (timed held) (allows held.entry.1.current.mark.content) tt allowed

      pub too_late : (fail : TreeFail) → time_after now (entry_time held.entry.1) ≡ Err fail → after ≡ Err fail
      too_late fail late = reached ∙ ends (says_from d held (says d.meta)) (time_after now (entry_time held.entry.1)) fail late

      pub done : (time : ℕ) → time_after now (entry_time held.entry.1) ≡ Ok time → (current : BareVersion) (history : List BareVersion)
          → record held.entry.1 { current = current; history = history } ≡ changed_content d.meta (says d.meta) time held.entry.1
          → after ≡ Ok (with_versions held.group held.entry.0 current history d)
      done time then current history same =
          reached ∙ goes_on (says_from d held (says d.meta)) (time_after now (entry_time held.entry.1)) time then
          ∙ versions_same path d held is (says d.meta) time current history same

-- ---- a version that is restored

module _ (path : List ℕ) (n now : ℕ) (d : BareDoc) where
  abbrev restored : Holding → BareVersion → Result BareDoc TreeFail
  restored held version = time_after now (entry_time held.entry.1) >>= says_from d held (λ _. version.mark.content)

  abbrev numbered : Holding → Result BareDoc TreeFail
  numbered held = version_or_refusal n held.entry.1 >>= restored held

  pub restore_not_named : (fail : TreeFail) → entry_named path d ≡ Err fail → after_restore path n now d ≡ Err fail
  restore_not_named fail e = ends numbered (entry_named path d) fail e

  module _ (held : Holding) (is : entry_named path d ≡ Ok held) where
    pub restore_no_version : version_numbered n held.entry.1 ≡ None → after_restore path n now d ≡ Err (NoVersion n)
    restore_no_version none =
        goes_on numbered (entry_named path d) held is
        ∙ ends (restored held) (version_or_refusal n held.entry.1) (NoVersion n) (ap (λ (o : Option BareVersion). ok_or o (NoVersion n)) none)

    module _ (version : BareVersion) (old : version_numbered n held.entry.1 ≡ Some version) where
      restore_reached : after_restore path n now d ≡ restored held version
      restore_reached =
          goes_on numbered (entry_named path d) held is
          ∙ goes_on (restored held) (version_or_refusal n held.entry.1) version (ap (λ (o : Option BareVersion). ok_or o (NoVersion n)) old)

      pub restore_too_late : (fail : TreeFail) → time_after now (entry_time held.entry.1) ≡ Err fail → after_restore path n now d ≡ Err fail
      restore_too_late fail late = restore_reached ∙ ends (says_from d held (λ _. version.mark.content)) (time_after now (entry_time held.entry.1)) fail late

      pub restore_done : (time : ℕ) → time_after now (entry_time held.entry.1) ≡ Ok time → (current : BareVersion) (history : List BareVersion)
          → record held.entry.1 { current = current; history = history } ≡ changed_content d.meta (λ _. version.mark.content) time held.entry.1
          → after_restore path n now d ≡ Ok (with_versions held.group held.entry.0 current history d)
      restore_done time then current history same =
          restore_reached ∙ goes_on (says_from d held (λ _. version.mark.content)) (time_after now (entry_time held.entry.1)) time then
          ∙ versions_same path d held is (λ _. version.mark.content) time current history same

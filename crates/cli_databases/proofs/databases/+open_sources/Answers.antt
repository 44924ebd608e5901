use Rattle.std.proofs.Common.{map, option_map, refl, ap, ◌∙◌, arith}
use Rattle.outside_core.specs.Reports.{reported}
use Rattle.outside_core.proofs.Reports.{reported_before, stays_on}
use Rattle.vault_model.specs.SeenDoc.{doc_seen}
use Rattle.cli_lines.specs.SeenLines.{line_seen}
use Rattle.cli_lines.proofs.Inputs.{kept_later}
use Rattle.cli_databases.proofs.Sources.{first_and_rest, line_and_rest, one_more, some_next, stops_first, stops_next, told_next, told_stop}
use Rattle.cli_databases.proofs.databases.+open_sources.Goals as goal

pub returns-in-Err-clause-told : goal.returns-in-Err-clause-told
returns-in-Err-clause-told g t c = λ m is.
    let target = option_map (λ p. p.now) c.args.target in
    told_stop c.in-Err.stop c.args.needs.from.now c.args.needs.same target (option_map (λ p. p.now) c.password_from-password.result)
    (line_seen c.own-item.result) c.name-item.result c.args.needs.sources.now _ (map line_seen c.args.lines.now) _ (map doc_seen c.args.docs.now) m
    (first_and_rest c.args.needs.sources.now _ c.name-item.result c.in-len1-up.len_at_least refl c.name-item.is)
    (line_and_rest c.args.lines.now _ c.own-item.result c.in-len1-up-lines.len_at_least refl c.own-item.is)
    c.password_from-password.ensures
    (c.in-Err.ensures.told m is)

pub returns-in-Err-clause-cause : goal.returns-in-Err-clause-cause
returns-in-Err-clause-cause g t c =
    stops_first c.in-Err.stop c.args.needs.from.now c.name-item.result c.args.needs.sources.now _ _ _ _ _
    (first_and_rest c.args.needs.sources.now _ c.name-item.result c.in-len1-up.len_at_least refl c.name-item.is)
    c.in-Err.ensures.cause

pub returns-clause-told : goal.returns-clause-told
returns-clause-told g t c = λ m is.
    let target = option_map (λ p. p.now) c.args.target in
    told_next c.open_sources.result c.args.needs.from.now c.args.needs.same target (option_map (λ p. p.now) c.password_from-password.result)
    (line_seen c.own-item.result) c.name-item.result c.args.needs.sources.now _ (map line_seen c.args.lines.now) _ (map doc_seen c.args.docs.now)
    (map doc_seen c.put_document.new.docs) (map doc_seen c.open_sources.new.docs) (doc_seen c.in-Ok.doc) m
    (first_and_rest c.args.needs.sources.now _ c.name-item.result c.in-len1-up.len_at_least refl c.name-item.is)
    (line_and_rest c.args.lines.now _ c.own-item.result c.in-len1-up-lines.len_at_least refl c.own-item.is)
    c.password_from-password.ensures
    (one_more c.args.docs.now c.put_document.new.docs c.in-Ok.doc c.in_ok-put_document-in-Ok.ensures.ok)
    (c.in-Ok.ensures.told m (reported_before _ _ _ m c.open_sources.ensures.leaves.truthful is))
    (c.open_sources.ensures.told m (ap (reported _) c.in-Ok.ensures.leaves.files ∙ is))

pub returns-clause-some_file : goal.returns-clause-some_file
returns-clause-some_file g t c =
    let target = option_map (λ p. p.now) c.args.target in
    some_next c.open_sources.result c.args.needs.from.now c.args.needs.same target (option_map (λ p. p.now) c.password_from-password.result)
    (line_seen c.own-item.result) c.name-item.result c.args.needs.sources.now _ (map line_seen c.args.lines.now) _ (map doc_seen c.args.docs.now)
    (map doc_seen c.put_document.new.docs) (map doc_seen c.open_sources.new.docs) (doc_seen c.in-Ok.doc)
    (first_and_rest c.args.needs.sources.now _ c.name-item.result c.in-len1-up.len_at_least refl c.name-item.is)
    (line_and_rest c.args.lines.now _ c.own-item.result c.in-len1-up-lines.len_at_least refl c.own-item.is)
    c.password_from-password.ensures
    (one_more c.args.docs.now c.put_document.new.docs c.in-Ok.doc c.in_ok-put_document-in-Ok.ensures.ok)
    c.in-Ok.ensures.some_file c.open_sources.ensures.some_file

pub returns-clause-cause : goal.returns-clause-cause
returns-clause-cause g t c =
    stops_next c.open_sources.result c.args.needs.from.now c.name-item.result c.args.needs.sources.now _ _ _ _ _ _ _
    (first_and_rest c.args.needs.sources.now _ c.name-item.result c.in-len1-up.len_at_least refl c.name-item.is)
    c.in-Ok.ensures.leaves.faults c.in-Ok.ensures.leaves.absences c.open_sources.ensures.cause

pub returns-clause-leaves : goal.returns-clause-leaves
returns-clause-leaves g t c =
    let first = c.in-Ok.ensures.leaves in
    let rest = c.open_sources.ensures.leaves in
    record {
      files = rest.files ∙ first.files;
      draft_name = rest.draft_name ∙ first.draft_name;
      draft_bytes = rest.draft_bytes ∙ first.draft_bytes;
      truthful = stays_on _ _ _ first.truthful rest.truthful;
      faults = omega (arith, first.faults, rest.faults);
      absences = omega (arith, first.absences, rest.absences);
    }

pub returns-clause-faultless : goal.returns-clause-faultless
returns-clause-faultless g t c = kept_later c.open_sources.result _ _ _ c.in-Ok.ensures.faultless c.open_sources.ensures.faultless

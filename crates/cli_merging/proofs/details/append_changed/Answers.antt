use Rattle.std.proofs.Common.{◌≡◌, ℕ, List, ◌++◌, ap, length, map, ◌∙◌}
use Rattle.std.specs.FinMap.{entries}
use Rattle.vault_model.specs.Db.{NodeId}
use Rattle.vault_model.specs.SeenDoc.{doc_seen}
use Rattle.merge_details.specs.Conflicts.{conflicts}
use Rattle.merge_details.specs.Lines.{conflict_lines}
use Rattle.merge_details.specs.PathTables.{path_at}
use Rattle.merge_details.specs.Paths.{path_in}
use Rattle.merge_details.proofs.JoinedTexts.{piece_more}
use Rattle.cli_merging.specs.Details.{count_line, detail_lines, merging_words}
use Rattle.cli_merging.specs.Reports.{source_lines}
use Rattle.cli_merging.proofs.details.append_changed.Goals as goal

pub returns : goal.returns
returns c =
    let t = c.args.text.now.bytes in
    let old = doc_seen c.args.made.old.now in
    let new = doc_seen c.args.made.new.now in
    let changes = c.args.made.changes.now in
    let target = c.args.files.target.now in
    let names = c.args.files.sources.now in
    let found = conflicts old (map doc_seen c.args.made.sources.now) new in
    let lines = detail_lines (path_in old) (path_in new) changes in
    let sources = source_lines (merging_words c.args.dry) target names in
    let put = c.append_details.new.text.bytes in
    let with_lines : put ≡ t ++ lines = c.in_ok-append_details.ensures
    ∙ ap (λ (f : NodeId → List ℕ). t ++ detail_lines f (path_at c.in_ok-after.after) changes) c.in_ok-before.ensures
    ∙ ap (λ (f : NodeId → List ℕ). t ++ detail_lines (path_in old) f changes) c.in_ok-after.ensures in
    let with_conflicts = piece_more t lines put (conflict_lines found) (conflict_lines (entries c.in_ok-conflicts.conflicts)) c.append_conflicts.new.text.bytes
    with_lines c.in_ok-append_conflicts.ensures (ap conflict_lines c.in_ok-conflicts.ensures) in
    let with_sources = piece_more t (lines ++ conflict_lines found) c.append_conflicts.new.text.bytes sources (source_lines c.merging_words.result.now target names)
    c.append_sources.new.text.bytes with_conflicts c.in_ok-append_sources.ensures (ap (λ (w : List ℕ). source_lines w target names) c.merging_words.ensures) in
    piece_more t ((lines ++ conflict_lines found) ++ sources) c.append_sources.new.text.bytes (count_line changes (length found)) (count_line changes c.len.result)
    c.append_counts.new.text.bytes with_sources c.in_ok-append_counts.ensures (ap (count_line changes) (c.len.ensures ∙ ap length c.in_ok-conflicts.ensures))

use Rattle.std.proofs.Common.{List, ℕ, Bool, false, ap, sym, ◌∙◌, map}
use Rattle.vault_model.specs.Seen.{bare_content, bare_field}
use Rattle.cli_showing.specs.History.{all_changed, names_changed, parts_changed}
use Rattle.cli_showing.specs.inside.Names.{put_names}
use Rattle.cli_showing.proofs.PutNames.{all_joined, put_more}
use Rattle.cli_showing.proofs.changes.append_changes.Goals as goal

pub returns : goal.returns
returns c =
    let newer = bare_content c.args.newer.now in
    let older = bare_content c.args.older.now in
    let parts = parts_changed newer older in
    let names = names_changed newer.fields older.fields in
    ap (λ (s : List ℕ × Bool). s.0)
    (c.in_ok-append_parts.ensures
    ∙ ap (put_names parts)
    (c.in_ok-some.ensures
    ∙ (λ i. put_names (names_changed (map bare_field (c.as_slice.ensures i)) (map bare_field (c.as_slice-2.ensures i))) (c.args.text.now.bytes, false)))
    ∙ sym (put_more names parts (c.args.text.now.bytes, false)))
    ∙ all_joined (all_changed newer older) c.args.text.now.bytes

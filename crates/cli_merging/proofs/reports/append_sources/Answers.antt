use Rattle.std.proofs.Common.{◌≡◌, ℕ, ◌+◌, ◌<◌, List, ◌∷◌, ◌++◌, length, drop, get_or, ap, sym, ◌∙◌, append_assoc}
use Rattle.std.proofs.lemmas.List.{at_drop_more}
use Rattle.cli_merging.specs.Reports.{source_line, source_lines}
use Rattle.cli_merging.proofs.reports.append_sources.Goals as goal

-- the line of one more source
more : (done target : List ℕ) (sources : List (List ℕ)) (at : ℕ) (source text longer whole : List ℕ)
    → at < length sources → source ≡ get_or sources at source → longer ≡ text ++ source_line done target source
    → text ++ source_lines done target (drop at sources) ≡ whole
    → longer ++ source_lines done target (drop (at + 1) sources) ≡ whole
more done target sources at source text longer whole below here is all =
    let rest = drop (at + 1) sources in
    ap (λ (line : List ℕ). line ++ source_lines done target rest) is
    ∙ append_assoc text (source_line done target source) (source_lines done target rest)
    ∙ ap (λ (name : List ℕ). text ++ source_lines done target (name ∷ rest)) here
    ∙ ap (λ (lines : List ℕ). text ++ lines) (sym (at_drop_more (source_lines done target) sources at source below))
    ∙ all

pub loop-source-preserved : goal.loop-source-preserved
loop-source-preserved c =
    more c.args.done.now c.args.target.now c.args.sources.now c.loop-source.source-index c.source-item.result c.loop-source.text.bytes c.append_source.new.text.bytes _
    c.loop-source-test.true c.source-item.is
    (c.in_ok-append_source.ensures ∙ ap (λ (name : List ℕ). c.loop-source.text.bytes ++ source_line c.args.done.now c.args.target.now name) c.as_str.ensures)
    c.loop-source.invariant

use Rattle.std.proofs.Common.{sym, rules, take, length-take-le}
use Rattle.markup_core.specs.Reader.{answers_left}
use Rattle.markup_core.proofs.Cuts.{cut_start}
use Rattle.markup_core.proofs.Left.{answers_new}
use Rattle.markup_core.proofs.Soundness.{front_within, front_utf8}
use Rattle.markup_core.proofs.reader.Reader.new.Goals as goal

pub slice_bounds-result-end : goal.slice_bounds-result-end
slice_bounds-result-end c =
    sym (length-take-le c.front_len-len.result c.args.text.now (front_within c.args.text.now c.front_len-len.result c.front_len-len.ensures))

pub invariant_of-result : goal.invariant_of-result
invariant_of-result c = record {
  at_within = search rules;
  depth_within = search rules;
  stack = search rules;
  spans_within = search rules;
  has_begun = search rules;
  is_utf8 = front_utf8 c.args.text.now c.front_len-len.result c.front_len-len.ensures;
  between_characters = cut_start (take c.front_len-len.result c.args.text.now) (front_utf8 c.args.text.now c.front_len-len.result c.front_len-len.ensures);
  empty_ends = search rules;
}

pub returns : goal.returns
unfolding answers_left
returns c =
    answers_new c.args.text.now c.front_len-len.result c.front_len-len.ensures (front_within c.args.text.now c.front_len-len.result c.front_len-len.ensures)

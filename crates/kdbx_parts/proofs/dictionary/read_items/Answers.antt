use Rattle.std.proofs.Common.{◌≡◌, ℕ, ◌-◌, length, length-drop, ap, ◌∙◌, arith}
use Rattle.std.proofs.lemmas.Result.{err_from_is_err_and}
use Rattle.kdbx_parts.specs.Dictionary.{item_refusal, item_step}
use Rattle.kdbx_parts.specs.SeenDictionary.{items_seen}
use Rattle.outside_core.specs.Results.{repeat_steps}
use Rattle.outside_core.proofs.Results.{step_ends, step_fails, step_goes_on, steps_run_out}
use Rattle.kdbx_parts.proofs.dictionary.read_items.Goals as goal

pub items-init : goal.items-init
items-init c =
    let n = length c.args.content.now in
    let whole : n - 0 ≡ n = omega arith in
    record {
      shorter = omega (arith, ap (λ read. length read.rest) c.requires, length-drop 2 c.args.content.now);
      so_far = ap (λ (k : ℕ). repeat_steps (item_step n) (item_refusal n) k (items_seen c.args.read.now)) whole
          ∙ ap (repeat_steps (item_step n) (item_refusal n) n) c.requires;
    }

pub returns-in_err-ended : goal.returns-in_err-ended
returns-in_err-ended c =
    let n = length c.args.content.now in
    let p = err_from_is_err_and c.from_residual.result c.from_residual.ensures.1 in
    rw (p.1, p.2) (step_fails (item_step n) (item_refusal n) n c.items.counter
    (items_seen c.items.read) _ _
    c.items-test.true c.items.invariant.so_far c.in_err-ended.ensures.gives)

pub returns-then-ended : goal.returns-then-ended
returns-then-ended c =
    let n = length c.args.content.now in
    step_ends (item_step n) (item_refusal n) n c.items.counter
    (items_seen c.items.read) _ _ _
    c.items-test.true c.items.invariant.so_far c.in_ok-ended.ensures.gives c.if-ended.true

pub items-preserved : goal.items-preserved
items-preserved c =
    let n = length c.args.content.now in
    record {
      shorter = omega (arith, c.in_ok-ended.ensures.shorter, c.items.invariant.shorter);
      so_far = step_goes_on (item_step n) (item_refusal n) n c.items.counter
          (items_seen c.items.read) _ _ _
          c.items-test.true c.items.invariant.so_far c.in_ok-ended.ensures.gives c.if-ended.false;
    }

pub returns : goal.returns
returns c =
    let n = length c.args.content.now in
    steps_run_out (item_step n) (item_refusal n) n c.items.counter
    (items_seen c.items.read) _
    c.items-test.false c.items.invariant.so_far

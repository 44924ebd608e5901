use Rattle.std.proofs.Common.{◌≡◌, ◌-◌, ◌≤◌, length}
use Rattle.kdbx_parts.specs.Dictionary.{item_refusal, item_step, items_of}
use Rattle.outside_core.specs.Results.{repeat_steps}
use Rattle.kdbx_parts.specs.SeenDictionary.{items_seen}
use Rattle.kdbx_parts.proofs.dictionary.read_items.Given as goal

-- What is left is no longer than the field, and reading on from here gives what reading all gives.
abbrev pub invariant-items : goal.invariant-items
invariant-items l = record {
  shorter : length l.read.rest.now ≤ length l.content;
  so_far : repeat_steps (item_step (length l.content)) (item_refusal (length l.content)) (length l.content - l.counter) (items_seen l.read) ≡ items_of l.content;
}

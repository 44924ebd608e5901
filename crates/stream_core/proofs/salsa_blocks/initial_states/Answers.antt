use Rattle.std.proofs.Common.{lit≤, rules}
use Rattle.stream_core.proofs.LaneLemmas.{below_four}
use Rattle.stream_core.proofs.salsa_blocks.initial_states.Goals as goal

pub returns : goal.returns
returns c = below_four _ (search rules) (search rules) (search rules) (search rules)

pub word_at-requires : goal.word_at-requires
word_at-requires c = rw c.told-key (lit≤ tt)

pub word_at-requires-2 : goal.word_at-requires-2
word_at-requires-2 c = rw c.told-key (lit≤ tt)

pub word_at-requires-3 : goal.word_at-requires-3
word_at-requires-3 c = rw c.told-key (lit≤ tt)

pub word_at-requires-4 : goal.word_at-requires-4
word_at-requires-4 c = rw c.told-key (lit≤ tt)

pub word_at-requires-5 : goal.word_at-requires-5
word_at-requires-5 c = rw c.told-nonce (lit≤ tt)

pub word_at-requires-6 : goal.word_at-requires-6
word_at-requires-6 c = rw c.told-nonce (lit≤ tt)

pub word_at-requires-7 : goal.word_at-requires-7
word_at-requires-7 c = rw c.told-key (lit≤ tt)

pub word_at-requires-8 : goal.word_at-requires-8
word_at-requires-8 c = rw c.told-key (lit≤ tt)

pub word_at-requires-9 : goal.word_at-requires-9
word_at-requires-9 c = rw c.told-key (lit≤ tt)

pub word_at-requires-10 : goal.word_at-requires-10
word_at-requires-10 c = rw c.told-key (lit≤ tt)

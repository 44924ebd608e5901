-- What the answers of a reader of blocks, which began with an empty output, say of the contents.
use Rattle.std.proofs.Common.{◌≡◌, ℕ, ◌+◌, List, [], ◌++◌, length, ◌∙◌, ap, Bool, true, false, Ok, Err}
use Rattle.mac_core.specs.Answers.{FeedReturns, AtEnd, EndReturns, Start}
use Rattle.mac_core.specs.Blocks.{concat_contents}
use Rattle.mac_core.specs.Contents.{contents_of}
use Rattle.mac_core.specs.declared.fail.BlockFail.{BlockFail}
use Rattle.mac_core.specs.declared.fail.BlockFail.TheVariants.{BlockMac, Truncated}
use Rattle.mac_core.proofs.ContentSteps.{contents_of-AreContents}

-- a reading that began at this offset
abbrev pub started : List ℕ → ℕ → List ℕ → Start
started base offset before = record { base = base; place = offset; before = before }

module _ (base : List ℕ) (offset : ℕ) (before out bytes : List ℕ) where
  -- a block is wrong
  pub feed_refused : (fail : BlockFail) → FeedReturns (started base offset before) out bytes (Err fail)
      → contents_of base (offset + length bytes) bytes ≡ Err fail
  feed_refused (BlockMac i) h = contents_of-AreContents base (offset + length bytes) bytes (Err (BlockMac i)) h
  feed_refused fail h = absurd h

  -- no end block was read
  pub end_refused : (ended : Bool) (fail : BlockFail) → FeedReturns (started base offset before) out bytes (Ok ended)
      → EndReturns (started base offset before) out bytes (Err fail) → contents_of base (offset + length bytes) bytes ≡ Err fail
  end_refused true (Truncated n) a h = absurd (h.1 out a)
  end_refused false (Truncated n) a h =
      contents_of-AreContents base (offset + length bytes) bytes (Err (Truncated n)) (h.0, (a.contents, (a.rest, a.unfinished)))
  end_refused ended fail a h = absurd h

  -- the end block was read
  pub end_read : before ≡ [] → AtEnd (started base offset before) out bytes → contents_of base (offset + length bytes) bytes ≡ Ok out
  end_read none a =
      contents_of-AreContents base (offset + length bytes) bytes (Ok out)
      (a.contents, (a.whole, a.given ∙ ap (λ (b : List ℕ). b ++ concat_contents a.contents) none))

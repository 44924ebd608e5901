-- The contents of blocks on their way to the start of a text: what is left to read of it, at each step.
use Rattle.std.proofs.Common.{◌≡◌, ℕ, zero, suc, ◌+◌, ◌-◌, ◌<◌, ◌≤◌, List, ◌++◌, length, take, drop, sym, ◌∙◌, ap, arith, Result, Ok, Err, length-drop}
use Rattle.std.proofs.lemmas.List.{drop-drop, length-take-le}
use Rattle.std.proofs.lemmas.List.Edits.{drop-paste, take-paste}
use Rattle.std.proofs.Math.Seq.{paste}
use Rattle.mac_core.specs.Joining.{BlockRead, contents_from}
use Rattle.mac_core.specs.declared.fail.BlockFail.{BlockFail}
use Rattle.mac_core.specs.declared.fail.BlockFail.TheVariants.{Truncated}
use Rattle.mac_core.proofs.JoiningSteps.{ended, goes_on, refused, runs_out}

-- a block whose head and whose content have so many bytes, at the start of these
abbrev pub block_of_len : ℕ → ℕ → List ℕ → BlockRead
block_of_len head len bytes = record { content = take len (drop head bytes); rest = drop len (drop head bytes) }

-- heads have so many bytes, `read` reads a block, and the text is the end of `size` bytes
module _ (head : ℕ) (read : ℕ → List ℕ → Result BlockRead BlockFail) (size : ℕ) where
  -- what reading gives that goes on with so many steps from block i at this offset, after contents of so many bytes,
  -- which are at the start of the text
  abbrev pub left : ℕ → ℕ → ℕ → ℕ → List ℕ → Result (List ℕ) BlockFail
  left steps i joined at text = contents_from read (Truncated size) steps i (take joined text) (drop at text)

  content_long : (at len : ℕ) (text : List ℕ) → at + (head + len) ≤ length text → length (block_of_len head len (drop at text)).content ≡ len
  content_long at len text within =
      length-take-le len (drop head (drop at text)) (omega (arith, length-drop head (drop at text), length-drop at text, within))

  -- the block is refused
  pub left_refused : (steps i joined at : ℕ) (text : List ℕ) (total : Result (List ℕ) BlockFail) (fail : BlockFail) → 0 < steps
      → read i (drop at text) ≡ Err fail → left steps i joined at text ≡ total → total ≡ Err fail
  left_refused zero i joined at text total fail some is so_far = absurd (omega (arith, some))
  left_refused (suc n) i joined at text total fail some is so_far =
      sym so_far ∙ refused read (Truncated size) n i (take joined text) (drop at text) fail is

  -- it is the end block
  pub left_ended : (steps i joined at len : ℕ) (text : List ℕ) (total : Result (List ℕ) BlockFail) → 0 < steps
      → at + (head + len) ≤ length text → len ≡ 0 → read i (drop at text) ≡ Ok (block_of_len head len (drop at text))
      → left steps i joined at text ≡ total → total ≡ Ok (take joined text)
  left_ended zero i joined at len text total some within none is so_far = absurd (omega (arith, some))
  left_ended (suc n) i joined at len text total some within none is so_far =
      sym so_far
      ∙ ended read (Truncated size) n i (take joined text) (drop at text) (block_of_len head len (drop at text)) is
      (content_long at len text within ∙ none)

  -- no step is left
  pub left_none : (steps i joined at : ℕ) (text : List ℕ) (total : Result (List ℕ) BlockFail) → steps ≡ 0
      → left steps i joined at text ≡ total → total ≡ Err (Truncated size)
  left_none steps i joined at text total none so_far =
      sym so_far ∙ ap (λ (k : ℕ). left k i joined at text) none
      ∙ runs_out read (Truncated size) i (take joined text) (drop at text)

  -- its content is moved to the others
  module _ (n i joined at len count : ℕ) (text new : List ℕ) (before : joined ≤ at) (within : at + (head + len) ≤ length text)
      (all : count ≡ len) (moved : new ≡ paste text joined (drop (at + head) text) count) where
    abbrev from : List ℕ
    from = drop (at + head) text

    pasted : new ≡ paste text joined from len
    pasted = moved ∙ ap (paste text joined from) all

    fits : joined ≤ length text
    fits = omega (arith, before, within)

    room : len ≤ length from
    room = omega (arith, length-drop (at + head) text, within)

    start_is : take (joined + len) new ≡ take joined text ++ (block_of_len head len (drop at text)).content
    start_is =
        ap (λ (xs : List ℕ). take (joined + len) xs) pasted ∙ take-paste text joined from len fits room
        ∙ ap (λ (xs : List ℕ). take joined text ++ take len xs) (sym (drop-drop head at text))

    abbrev gap : ℕ
    gap = at + (head + len) - (joined + len)

    -- what follows the block is not changed
    pub rest_is : drop (at + (head + len)) new ≡ (block_of_len head len (drop at text)).rest
    rest_is =
        let sum : joined + len + gap ≡ at + (head + len) = omega (arith, before) in
        let same : at + (head + len) ≡ at + head + len = omega arith in
        ap (λ (k : ℕ). drop k new) (sym sum) ∙ sym (drop-drop gap (joined + len) new)
        ∙ ap (λ (xs : List ℕ). drop gap (drop (joined + len) xs)) pasted
        ∙ ap (λ (xs : List ℕ). drop gap xs) (drop-paste text joined from len fits room)
        ∙ drop-drop gap (joined + len) text ∙ ap (λ (k : ℕ). drop k text) (sum ∙ same)
        ∙ sym (drop-drop len (at + head) text) ∙ ap (λ (xs : List ℕ). drop len xs) (sym (drop-drop head at text))

    moved_on : 0 < len → read i (drop at text) ≡ Ok (block_of_len head len (drop at text))
        → left n (suc i) (joined + len) (at + (head + len)) new ≡ left (suc n) i joined at text
    moved_on some is =
        let b = block_of_len head len (drop at text) in
        ap (λ (xs : List ℕ). contents_from read (Truncated size) n (suc i) xs (drop (at + (head + len)) new)) start_is
        ∙ ap (λ (xs : List ℕ). contents_from read (Truncated size) n (suc i) (take joined text ++ b.content) xs) rest_is
        ∙ sym (goes_on read (Truncated size) n i (take joined text) (drop at text) b is
        (omega (arith, content_long at len text within, some)))

  pub left_moved : (steps n i j joined at len count : ℕ) (text new : List ℕ) (total : Result (List ℕ) BlockFail) → steps ≡ suc n → j ≡ suc i
      → joined ≤ at → at + (head + len) ≤ length text → 0 < len → count ≡ len → new ≡ paste text joined (drop (at + head) text) count
      → read i (drop at text) ≡ Ok (block_of_len head len (drop at text)) → left steps i joined at text ≡ total
      → left n j (joined + len) (at + (head + len)) new ≡ total
  left_moved steps n i j joined at len count text new total one next before within some all moved is so_far =
      ap (λ (k : ℕ). left n k (joined + len) (at + (head + len)) new) next
      ∙ moved_on n i joined at len count text new before within all moved some is
      ∙ ap (λ (k : ℕ). left k i joined at text) (sym one) ∙ so_far

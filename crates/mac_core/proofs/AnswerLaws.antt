-- What the answers of a reader say of one another.
use Rattle.std.proofs.Common.{◌≡◌, ◌≢◌, ℕ, List, [], ◌++◌, length, drop, refl, sym, ◌∙◌, ap, subst, arith, All, Bool, true, false, Result, Ok, Err, OnOk}
use Rattle.std.proofs.lemmas.List.{append_assoc}
use Rattle.mac_core.specs.Answers.{FeedReturns, AtEnd, Start}
use Rattle.mac_core.specs.Blocks.{IsContent, block, blocks, concat_contents, mac_of, length_prefixed}
use Rattle.mac_core.specs.declared.fail.BlockFail.{BlockFail}
use Rattle.mac_core.specs.declared.fail.BlockFail.TheVariants.{BlockMac}
use Rattle.mac_core.proofs.OneReading.{Stop, one_reading}

-- what an answer tells of the bytes: the contents of the right blocks, and what stops behind them
record Told (base bytes : List ℕ) (x : Result Bool BlockFail) : Type 0 where
  contents : List (List ℕ)
  rest : List ℕ
  each : All IsContent contents
  is : bytes ≡ blocks base 0 contents ++ rest
  stop : Stop base (length contents) rest x

told : (start : Start) (out bytes : List ℕ) (x : Result Bool BlockFail) → FeedReturns start out bytes x → Told start.base bytes x
told start out bytes (Ok true) a = record {
  contents = a.contents;
  rest = block start.base (length a.contents) [] ++ a.whole.tail;
  each = a.whole.each;
  is = a.whole.is ∙ append_assoc (blocks start.base 0 a.contents) (block start.base (length a.contents) []) a.whole.tail;
  stop = (a.whole.tail, refl);
}
told start out bytes (Ok false) a = record {
  contents = a.contents;
  rest = a.rest;
  each = a.unfinished.each;
  is = a.unfinished.is;
  stop = a.unfinished.part;
}
told start out bytes (Err (BlockMac i)) a = record {
  contents = a.contents;
  rest = (a.mac ++ length_prefixed a.content) ++ a.tail;
  each = a.each;
  is = a.is ∙ append_assoc (blocks start.base 0 a.contents) (a.mac ++ length_prefixed a.content) a.tail;
  stop = (
    sym a.index,
    record {
      frame = record { mac = a.mac; content = a.content; tail = a.tail; mac_len = a.mac_len; size = a.size; is = refl };
      wrong = subst (λ (n : ℕ). a.mac ≢ mac_of start.base n a.content) (sym a.index) a.wrong;
    },
  );
}
told start out bytes (Err fail) a = absurd a

-- two tellings of the same bytes are one
one_telling : (base bytes : List ℕ) (x y : Result Bool BlockFail) (a : Told base bytes x) (b : Told base bytes y)
    → (x ≡ y) × (a.contents ≡ b.contents) × (a.rest ≡ b.rest)
one_telling base bytes x y a b =
    one_reading base bytes 0 (length a.contents) (length b.contents) a.contents b.contents a.rest b.rest x y
    a.each b.each a.is b.is (omega arith) (omega arith) a.stop b.stop

pub same_answer : (start : Start) (out other bytes : List ℕ) (x y : Result Bool BlockFail)
    → FeedReturns start out bytes x → FeedReturns start other bytes y → x ≡ y
same_answer start out other bytes x y a b =
    (one_telling start.base bytes x y (told start out bytes x a) (told start other bytes y b)).0

pub same_output : (start : Start) (out other bytes : List ℕ) (x : Result Bool BlockFail)
    → FeedReturns start out bytes x → FeedReturns start other bytes x → OnOk x (out ≡ other)
unfolding told
same_output start out other bytes (Ok true) a b =
    let one = one_telling start.base bytes (Ok true) (Ok true) (told start out bytes (Ok true) a) (told start other bytes (Ok true) b) in
    a.given ∙ ap (λ (ds : List (List ℕ)). start.before ++ concat_contents ds) one.1 ∙ sym b.given
same_output start out other bytes (Ok false) a b =
    let one = one_telling start.base bytes (Ok false) (Ok false) (told start out bytes (Ok false) a) (told start other bytes (Ok false) b) in
    a.given ∙ ap (λ (ds : List (List ℕ)). start.before ++ concat_contents ds ++ drop 36 a.rest) one.1
    ∙ ap (λ (r : List ℕ). start.before ++ concat_contents b.contents ++ drop 36 r) one.2 ∙ sym b.given
same_output start out other bytes (Err e) a b = tt

-- more bytes change no refusal
pub still_refused : (start : Start) (out other bytes more : List ℕ) (e : BlockFail)
    → FeedReturns start out bytes (Err e) → FeedReturns start other (bytes ++ more) (Err e)
still_refused start out other bytes more (BlockMac i) a = record {
  contents = a.contents;
  mac = a.mac;
  content = a.content;
  tail = a.tail ++ more;
  each = a.each;
  index = a.index;
  mac_len = a.mac_len;
  size = a.size;
  wrong = a.wrong;
  is = ap (λ (b : List ℕ). b ++ more) a.is ∙ append_assoc (blocks start.base 0 a.contents ++ (a.mac ++ length_prefixed a.content)) a.tail more;
}
still_refused start out other bytes more fail a = absurd a

-- bytes behind the end block change nothing
pub still_ended : (start : Start) (out bytes more : List ℕ) → AtEnd start out bytes → AtEnd start out (bytes ++ more)
still_ended start out bytes more a = record {
  contents = a.contents;
  whole = record {
    tail = a.whole.tail ++ more;
    each = a.whole.each;
    is = ap (λ (b : List ℕ). b ++ more) a.whole.is
        ∙ append_assoc (blocks start.base 0 a.contents ++ block start.base (length a.contents) []) a.whole.tail more;
  };
  given = a.given;
}

-- right blocks and a right end block are read as such, whatever the pieces were
pub written_is_read : (start : Start) (contents : List (List ℕ)) (tail out : List ℕ) (x : Result Bool BlockFail) → All IsContent contents
    → FeedReturns start out (blocks start.base 0 contents ++ block start.base (length contents) [] ++ tail) x
    → (x ≡ Ok true) × (out ≡ start.before ++ concat_contents contents)
written_is_read start contents tail out x each a =
    let bytes = blocks start.base 0 contents ++ block start.base (length contents) [] ++ tail in
    let whole = start.before ++ concat_contents contents in
    let end : FeedReturns start whole bytes (Ok true) =
    record { contents = contents; whole = record { tail = tail; each = each; is = refl }; given = refl } in
    let same : x ≡ Ok true = same_answer start out whole bytes x (Ok true) a end in
    (same, same_output start out whole bytes (Ok true) (subst (FeedReturns start out bytes) same a) end)

-- The same bytes are read in one way only: which blocks they are, and what stands behind them.
use Rattle.std.proofs.Common.{◌≡◌, ◌≢◌, ℕ, suc, ◌+◌, ◌<◌, ◌^◌, List, [], ◌∷◌, ◌++◌, length, drop, take, refl, sym, ◌∙◌, ap, subst, arith, All, Bool, true, false, Result, Ok, Err}
use Rattle.std.proofs.lemmas.List.{append_assoc, drop_at, length-append, take_at}
use Rattle.std.proofs.lemmas.List.Elements.{All-head, All-tail}
use Rattle.std.specs.Int.{w32, to_le_bytes}
use Rattle.sha2.proofs.Facts256.{length-sha256}
use Rattle.mac_core.specs.Blocks.{IsContent, block, blocks, mac_of, size_in, length_prefixed}
use Rattle.mac_core.specs.Hmac.{hmac}
use Rattle.mac_core.specs.declared.fail.BlockFail.{BlockFail}
use Rattle.mac_core.specs.declared.fail.BlockFail.TheVariants.{BlockMac}
use Rattle.mac_core.proofs.BlockLists.{size_in_head}

-- the bytes begin with a whole block, whatever its MAC
pub record Frame (bytes : List ℕ) : Type 0 where
  pub mac : List ℕ
  pub content : List ℕ
  pub tail : List ℕ
  pub mac_len : length mac ≡ 32
  pub size : length content < 2 ^ 32
  pub is : bytes ≡ (mac ++ length_prefixed content) ++ tail

-- the four bytes of a frame's size
abbrev size_bytes : (bytes : List ℕ) → Frame bytes → List ℕ
size_bytes bytes x = to_le_bytes w32 (length x.content)

head_len : (bytes : List ℕ) (x : Frame bytes) → length (x.mac ++ size_bytes bytes x) ≡ 36
head_len bytes x = omega (arith, length-append x.mac (size_bytes bytes x), x.mac_len)

-- a frame is its head, and its content with what stands behind it
head_first : (bytes : List ℕ) (x : Frame bytes) → bytes ≡ (x.mac ++ size_bytes bytes x) ++ (x.content ++ x.tail)
head_first bytes x = x.is ∙ append_assoc x.mac (length_prefixed x.content) x.tail ∙ sym (append_assoc x.mac (size_bytes bytes x) (x.content ++ x.tail))

pub frame_size : (bytes : List ℕ) (x : Frame bytes) → size_in bytes ≡ length x.content
frame_size bytes x =
    ap size_in (head_first bytes x)
    ∙ size_in_head (x.mac ++ size_bytes bytes x) (x.content ++ x.tail) (length x.content) (head_len bytes x) x.size
    (drop_at x.mac (size_bytes bytes x) 32 x.mac_len)

pub frame_mac : (bytes : List ℕ) (x : Frame bytes) → x.mac ≡ take 32 bytes
frame_mac bytes x =
    sym (ap (λ (b : List ℕ). take 32 b) (x.is ∙ append_assoc x.mac (length_prefixed x.content) x.tail) ∙ take_at x.mac (length_prefixed x.content ++ x.tail) 32 x.mac_len)

-- a frame's head is at its front
pub frame_head : (bytes : List ℕ) (x : Frame bytes) → take 36 bytes ≡ x.mac ++ to_le_bytes w32 (length x.content)
frame_head bytes x =
    ap (λ (b : List ℕ). take 36 b) (head_first bytes x) ∙ take_at (x.mac ++ size_bytes bytes x) (x.content ++ x.tail) 36 (head_len bytes x)

frame_rest : (bytes : List ℕ) (x : Frame bytes) → drop 36 bytes ≡ x.content ++ x.tail
frame_rest bytes x =
    ap (λ (b : List ℕ). drop 36 b) (head_first bytes x) ∙ drop_at (x.mac ++ size_bytes bytes x) (x.content ++ x.tail) 36 (head_len bytes x)

pub frame_content : (bytes : List ℕ) (x : Frame bytes) → x.content ≡ take (size_in bytes) (drop 36 bytes)
frame_content bytes x =
    sym (ap (λ (b : List ℕ). take (size_in bytes) b) (frame_rest bytes x) ∙ take_at x.content x.tail (size_in bytes) (sym (frame_size bytes x)))

pub frame_tail : (bytes : List ℕ) (x : Frame bytes) → x.tail ≡ drop (size_in bytes) (drop 36 bytes)
frame_tail bytes x =
    sym (ap (λ (b : List ℕ). drop (size_in bytes) b) (frame_rest bytes x) ∙ drop_at x.content x.tail (size_in bytes) (sym (frame_size bytes x)))

-- bytes that begin with a whole block are no part of one
not_part : (bytes : List ℕ) → Frame bytes → length bytes < 36 + size_in bytes → ⊥
not_part bytes x part =
    let long : length bytes ≡ 36 + (length x.content + length x.tail) =
    ap (λ (b : List ℕ). length b) (head_first bytes x)
    ∙ omega (arith, length-append (x.mac ++ size_bytes bytes x) (x.content ++ x.tail), head_len bytes x, length-append x.content x.tail) in
    let size = frame_size bytes x in
    omega (arith, part)

-- a MAC has 32 bytes
pub mac_len : (base : List ℕ) (i : ℕ) (content : List ℕ) → length (mac_of base i content) ≡ 32
unfolding mac_of hmac
mac_len base i content = length-sha256 _

-- a right block is a whole one
abbrev pub right_frame : (base : List ℕ) (i : ℕ) (content tail bytes : List ℕ) → length content < 2 ^ 32 → bytes ≡ block base i content ++ tail → Frame bytes
right_frame base i content tail bytes small e = record {
  mac = mac_of base i content;
  content = content;
  tail = tail;
  mac_len = mac_len base i content;
  size = small;
  is = e;
}

-- a whole block whose MAC is not the right one
pub record IsWrong (base : List ℕ) (i : ℕ) (bytes : List ℕ) : Type 0 where
  pub frame : Frame bytes
  pub wrong : frame.mac ≢ mac_of base i frame.content

-- a right block is no wrong one
not_wrong : (base : List ℕ) (i : ℕ) (content tail bytes : List ℕ) → length content < 2 ^ 32 → bytes ≡ block base i content ++ tail
    → IsWrong base i bytes → ⊥
not_wrong base i content tail bytes small e h =
    let x = right_frame base i content tail bytes small e in
    let y = h.frame in
    let same : y.content ≡ content = frame_content bytes y ∙ sym (frame_content bytes x) in
    h.wrong (frame_mac bytes y ∙ sym (frame_mac bytes x) ∙ ap (mac_of base i) (sym same))

-- what stands behind the right blocks, by the answer; i is the index that is due
abbrev pub Stop : List ℕ → ℕ → List ℕ → Result Bool BlockFail → Type 0
Stop base i rest (Ok true) = (tail : List ℕ) × (rest ≡ block base i [] ++ tail)
Stop base i rest (Ok false) = length rest < 36 + size_in rest
Stop base i rest (Err (BlockMac n)) = (n ≡ i) × IsWrong base i rest
Stop base i rest (Err _) = ⊥

-- where a block with a content is due and right, nothing stops
no_stop : (base : List ℕ) (i : ℕ) (content tail bytes : List ℕ) (x : Result Bool BlockFail) → IsContent content
    → bytes ≡ block base i content ++ tail → Stop base i bytes x → ⊥
no_stop base i content tail bytes (Ok true) is e stop =
    let x = right_frame base i content tail bytes is.1 e in
    let y = right_frame base i [] stop.0 bytes (omega arith) stop.1 in
    let size = sym (frame_size bytes x) ∙ frame_size bytes y in
    let some = is.0 in
    omega (arith, size, some)
no_stop base i content tail bytes (Ok false) is e stop = not_part bytes (right_frame base i content tail bytes is.1 e) stop
no_stop base i content tail bytes (Err (BlockMac n)) is e stop = not_wrong base i content tail bytes is.1 e stop.1
no_stop base i content tail bytes (Err fail) is e stop = absurd stop

-- the same bytes stop in one way
one_stop : (base : List ℕ) (i : ℕ) (bytes : List ℕ) (x y : Result Bool BlockFail) → Stop base i bytes x → Stop base i bytes y → x ≡ y
one_stop base i bytes (Ok true) (Ok true) s t = refl
one_stop base i bytes (Ok true) (Ok false) s t = absurd (not_part bytes (right_frame base i [] s.0 bytes (omega arith) s.1) t)
one_stop base i bytes (Ok true) (Err (BlockMac n)) s t = absurd (not_wrong base i [] s.0 bytes (omega arith) s.1 t.1)
one_stop base i bytes (Ok true) (Err fail) s t = absurd t
one_stop base i bytes (Ok false) (Ok true) s t = absurd (not_part bytes (right_frame base i [] t.0 bytes (omega arith) t.1) s)
one_stop base i bytes (Ok false) (Ok false) s t = refl
one_stop base i bytes (Ok false) (Err (BlockMac n)) s t = absurd (not_part bytes t.1.frame s)
one_stop base i bytes (Ok false) (Err fail) s t = absurd t
one_stop base i bytes (Err (BlockMac m)) (Ok true) s t = absurd (not_wrong base i [] t.0 bytes (omega arith) t.1 s.1)
one_stop base i bytes (Err (BlockMac m)) (Ok false) s t = absurd (not_part bytes s.1.frame t)
one_stop base i bytes (Err (BlockMac m)) (Err (BlockMac n)) s t =
    let refused : ℕ → Result Bool BlockFail = λ k. Err (BlockMac k) in ap refused (s.0 ∙ sym t.0)
one_stop base i bytes (Err (BlockMac m)) (Err fail) s t = absurd t
one_stop base i bytes (Err fail) y s t = absurd s

-- the bytes are right blocks, and what stops behind them
pub record Reading (base bytes : List ℕ) (i : ℕ) (x : Result Bool BlockFail) : Type 0 where
  pub contents : List (List ℕ)
  pub rest : List ℕ
  pub each : All IsContent contents
  pub is : bytes ≡ blocks base i contents ++ rest
  pub stop : Stop base (i + length contents) rest x

-- there is one such reading
pub one_reading : (base bytes : List ℕ) (i j k : ℕ) (ds es : List (List ℕ)) (rest left : List ℕ) (x y : Result Bool BlockFail)
    → All IsContent ds → All IsContent es → bytes ≡ blocks base i ds ++ rest → bytes ≡ blocks base i es ++ left
    → j ≡ i + length ds → k ≡ i + length es → Stop base j rest x → Stop base k left y → (x ≡ y) × (ds ≡ es) × (rest ≡ left)
unfolding blocks
one_reading base bytes i j k [] [] rest left x y ea eb a b ja kb s t =
    let same : rest ≡ left = sym a ∙ b in
    let due : k ≡ j = omega arith in
    (one_stop base j rest x y s (subst (λ (r : List ℕ). Stop base j r y) (sym same) (subst (λ (n : ℕ). Stop base n left y) due t)), refl, same)
one_reading base bytes i j k [] (e ∷ es) rest left x y ea eb a b ja kb s t =
    let due : j ≡ i = omega arith in
    let front : rest ≡ block base i e ++ (blocks base (suc i) es ++ left) = sym a ∙ b ∙ append_assoc (block base i e) (blocks base (suc i) es) left in
    absurd (no_stop base i e (blocks base (suc i) es ++ left) rest x (All-head IsContent e es eb) front (subst (λ (n : ℕ). Stop base n rest x) due s))
one_reading base bytes i j k (d ∷ ds) [] rest left x y ea eb a b ja kb s t =
    let due : k ≡ i = omega arith in
    let front : left ≡ block base i d ++ (blocks base (suc i) ds ++ rest) = sym b ∙ a ∙ append_assoc (block base i d) (blocks base (suc i) ds) rest in
    absurd (no_stop base i d (blocks base (suc i) ds ++ rest) left y (All-head IsContent d ds ea) front (subst (λ (n : ℕ). Stop base n left y) due t))
one_reading base bytes i j k (d ∷ ds) (e ∷ es) rest left x y ea eb a b ja kb s t =
    let behind_d = blocks base (suc i) ds ++ rest in
    let behind_e = blocks base (suc i) es ++ left in
    let front_d : bytes ≡ block base i d ++ behind_d = a ∙ append_assoc (block base i d) (blocks base (suc i) ds) rest in
    let front_e : bytes ≡ block base i e ++ behind_e = b ∙ append_assoc (block base i e) (blocks base (suc i) es) left in
    let d_is = All-head IsContent d ds ea in
    let e_is = All-head IsContent e es eb in
    let fd = right_frame base i d behind_d bytes d_is.1 front_d in
    let fe = right_frame base i e behind_e bytes e_is.1 front_e in
    let same : d ≡ e = frame_content bytes fd ∙ sym (frame_content bytes fe) in
    let behind : behind_d ≡ behind_e = frame_tail bytes fd ∙ sym (frame_tail bytes fe) in
    let more = one_reading base behind_d (suc i) j k ds es rest left x y (All-tail IsContent d ds ea) (All-tail IsContent e es eb)
    refl behind (omega (arith, ja)) (omega (arith, kb)) s t in
    (more.0, cc, more.2)

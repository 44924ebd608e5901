-- Base64 in pieces of 48 bytes.
use Rattle.std.proofs.Common.{◌≡◌, ℕ, ◌+◌, ◌-◌, ◌%◌, ◌≤◌, ◌<◌, List, [], ◌∷◌, ◌++◌, length, take, drop, min, refl, ap, sym, ◌∙◌, arith, inl, inr, append-nil, append_assoc}
use Rattle.std.proofs.lemmas.Bool.{cases_lt}
use Rattle.std.proofs.lemmas.List.{drop_all, take_all, length-append, length-take, length-drop, length-replicate, take-append-drop}
use Rattle.base64.proofs.EngineFacts.{encode_of-append, encode_of-nil}
use Rattle.base64.proofs.RoundTrip.{length-encode_symbols}
use Rattle.base64.specs.Engines.{standard}
use Rattle.stream_core.proofs.StreamLemmas.{length-xored, xored-append}
use Rattle.stream_core.specs.Stream.{xor_stream}
use Rattle.doc_sinks.specs.Chunks.{base64}
use Rattle.doc_sinks.specs.Sinks.{coded_len}

pub coded_length : (b : List ℕ) → length (base64 b) ≡ coded_len (length b)
coded_length b = simp (length-append, length-encode_symbols, length-replicate)

-- a front of 48 bytes, or the whole
pub coded_cut : (rest : List ℕ) (m : ℕ) → m ≡ min (length rest) 48 → base64 rest ≡ base64 (take m rest) ++ base64 (drop m rest)
coded_cut rest m e = elim (cases_lt 48 (length rest)) [
  | inl more ↦
      let len : length (take m rest) ≡ 48 = rw length-take (omega arith) in
      let whole : length (take m rest) % 3 ≡ 0 = rw len refl in
      ap base64 (sym (take-append-drop m rest)) ∙ encode_of-append standard (take m rest) (drop m rest) whole
  | inr all ↦
      let past : length rest ≤ m = omega arith in
      rw (take_all m rest past, drop_all m rest past, encode_of-nil standard, append-nil) refl
]

pub coded_cut_len : (n m : ℕ) → m ≡ min n 48 → coded_len n ≡ coded_len m + coded_len (n - m)
coded_cut_len n m e = elim (cases_lt 48 n) [ inl more ↦ omega arith | inr all ↦ omega arith ]

pub coded_cut_len_min : (n m : ℕ) → m ≡ min n 48 → coded_len n ≡ coded_len (min m n) + coded_len (n - m)
coded_cut_len_min n m e = elim (cases_lt 48 n) [ inl more ↦ omega arith | inr all ↦ omega arith ]

pub hidden_cut : (f : ℕ → ℕ) (p : ℕ) (rest : List ℕ) (m : ℕ) → m ≡ min (length rest) 48
    → base64 (xor_stream f p rest) ≡ base64 (xor_stream f p (take m rest)) ++ base64 (xor_stream f (p + length (take m rest)) (drop m rest))
hidden_cut f p rest m e = elim (cases_lt 48 (length rest)) [
  | inl more ↦
      let len : length (take m rest) ≡ 48 = rw length-take (omega arith) in
      let whole : length (xor_stream f p (take m rest)) % 3 ≡ 0 = rw (length-xored, len) refl in
      ap (λ b. base64 (xor_stream f p b)) (sym (take-append-drop m rest))
      ∙ ap base64 (xored-append f p (take m rest) (drop m rest))
      ∙ encode_of-append standard (xor_stream f p (take m rest)) (xor_stream f (p + length (take m rest)) (drop m rest)) whole
  | inr all ↦
      let past : length rest ≤ m = omega arith in
      rw (take_all m rest past, drop_all m rest past, encode_of-nil standard, append-nil) refl
]

-- a group of the bytes that are left, and the others
pub record IsCut (rest group more : List ℕ) : Type 0 where
  pub bytes : base64 rest ≡ base64 group ++ base64 more
  pub len : coded_len (length rest) ≡ coded_len (length group) + coded_len (length more)

pub coded_step : (rest group more : List ℕ) (m : ℕ) → m ≡ min (length rest) 48 → group ≡ take m rest → more ≡ drop m rest → IsCut rest group more
coded_step rest group more m e front back =
    rw (front, back)
    (record {
      bytes = coded_cut rest m e;
      len = simp (length-take, length-drop) (coded_cut_len_min (length rest) m e);
    })

pub coded_end : (rest text whole : List ℕ) → length rest ≡ 0 → text ++ base64 rest ≡ whole → text ≡ whole
coded_end [] text whole none e = sym (append-nil text) ∙ ap (λ b. text ++ b) (sym (encode_of-nil standard)) ∙ e
coded_end (x ∷ rest) text whole none e = absurd (omega arith)

-- the same of bytes that are hidden
pub hidden_step : (f : ℕ → ℕ) (p : ℕ) (rest group more : List ℕ) (m : ℕ) → m ≡ min (length rest) 48 → group ≡ take m rest → more ≡ drop m rest
    → base64 (xor_stream f p rest) ≡ base64 (xor_stream f p group) ++ base64 (xor_stream f (p + length group) more)
hidden_step f p rest group more m e front back = rw (front, back) (hidden_cut f p rest m e)

pub hidden_end : (f : ℕ → ℕ) (p : ℕ) (rest text whole : List ℕ) → length rest ≡ 0 → text ++ base64 (xor_stream f p rest) ≡ whole → text ≡ whole
hidden_end f p [] text whole none e = coded_end [] text whole refl e
hidden_end f p (x ∷ rest) text whole none e = absurd (omega arith)

-- what was put so far, and what is left
pub bytes_step : (now text group more rest whole : List ℕ) → now ≡ text ++ group → rest ≡ group ++ more → text ++ rest ≡ whole → now ++ more ≡ whole
bytes_step now text group more rest whole e f g =
    ap (λ b. b ++ more) e ∙ append_assoc text group more ∙ ap (λ b. text ++ b) (sym f) ∙ g

pub room_step : (now before k more rest all init : ℕ) → now ≡ before - k → rest ≡ k + more → before + all ≡ init + rest → rest ≤ before
    → (now + all ≡ init + more) × (more ≤ now)
room_step now before k more rest all init e f g h = (omega arith, omega arith)

pub cut_lengths : (m : ℕ) (rest : List ℕ) → length (take m rest) + length (drop m rest) ≡ length rest
cut_lengths m rest = omega (arith, length-take {A = ℕ}, length-drop {A = ℕ})

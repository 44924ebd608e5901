-- A text that is enciphered with its padding is deciphered without it.
use Rattle.std.proofs.Common.{◌≡◌, ℕ, ◌%◌, List, length, Some, None, cond, ◌∙◌, ap}
use Rattle.std.proofs.lemmas.Bool.{eq-eqb}
use Rattle.block_core.specs.Cbc.{cbc_deciphered}
use Rattle.block_core.specs.Padding.{padded, unpadded}
use Rattle.block_core.proofs.PaddingSteps.{IsPadded-padded, unpadded-padded}
use Rattle.kdbx_payload.specs.Ciphers.{cbc_text}

pub unchained_again : (decipher : List ℕ → List ℕ) (iv content filled text : List ℕ) → filled ≡ padded text → cbc_deciphered decipher iv content ≡ filled
    → length content ≡ length filled → cbc_text decipher iv content ≡ Some text
unchained_again decipher iv content filled text pad undone len =
    let whole : length content % 16 ≡ 0 = ap (λ (k : ℕ). k % 16) (len ∙ ap length pad) ∙ (IsPadded-padded text).whole in
    ap (λ b. cond b (unpadded (cbc_deciphered decipher iv content)) None) (eq-eqb (length content % 16) 0 whole)
    ∙ ap unpadded (undone ∙ pad)
    ∙ unpadded-padded text

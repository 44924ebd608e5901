use Rattle.std.proofs.Common.{◌≡◌, ℕ, List, ◌++◌, take, ◌∙◌, ap}
use Rattle.std.specs.Int.{w32, w64, to_le_bytes}
use Rattle.kdbx_parts.specs.declared.parts.LengthWidth.TheVariants.{Two}
use Rattle.kdbx_frame.specs.Settings.{iv_len}
use Rattle.kdbx_writing.specs.Fields.{spelled_field_with}
use Rattle.kdbx_writing.specs.Header.{cipher_id, rounds_of, salsa20, stream_key_31}
use Rattle.kdbx_writing.proofs.HeaderPieces.{and_last, then_more}
use Rattle.kdbx_writing.proofs.header.put_fields_31.Goals as goal

pub returns : goal.returns
returns c =
    let s = c.args.settings.now in
    let d = c.args.draws.now in
    let o0 : List ℕ = c.args.out.now in
    let o1 : List ℕ = c.put_field.new.out in
    let f1 : List ℕ = spelled_field_with Two (2, cipher_id s.cipher) in
    let e1 : o1 ≡ o0 ++ f1 = c.in_ok-put_field.ensures ∙ ap (λ (xs : List ℕ). o0 ++ spelled_field_with Two (2, xs)) c.cipher_id.ensures in
    let o2 : List ℕ = c.put_field-2.new.out in
    let f2 : List ℕ = spelled_field_with Two (3, to_le_bytes w32 0) in
    let e2 : o2 ≡ o1 ++ f2 = c.in_ok-put_field-2.ensures ∙ ap (λ (xs : List ℕ). o1 ++ spelled_field_with Two (3, xs)) c.to_le_bytes.ensures in
    let o3 : List ℕ = c.put_field-3.new.out in
    let f3 : List ℕ = spelled_field_with Two (4, d.seed) in
    let e3 : o3 ≡ o2 ++ f3 = c.in_ok-put_field-3.ensures ∙ ap (λ (xs : List ℕ). o2 ++ spelled_field_with Two (4, xs)) c.bytes.ensures in
    let o4 : List ℕ = c.put_field-4.new.out in
    let f4 : List ℕ = spelled_field_with Two (5, d.kdf) in
    let e4 : o4 ≡ o3 ++ f4 = c.in_ok-put_field-4.ensures ∙ ap (λ (xs : List ℕ). o3 ++ spelled_field_with Two (5, xs)) c.bytes-2.ensures in
    let o5 : List ℕ = c.put_field-5.new.out in
    let f5 : List ℕ = spelled_field_with Two (6, to_le_bytes w64 (rounds_of s.kdf)) in
    let e5 : o5 ≡ o4 ++ f5 = c.in_ok-put_field-5.ensures ∙ ap (λ (xs : List ℕ). o4 ++ spelled_field_with Two (6, xs)) (c.to_le_bytes-2.ensures ∙ ap (to_le_bytes w64) c.rounds_of.ensures) in
    let o6 : List ℕ = c.put_field-6.new.out in
    let f6 : List ℕ = spelled_field_with Two (7, take (iv_len s.cipher) d.iv) in
    let e6 : o6 ≡ o5 ++ f6 = c.in_ok-put_field-6.ensures ∙ ap (λ (xs : List ℕ). o5 ++ spelled_field_with Two (7, xs)) (ap (λ (n : ℕ). take n c.bytes-3.result.now) c.iv_len.ensures.value ∙ ap (λ (xs : List ℕ). take (iv_len s.cipher) xs) c.bytes-3.ensures) in
    let o7 : List ℕ = c.put_field-7.new.out in
    let f7 : List ℕ = spelled_field_with Two (8, stream_key_31 d) in
    let e7 : o7 ≡ o6 ++ f7 = c.in_ok-put_field-7.ensures ∙ ap (λ (xs : List ℕ). o6 ++ spelled_field_with Two (8, xs)) (ap (λ (xs : List ℕ). take 32 xs) c.bytes-4.ensures) in
    let o8 : List ℕ = c.put_field-8.new.out in
    let f8 : List ℕ = spelled_field_with Two (9, d.start) in
    let e8 : o8 ≡ o7 ++ f8 = c.in_ok-put_field-8.ensures ∙ ap (λ (xs : List ℕ). o7 ++ spelled_field_with Two (9, xs)) c.bytes-5.ensures in
    let o9 : List ℕ = c.put_field-9.new.out in
    let f9 : List ℕ = spelled_field_with Two (10, to_le_bytes w32 salsa20) in
    let e9 : o9 ≡ o8 ++ f9 = c.in_ok-put_field-9.ensures ∙ ap (λ (xs : List ℕ). o8 ++ spelled_field_with Two (10, xs)) c.to_le_bytes-3.ensures in
    then_more o0 o1 o9 f1 _ e1
    (then_more o1 o2 o9 f2 _ e2
    (then_more o2 o3 o9 f3 _ e3
    (then_more o3 o4 o9 f4 _ e4
    (then_more o4 o5 o9 f5 _ e5
    (then_more o5 o6 o9 f6 _ e6
    (then_more o6 o7 o9 f7 _ e7
    (then_more o7 o8 o9 f8 _ e8
    (and_last o8 o9 f9 e9))))))))

use Rattle.std.proofs.Common.{◌≡◌, ℕ, List, ◌++◌, take, ◌∙◌, ap}
use Rattle.std.specs.Int.{w32, to_le_bytes}
use Rattle.kdbx_parts.specs.declared.parts.LengthWidth.TheVariants.{Four}
use Rattle.kdbx_frame.specs.Settings.{iv_len}
use Rattle.kdbx_writing.specs.Fields.{spelled_field_with}
use Rattle.kdbx_writing.specs.Header.{cipher_id}
use Rattle.kdbx_writing.specs.Kdf.{spelled_kdf, with_salt}
use Rattle.kdbx_writing.proofs.HeaderPieces.{then_more}
use Rattle.kdbx_writing.proofs.header.put_fields_4.Goals as goal

pub returns : goal.returns
returns c =
    let s = c.args.settings.now in
    let d = c.args.draws.now in
    let o0 : List ℕ = c.args.out.now in
    let o1 : List ℕ = c.put_field.new.out in
    let f1 : List ℕ = spelled_field_with Four (2, cipher_id s.cipher) in
    let e1 : o1 ≡ o0 ++ f1 = c.in_ok-put_field.ensures ∙ ap (λ (xs : List ℕ). o0 ++ spelled_field_with Four (2, xs)) c.cipher_id.ensures in
    let o2 : List ℕ = c.put_field-2.new.out in
    let f2 : List ℕ = spelled_field_with Four (3, to_le_bytes w32 0) in
    let e2 : o2 ≡ o1 ++ f2 = c.in_ok-put_field-2.ensures ∙ ap (λ (xs : List ℕ). o1 ++ spelled_field_with Four (3, xs)) c.to_le_bytes.ensures in
    let o3 : List ℕ = c.put_field-3.new.out in
    let f3 : List ℕ = spelled_field_with Four (4, d.seed) in
    let e3 : o3 ≡ o2 ++ f3 = c.in_ok-put_field-3.ensures ∙ ap (λ (xs : List ℕ). o2 ++ spelled_field_with Four (4, xs)) c.bytes.ensures in
    let o4 : List ℕ = c.put_field-4.new.out in
    let f4 : List ℕ = spelled_field_with Four (7, take (iv_len s.cipher) d.iv) in
    let e4 : o4 ≡ o3 ++ f4 = c.in_ok-put_field-4.ensures ∙ ap (λ (xs : List ℕ). o3 ++ spelled_field_with Four (7, xs)) (ap (λ (n : ℕ). take n c.bytes-2.result.now) c.iv_len.ensures.value ∙ ap (λ (xs : List ℕ). take (iv_len s.cipher) xs) c.bytes-2.ensures) in
    let o5 : List ℕ = c.put_field-5.new.out in
    let f5 : List ℕ = spelled_field_with Four (11, spelled_kdf (with_salt s.kdf d.kdf)) in
    let e5 : o5 ≡ o4 ++ f5 = c.in_ok-put_field-5.ensures ∙ ap (λ (xs : List ℕ). o4 ++ spelled_field_with Four (11, xs)) (c.as_slice.ensures ∙ c.in_ok-kdf.ensures.value ∙ ap (λ (xs : List ℕ). spelled_kdf (with_salt s.kdf xs)) c.bytes-3.ensures) in
    let q : List ℕ = c.put_public.new.out in
    then_more o0 o1 q f1 _ e1
    (then_more o1 o2 q f2 _ e2
    (then_more o2 o3 q f3 _ e3
    (then_more o3 o4 q f4 _ e4
    (then_more o4 o5 q f5 _ e5 c.in_ok-put_public.ensures))))

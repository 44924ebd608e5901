use Rattle.std.proofs.Common.{◌≡◌, ℕ, List, [], ◌++◌, subst, OnOk}
use Rattle.std.specs.Prelude.{codes}
use Rattle.std.specs.Int.{w32, w64, to_le_bytes}
use Rattle.kdbx_parts.specs.Dictionary.{aes_kdf}
use Rattle.kdbx_writing.specs.Kdf.{spelled_item}
use Rattle.kdbx_writing.proofs.KdfPieces.{puts_last, puts_more, six, three}
use Rattle.kdbx_writing.proofs.kdf.put_items.Goals as goal

pub returns-in_ok-put_u64-in-Aes : goal.returns-in_ok-put_u64-in-Aes
returns-in_ok-put_u64-in-Aes c =
    let id = spelled_item (0x42, codes "$UUID", aes_kdf) in
    let rounds = spelled_item (0x05, codes "R", to_le_bytes w64 c.in-Aes.rounds) in
    let seed = spelled_item (0x42, codes "S", c.args.salt.now) in
    rw c.in-Aes.is (puts_last _ _ _ _ (id ++ rounds) seed _ (three id rounds seed)
    (puts_more _ _ _ id rounds c.in_ok-put_id-in-Aes.ensures c.in_ok-put_u64-in-Aes.ensures) c.put_item.ensures)

pub returns-in_ok-put_u64-in-Argon-2 : goal.returns-in_ok-put_u64-in-Argon-2
returns-in_ok-put_u64-in-Argon-2 c =
    let salt = spelled_item (0x42, codes "S", c.args.salt.now) in
    let lanes = spelled_item (0x04, codes "P", to_le_bytes w32 c.in-Argon.lanes) in
    let memory = spelled_item (0x05, codes "M", to_le_bytes w64 c.in-Argon.bytes) in
    let passes = spelled_item (0x05, codes "I", to_le_bytes w64 c.in-Argon.passes) in
    let version = spelled_item (0x04, codes "V", to_le_bytes w32 0x13) in
    let by : List ℕ → Type 0 = λ kind. OnOk c.put_u32-in-Argon.result (c.put_u32-in-Argon.new.out
    ≡ c.args.out.now ++ (spelled_item (0x42, codes "$UUID", kind) ++ (salt ++ (lanes ++ (memory ++ (passes ++ (version ++ []))))))) in
    let id = spelled_item (0x42, codes "$UUID", c.argon_id.result) in
    rw c.in-Argon.is (subst by c.argon_id.ensures
    (puts_last _ _ _ _ (id ++ salt ++ lanes ++ memory ++ passes) version _ (six id salt lanes memory passes version)
    (puts_more _ _ _ (id ++ salt ++ lanes ++ memory) passes
    (puts_more _ _ _ (id ++ salt ++ lanes) memory
    (puts_more _ _ _ (id ++ salt) lanes
    (puts_more _ _ _ id salt c.in_ok-put_id-in-Argon.ensures c.in_ok-put_item-in-Argon.ensures)
    c.in_ok-put_u32-in-Argon.ensures) c.in_ok-put_u64-in-Argon.ensures) c.in_ok-put_u64-in-Argon-2.ensures) c.put_u32-in-Argon.ensures))

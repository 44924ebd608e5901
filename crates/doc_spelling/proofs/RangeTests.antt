-- What the tests of ranges say.
use Rattle.std.proofs.Common.{◌≡◌, ℕ, zero, suc, ◌≤◌, ◌==◌, nat_lt, true, Option, Some, None, List, [], ◌∷◌, length, ℤ, pos, negsuc, int_le, arith, ltb-true, leb-true}
use Rattle.std.proofs.lemmas.Bool.{eqb-true}
use Rattle.std.specs.List.{list_all}
use Rattle.base64.specs.GeneralPurpose.{IsBytes}
use Rattle.time_core.specs.Times.{last_stamp}
use Rattle.vault_model.proofs.Tests.{and_true}
use Rattle.vault_model.specs.Db.{NodeId}
use Rattle.doc_forms.specs.declared.times.Times.{Times}
use Rattle.doc_spelling.specs.Ranges.{is_stamp, fits_u32, fits_u64, fits_i32, fits_i64, are_bytes, is_uuid, is_uuid_or_none, is_hash_or_none, fits_times}
use Rattle.doc_spelling.proofs.Goods.{If, IsId, IsHash, IsSigned, GoodTimes}

pub stamp_low : (n : ℕ) → is_stamp n ≡ true → n ≤ last_stamp
stamp_low n e = leb-true n last_stamp e

pub u32_low : (n : ℕ) → fits_u32 n ≡ true → n ≤ 4294967295
u32_low n e = omega (arith, ltb-true n 4294967296 e)

pub u64_low : (n : ℕ) → fits_u64 n ≡ true → n ≤ 18446744073709551615
u64_low n e = omega (arith, ltb-true n 18446744073709551616 e)

pub i32_signed : (z : ℤ) → fits_i32 z ≡ true → IsSigned (negsuc 2147483647) (pos 2147483647) z
i32_signed z e = let both = and_true (int_le (negsuc 2147483647) z) (int_le z (pos 2147483647)) e in record { low = both.0; high = both.1 }

pub i64_signed : (z : ℤ) → fits_i64 z ≡ true → IsSigned (negsuc 9223372036854775807) (pos 9223372036854775807) z
i64_signed z e = let both = and_true (int_le (negsuc 9223372036854775807) z) (int_le z (pos 9223372036854775807)) e in record { low = both.0; high = both.1 }

tested_bytes : (bytes : List ℕ) → list_all (λ b. nat_lt b 256) bytes ≡ true → IsBytes bytes
tested_bytes [] e i = omega arith
tested_bytes (b ∷ bs) e zero = ltb-true b 256 (and_true (nat_lt b 256) (list_all (λ b. nat_lt b 256) bs) e).0
tested_bytes (b ∷ bs) e (suc i) = tested_bytes bs (and_true (nat_lt b 256) (list_all (λ b. nat_lt b 256) bs) e).1 i

pub bytes_are : (bytes : List ℕ) → are_bytes bytes ≡ true → IsBytes bytes
unfolding are_bytes
bytes_are bytes e = tested_bytes bytes e

pub uuid_id : (u : NodeId) → is_uuid u ≡ true → IsId u
uuid_id u e =
    let both = and_true (length u == 16) (are_bytes u) e in
    record { bytes = bytes_are u both.1; sixteen = eqb-true (length u) 16 both.0 }

pub uuid_if : (o : Option NodeId) → is_uuid_or_none o ≡ true → If IsId o
uuid_if None e = tt
uuid_if (Some u) e = uuid_id u e

pub hash_if : (o : Option (List ℕ)) → is_hash_or_none o ≡ true → If IsHash o
hash_if None e = tt
hash_if (Some hash) e =
    let both = and_true (length hash == 32) (are_bytes hash) e in
    record { bytes = bytes_are hash both.1; length = eqb-true (length hash) 32 both.0 }

pub times_good : (t : Times) → fits_times t ≡ true → GoodTimes t
times_good t e =
    let t5 = and_true _ (is_stamp t.placed) e in
    let t4 = and_true _ (fits_u64 t.usage) t5.0 in
    let t3 = and_true _ (is_stamp t.expiry) t4.0 in
    let t2 = and_true _ (is_stamp t.accessed) t3.0 in
    let t1 = and_true (is_stamp t.modified) (is_stamp t.created) t2.0 in
    record {
      modified = stamp_low t.modified t1.0;
      created = stamp_low t.created t1.1;
      accessed = stamp_low t.accessed t2.1;
      expiry = stamp_low t.expiry t3.1;
      placed = stamp_low t.placed t5.1;
      usage = u64_low t.usage t4.1;
    }

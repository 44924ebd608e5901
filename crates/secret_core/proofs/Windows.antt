-- Reading a file by windows: the front of the file that stands in a buffer grows by what each window gave.
use Rattle.std.proofs.Common.{ℕ, List, [], ◌++◌, ◌≡◌, ◌≤◌, ◌<◌, ◌+◌, ◌-◌, min, Option, Some, None, unwrap_or, option_map, IfSome, Ok, length, take, drop, refl, sym, ap, subst, ◌∙◌, arith, length-drop, take-take}
use Rattle.std.specs.FinMap as map
use Rattle.std.proofs.Math.Seq.{take-add, take-append-add}
use Rattle.std.proofs.lemmas.List.{take_all, length-take, length-take-le, take-append-le}
use Rattle.std.proofs.lemmas.Option.{none-some, same_Some}
use Rattle.std.proofs.lemmas.Slice.{take-put_mid_below}
use Rattle.outside_core.specs.Files.{FileMap, window_of}
use Rattle.secret_core.specs.Secret.{SecretBuffer}
use Rattle.secret_core.specs.ReadFail.{IsRead}
use borrow.Rule.Slice.PartMut.{put_mid, mid_of, post_of, same_len_mid, mid_len}

-- A store that tells its files tells the window of a file that it has.
pub window_told : (files : Option FileMap) (m : FileMap) (bytes name part : List ℕ) (from room : ℕ)
    → files ≡ Some m → map.get m name ≡ Some bytes
    → IfSome files (λ held. window_of held name from room ≡ Some part)
    → take room (drop from bytes) ≡ part
window_told files m bytes name part from room told found window =
    let at_m : window_of m name from room ≡ Some part =
    subst (λ held. IfSome held (λ some. window_of some name from room ≡ Some part)) told window in
    let of_bytes : Some (take room (drop from bytes)) ≡ Some part =
    subst (λ file. option_map (λ all. take room (drop from all)) file ≡ Some part) found at_m in
    ap (λ found_part. unwrap_or found_part []) of_bytes

-- A buffer of which a part was lent has the length that it had, and the part has its own.
pub record IsLentPart (a e : ℕ) (xs ys : List ℕ) : Type 0 where
  pub whole : length (put_mid a (e - a) xs ys) ≡ length xs
  pub part : length ys ≡ e - a

pub lent_part : (a e : ℕ) (xs ys : List ℕ) → e ≤ length xs → length ys ≡ length (mid_of a (e - a) xs) → IsLentPart a e xs ys
lent_part a e xs ys within same =
    record { whole = same_len_mid a (e - a) xs ys same; part = same ∙ mid_len a e xs within }

-- The buffer xs holds the file's first a bytes. After n more were read into its part ys it holds a + n.
pub window_read : (bytes xs ys : List ℕ) (a k n : ℕ) → a ≤ length xs → n ≤ length ys
    → take a bytes ≡ take a xs → take (length ys) (drop a bytes) ≡ take n ys
    → take (a + n) bytes ≡ take (a + n) (put_mid a k xs ys)
window_read bytes xs ys a k n within bound front window =
    let more : take n (drop a bytes) ≡ take n ys =
    sym (take-take n (length ys) (drop a bytes) bound)
    ∙ ap (take n) window
    ∙ take-take n n ys (omega arith) in
    take-add a n bytes
    ∙ ap (λ l. l ++ take n (drop a bytes)) front
    ∙ ap (λ l. take a xs ++ l) (more ∙ sym (take-append-le n ys (post_of a k xs) bound))
    ∙ sym (take-append-add (take a xs) (ys ++ post_of a k xs) n)
    ∙ ap (λ i. take (i + n) (put_mid a k xs ys)) (length-take-le a xs within)

-- A window that gives nothing lies behind the file's last byte, so the buffer holds all of it.
pub window_empty : (bytes xs ys : List ℕ) (a k room : ℕ) → a ≤ length xs → a ≤ room → 0 < length ys
    → take a bytes ≡ take a xs → take (length ys) (drop a bytes) ≡ []
    → take room bytes ≡ take a (put_mid a k xs ys)
window_empty bytes xs ys a k room within reach some front window =
    let none : min (length ys) (length (drop a bytes)) ≡ 0 =
    sym (length-take (length ys) (drop a bytes)) ∙ ap length window in
    let past : length bytes ≤ a = omega (arith, length-drop a bytes, none) in
    take_all room bytes (omega arith)
    ∙ sym (take_all a bytes past)
    ∙ front
    ∙ sym (take-put_mid_below a k xs ys a (omega arith) within)

-- A file that is there, has the given size and is read to that size is read whole.
whole : (file : Option (List ℕ)) (size limit : ℕ) (secret : SecretBuffer) → option_map length file ≡ Some size
    → ((bytes : List ℕ) → file ≡ Some bytes → secret.bytes ≡ take size bytes) → size ≤ limit
    → IsRead file limit (Ok secret)
whole None size limit secret sized reads within = absurd (none-some size sized)
whole (Some bytes) size limit secret sized reads within =
    let long : length bytes ≡ size = same_Some (length bytes) size sized in
    let all : secret.bytes ≡ bytes = reads bytes refl ∙ take_all size bytes (omega (arith, long)) in
    (ap (λ l. Some l) (sym all), omega (arith, within, long, ap length all))

-- The same of a file of a store that may tell its files.
pub whole_told : (files : Option FileMap) (name : List ℕ) (size limit : ℕ) (secret : SecretBuffer)
    → IfSome files (λ m. option_map length (map.get m name) ≡ Some size)
    → ((m : FileMap) (bytes : List ℕ) → files ≡ Some m → map.get m name ≡ Some bytes → secret.bytes ≡ take size bytes)
    → size ≤ limit
    → IfSome files (λ m. IsRead (map.get m name) limit (Ok secret))
whole_told None name size limit secret sized reads within = tt
whole_told (Some m) name size limit secret sized reads within =
    whole (map.get m name) size limit secret sized (λ bytes. reads m bytes refl) within

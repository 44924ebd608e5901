-- Parts of raw markup, in the text that they stand for.
use Rattle.std.specs.Prelude.{ℕ, Bool, not, ◌&&◌, ◌||◌, ◌==◌, nat_le, List, [], encode_utf8}
use Rattle.text_core.specs.declared.raw_markup.Part.{Part}
use Rattle.text_core.specs.declared.raw_markup.Part.TheVariants.{Plain, Character, Nothing}

-- the bytes of a part
abbrev pub part_text : Part → List ℕ
part_text (Plain bytes) = bytes.now
part_text (Character c) = encode_utf8 c
part_text Nothing = []

-- neither `&` nor a carriage return, so the byte stands for itself
unfoldable pub is_plain : ℕ → Bool
is_plain b = not (b == 38) && not (b == 13)

-- any byte but `;`, which ends a reference
unfoldable pub is_inside_reference : ℕ → Bool
is_inside_reference b = not (b == 59)

-- a byte that is written as it is: tab, line feed, and all from the space on but `"`, `&`, `<` and
-- `>`
unfoldable pub is_verbatim : ℕ → Bool
is_verbatim b =
    b == 9 || b == 10
    || (nat_le 32 b && not (b == 34) && not (b == 38) && not (b == 60) && not (b == 62))

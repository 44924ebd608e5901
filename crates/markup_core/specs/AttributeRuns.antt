-- The runs of bytes of which a tag's attributes are made.
use Rattle.std.specs.Prelude.{◌≡◌, ℕ, Bool, not, ◌&&◌, ◌||◌, ◌==◌, Option, Some, None, List, [], ◌∷◌, take, drop}
use Rattle.markup_grammar.specs.Attributes.{attributes}
use Rattle.markup_grammar.specs.Bytes.{is_space}
use Rattle.markup_core.specs.declared.attributes.Attribute.{Attribute}
use Rattle.markup_core.specs.declared.attributes.Cut.{Cut}
use Rattle.markup_core.specs.declared.attributes.Run.{Run}
use Rattle.markup_core.specs.declared.attributes.Run.TheVariants.{Space, Name, BeforeQuote, Quoted}

-- a byte of a name: neither white space nor `=`
unfoldable pub is_in_name : ℕ → Bool
is_in_name b = not (is_space b) && not (b == 61)

-- a byte between a name and its value's quote
unfoldable pub is_before_quote : ℕ → Bool
is_before_quote b = not (b == 34 || b == 39)

-- a byte of a value in this quote
unfoldable pub is_quoted : ℕ → ℕ → Bool
is_quoted quote b = not (b == quote)

-- a byte of such a run
abbrev pub is_in_run : Run → ℕ → Bool
is_in_run Space = is_space
is_in_run Name = is_in_name
is_in_run BeforeQuote = is_before_quote
is_in_run (Quoted quote) = is_quoted quote

-- the bytes are cut after that many of them; without a cut there are no more
abbrev pub IsCut : List ℕ → ℕ → Option Cut → Type 0
IsCut bytes len None = drop len bytes ≡ []
IsCut bytes len (Some cut) = (cut.front.now ≡ take len bytes)
    × (drop len bytes ≡ cut.byte ∷ cut.rest.now)

-- the first attribute, and the bytes whose attributes are the others; without it there are none
abbrev pub IsFirst : List ℕ → Option Attribute → Type 0
IsFirst bytes None = attributes bytes ≡ []
IsFirst bytes (Some first) = attributes bytes
    ≡ (first.name.now, first.value.now) ∷ attributes first.rest.now

-- The inverse S-box of AES as a circuit (Boyar and Peralta, A depth-16 circuit for the AES S-box,
-- 2011), in five parts.
use Rattle.std.specs.Prelude.{ℕ, List, [], ◌∷◌, ◌++◌, slice_index}
use Rattle.aes_slices.specs.Circuits.{Circuit, xor_gate, and_gate, run_bits}
use Rattle.aes_slices.specs.Slices.{from_bits, bits_of}

-- from the bits of a byte, the lowest first, and a one: 63 is added, and then these are sums of bits
abbrev pub input_sums : Circuit
input_sums = record {
  gates =
      xor_gate 0 8 ∷ xor_gate 1 8 ∷ xor_gate 5 8 ∷ xor_gate 6 8 ∷ xor_gate 7 4 ∷ xor_gate 12 4 ∷
      xor_gate 7 12 ∷ xor_gate 4 3 ∷ xor_gate 3 9 ∷ xor_gate 10 9 ∷ xor_gate 12 13 ∷
      xor_gate 14 18 ∷ xor_gate 9 16 ∷ xor_gate 15 17 ∷ xor_gate 15 18 ∷ xor_gate 16 18 ∷
      xor_gate 11 16 ∷ xor_gate 12 10 ∷ xor_gate 11 20 ∷ xor_gate 17 26 ∷ xor_gate 3 19 ∷
      xor_gate 11 2 ∷ xor_gate 2 10 ∷ xor_gate 11 3 ∷ xor_gate 7 30 ∷ xor_gate 14 30 ∷
      xor_gate 26 32 ∷ xor_gate 16 31 ∷ xor_gate 22 36 ∷ xor_gate 22 31 ∷ xor_gate 24 35 ∷ [];
  outputs =
      13 ∷ 14 ∷ 15 ∷ 16 ∷ 17 ∷ 19 ∷ 20 ∷ 21 ∷ 22 ∷ 23 ∷ 24 ∷ 25 ∷ 27 ∷ 28 ∷ 29 ∷ 33 ∷ 34 ∷ 35 ∷ 36 ∷
      37 ∷ 38 ∷ 39 ∷ [];
}

-- from these sums: an element of the field of sixteen elements
abbrev pub subfield_element : Circuit
subfield_element = record {
  gates =
      and_gate 9 16 ∷ and_gate 0 5 ∷ xor_gate 20 22 ∷ and_gate 6 15 ∷ xor_gate 25 22 ∷
      and_gate 10 17 ∷ and_gate 1 7 ∷ xor_gate 21 27 ∷ and_gate 13 12 ∷ xor_gate 30 27 ∷
      and_gate 3 19 ∷ and_gate 14 18 ∷ xor_gate 33 32 ∷ and_gate 2 8 ∷ xor_gate 35 32 ∷
      xor_gate 24 23 ∷ xor_gate 26 4 ∷ xor_gate 29 28 ∷ xor_gate 31 36 ∷ xor_gate 37 34 ∷
      xor_gate 38 36 ∷ xor_gate 39 34 ∷ xor_gate 40 11 ∷ [];
  outputs =
      41 ∷ 42 ∷ 43 ∷ 44 ∷ [];
}

-- its inverse, with sums of its bits
abbrev pub subfield_inverse : Circuit
subfield_inverse = record {
  gates =
      xor_gate 2 3 ∷ and_gate 2 0 ∷ xor_gate 1 5 ∷ xor_gate 0 1 ∷ xor_gate 3 5 ∷ and_gate 8 7 ∷
      and_gate 6 4 ∷ and_gate 0 3 ∷ and_gate 7 11 ∷ xor_gate 7 5 ∷ and_gate 1 2 ∷ and_gate 4 14 ∷
      xor_gate 4 5 ∷ xor_gate 1 9 ∷ xor_gate 12 13 ∷ xor_gate 3 10 ∷ xor_gate 15 16 ∷
      xor_gate 18 20 ∷ xor_gate 17 19 ∷ xor_gate 17 18 ∷ xor_gate 19 20 ∷ xor_gate 22 21 ∷ [];
  outputs =
      17 ∷ 18 ∷ 19 ∷ 20 ∷ 21 ∷ 22 ∷ 23 ∷ 24 ∷ 25 ∷ [];
}

-- from these and the sums of bits: their products
abbrev pub inverse_products : Circuit
inverse_products = record {
  gates =
      and_gate 7 25 ∷ and_gate 3 14 ∷ and_gate 2 24 ∷ and_gate 6 26 ∷ and_gate 1 16 ∷
      and_gate 0 21 ∷ and_gate 5 28 ∷ and_gate 8 27 ∷ and_gate 4 17 ∷ and_gate 7 18 ∷ and_gate 3 9 ∷
      and_gate 2 15 ∷ and_gate 6 19 ∷ and_gate 1 10 ∷ and_gate 0 22 ∷ and_gate 5 12 ∷
      and_gate 8 23 ∷ and_gate 4 11 ∷ [];
  outputs =
      31 ∷ 32 ∷ 33 ∷ 34 ∷ 35 ∷ 36 ∷ 37 ∷ 38 ∷ 39 ∷ 40 ∷ 41 ∷ 42 ∷ 43 ∷ 44 ∷ 45 ∷ 46 ∷ 47 ∷ 48 ∷ [];
}

-- from the products: the bits of the substitute, the lowest first
abbrev pub output_sums : Circuit
output_sums = record {
  gates =
      xor_gate 6 15 ∷ xor_gate 12 13 ∷ xor_gate 8 16 ∷ xor_gate 1 4 ∷ xor_gate 2 10 ∷ xor_gate 0 5 ∷
      xor_gate 3 14 ∷ xor_gate 18 19 ∷ xor_gate 4 7 ∷ xor_gate 9 17 ∷ xor_gate 11 22 ∷
      xor_gate 18 21 ∷ xor_gate 0 2 ∷ xor_gate 3 5 ∷ xor_gate 3 16 ∷ xor_gate 8 13 ∷
      xor_gate 11 15 ∷ xor_gate 12 20 ∷ xor_gate 17 23 ∷ xor_gate 20 21 ∷ xor_gate 22 24 ∷
      xor_gate 20 25 ∷ xor_gate 25 26 ∷ xor_gate 23 25 ∷ xor_gate 24 28 ∷ xor_gate 27 29 ∷
      xor_gate 28 36 ∷ xor_gate 29 42 ∷ xor_gate 33 38 ∷ xor_gate 31 39 ∷ xor_gate 43 46 ∷
      xor_gate 35 45 ∷ xor_gate 30 39 ∷ xor_gate 40 44 ∷ xor_gate 37 41 ∷ xor_gate 32 40 ∷
      xor_gate 27 34 ∷ [];
  outputs =
      54 ∷ 53 ∷ 52 ∷ 51 ∷ 50 ∷ 49 ∷ 48 ∷ 47 ∷ [];
}

-- the five parts in turn, on bits
abbrev pub inverse_box : List ℕ → List ℕ
inverse_box bits =
    let sums : List ℕ = run_bits input_sums bits in
    run_bits output_sums (run_bits inverse_products
    (run_bits subfield_inverse (run_bits subfield_element sums) ++ sums))

-- the substitute of a byte
unfoldable pub gates_byte : ℕ → ℕ
gates_byte b = from_bits (slice_index (inverse_box (bits_of b ++ 1 ∷ []))) 8

-- Circuits: lists of gates that read wires.
use Rattle.std.specs.Prelude.{ℕ, ◌+◌, ◌%◌, min, List, [], ◌∷◌, ◌++◌, map, slice_index_or, bit_xor, bit_and, replicate}
use Rattle.std.specs.List.{range_with_len}
use Rattle.std.specs.Simd.Lanes.{zip2}

-- a gate, with the numbers of the two wires that it reads
pub data Gate : Type 0 where
  xor_gate : ℕ → ℕ → Gate
  and_gate : ℕ → ℕ → Gate

-- gates, each of which gives one more wire, and the wires that are read in the end
pub record Circuit : Type 0 where
  pub gates : List Gate
  pub outputs : List ℕ

-- what a gate gives
abbrev pub gate_output : {X : Type 0} → X → (X → X → X) → (X → X → X) → Gate → List X → X
gate_output null xor and (xor_gate a b) wires = xor (slice_index_or wires a null)
    (slice_index_or wires b null)
gate_output null xor and (and_gate a b) wires = and (slice_index_or wires a null)
    (slice_index_or wires b null)

-- the wires, and after them those of the gates
abbrev pub after_gates : {X : Type 0} → X → (X → X → X) → (X → X → X) → List Gate → List X → List X
after_gates null xor and [] wires = wires
after_gates null xor and (gate ∷ gates) wires =
    after_gates null xor and gates (wires ++ gate_output null xor and gate wires ∷ [])

-- the wires at these places
abbrev pub wires_at : {X : Type 0} → X → List ℕ → List X → List X
wires_at null [] wires = []
wires_at null (place ∷ places) wires = slice_index_or wires place null ∷ wires_at null places wires

-- what a circuit gives
abbrev pub run : {X : Type 0} → X → (X → X → X) → (X → X → X) → Circuit → List X → List X
run null xor and circuit wires =
    wires_at null circuit.outputs (after_gates null xor and circuit.gates wires)

-- a vector of sixteen times this byte
abbrev pub sixteen_times : ℕ → List ℕ
sixteen_times byte = replicate 16 byte

-- what a circuit gives of vectors of sixteen bytes, on each of their bits
abbrev pub run_vectors : Circuit → List (List ℕ) → List (List ℕ)
run_vectors = run (sixteen_times 0) (zip2 bit_xor) (zip2 bit_and)

-- the sum of two bits
abbrev pub xor_bit : ℕ → ℕ → ℕ
xor_bit a b = (a + b) % 2

-- their product
abbrev pub and_bit : ℕ → ℕ → ℕ
and_bit a b = min a b

-- what a circuit gives of bits
abbrev pub run_bits : Circuit → List ℕ → List ℕ
run_bits = run 0 xor_bit and_bit

-- the first n of a list of vectors
abbrev pub first : ℕ → List (List ℕ) → List (List ℕ)
first n vectors = map (λ k. slice_index_or vectors k []) (range_with_len 0 n)

-- eight vectors, and one of ones
abbrev pub with_ones : List (List ℕ) → List (List ℕ)
with_ones s = first 8 s ++ sixteen_times 255 ∷ []

-- a byte times x: the highest bit is added to bits 0, 1, 3 and 4 of the byte moved up
abbrev pub doubling : Circuit
doubling = record {
  gates = xor_gate 0 7 ∷ xor_gate 2 7 ∷ xor_gate 3 7 ∷ [];
  outputs = 7 ∷ 8 ∷ 1 ∷ 9 ∷ 10 ∷ 4 ∷ 5 ∷ 6 ∷ [];
}

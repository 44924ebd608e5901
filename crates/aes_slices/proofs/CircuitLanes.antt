-- A circuit on vectors is the circuit on each bit of each lane.
use Rattle.std.proofs.Common.{◌≡◌, ℕ, zero, suc, ◌<◌, List, [], ◌∷◌, ◌++◌, length, slice_index, slice_index_or, refl, ap, ap₂, sym, ◌∙◌, subst, arith, bit_xor, bit_and}
use Rattle.std.specs.Int.{bit_at}
use Rattle.std.specs.Simd.Lanes.{zip2}
use Rattle.std.proofs.lemmas.Nat.Bits.{bit_at_xor, bit_at_and, bit_at-zero}
use Rattle.std.proofs.lemmas.Simd.{get_or-zip2, length-zip2, get_or-replicate, pick_l_whole}
use Rattle.aes_slices.specs.Circuits.{Gate, xor_gate, and_gate, Circuit, gate_output, after_gates, wires_at, run_vectors, run_bits, sixteen_times, xor_bit, and_bit, first}

module _ (j l : ℕ) (lane : l < 16) where
  -- a vector has this bit in the lane
  abbrev pub HasBit : List ℕ → ℕ → Type 0
  HasBit v n = (length v ≡ 16) × (bit_at (slice_index v l) j ≡ n)

  -- each of these vectors has its bit
  abbrev pub HaveBits : List (List ℕ) → List ℕ → Type 0
  HaveBits [] [] = Unit {0}
  HaveBits [] (n ∷ ns) = ⊥
  HaveBits (v ∷ vs) [] = ⊥
  HaveBits (v ∷ vs) (n ∷ ns) = HasBit v n × HaveBits vs ns

  null_bit : HasBit (sixteen_times 0) 0
  null_bit = (refl, ap (λ x. bit_at x j) (get_or-replicate 16 l 0 0 lane) ∙ bit_at-zero j)

  xor_bits : (v w : List ℕ) (n m : ℕ) → HasBit v n → HasBit w m → HasBit (zip2 bit_xor v w) (xor_bit n m)
  xor_bits v w n m (long, is) (long2, is2) = (
    length-zip2 bit_xor v w (long ∙ sym long2) ∙ long,
    ap (λ x. bit_at x j) (get_or-zip2 bit_xor v w l 0 0 0 (omega (arith, long)) (omega (arith, long2)))
        ∙ bit_at_xor (slice_index v l) (slice_index w l) j ∙ ap₂ xor_bit is is2,
  )

  and_bits : (v w : List ℕ) (n m : ℕ) → HasBit v n → HasBit w m → HasBit (zip2 bit_and v w) (and_bit n m)
  and_bits v w n m (long, is) (long2, is2) = (
    length-zip2 bit_and v w (long ∙ sym long2) ∙ long,
    ap (λ x. bit_at x j) (get_or-zip2 bit_and v w l 0 0 0 (omega (arith, long)) (omega (arith, long2)))
        ∙ bit_at_and (slice_index v l) (slice_index w l) j ∙ ap₂ and_bit is is2,
  )

  wire_bit : (vs : List (List ℕ)) (ns : List ℕ) → HaveBits vs ns → (k : ℕ) → HasBit (slice_index_or vs k (sixteen_times 0)) (slice_index_or ns k 0)
  wire_bit [] [] h k = null_bit
  wire_bit [] (n ∷ ns) h k = absurd h
  wire_bit (v ∷ vs) [] h k = absurd h
  wire_bit (v ∷ vs) (n ∷ ns) (h, hs) zero = h
  wire_bit (v ∷ vs) (n ∷ ns) (h, hs) (suc k) = wire_bit vs ns hs k

  pub join_bits : (vs ws : List (List ℕ)) (ns ms : List ℕ) → HaveBits vs ns → HaveBits ws ms → HaveBits (vs ++ ws) (ns ++ ms)
  join_bits [] ws [] ms h k = k
  join_bits [] ws (n ∷ ns) ms h k = absurd h
  join_bits (v ∷ vs) ws [] ms h k = absurd h
  join_bits (v ∷ vs) ws (n ∷ ns) ms (h, hs) k = (h, join_bits vs ws ns ms hs k)

  abbrev of_vectors : Gate → List (List ℕ) → List ℕ
  of_vectors = gate_output (sixteen_times 0) (zip2 bit_xor) (zip2 bit_and)

  abbrev of_bits : Gate → List ℕ → ℕ
  of_bits = gate_output 0 xor_bit and_bit

  gate_bit : (g : Gate) (vs : List (List ℕ)) (ns : List ℕ) → HaveBits vs ns → HasBit (of_vectors g vs) (of_bits g ns)
  gate_bit (xor_gate a b) vs ns h = xor_bits _ _ _ _ (wire_bit vs ns h a) (wire_bit vs ns h b)
  gate_bit (and_gate a b) vs ns h = and_bits _ _ _ _ (wire_bit vs ns h a) (wire_bit vs ns h b)

  gates_bits : (gs : List Gate) (vs : List (List ℕ)) (ns : List ℕ) → HaveBits vs ns
      → HaveBits (after_gates (sixteen_times 0) (zip2 bit_xor) (zip2 bit_and) gs vs) (after_gates 0 xor_bit and_bit gs ns)
  gates_bits [] vs ns h = h
  gates_bits (g ∷ gs) vs ns h =
      gates_bits gs (vs ++ of_vectors g vs ∷ []) (ns ++ of_bits g ns ∷ []) (join_bits vs _ ns _ h (gate_bit g vs ns h, tt))

  places_bits : (ks : List ℕ) (vs : List (List ℕ)) (ns : List ℕ) → HaveBits vs ns → HaveBits (wires_at (sixteen_times 0) ks vs) (wires_at 0 ks ns)
  places_bits [] vs ns h = tt
  places_bits (k ∷ ks) vs ns h = (wire_bit vs ns h k, places_bits ks vs ns h)

  -- what a circuit gives of vectors with these bits has the bits that it gives of them
  pub run_have_bits : (c : Circuit) (vs : List (List ℕ)) (ns : List ℕ) → HaveBits vs ns → HaveBits (run_vectors c vs) (run_bits c ns)
  run_have_bits c vs ns h = places_bits c.outputs _ _ (gates_bits c.gates vs ns h)

  -- the same where the vectors are a result, of which all are taken
  pub whole_have_bits : (c : Circuit) (vs rs : List (List ℕ)) (ns : List ℕ) (n : ℕ) → length rs ≡ n → rs ≡ run_vectors c vs → HaveBits vs ns → HaveBits (first n rs) (run_bits c ns)
  whole_have_bits c vs rs ns n long is h =
      subst (λ xs. HaveBits xs (run_bits c ns)) (sym (pick_l_whole [] rs n long ∙ is)) (run_have_bits c vs ns h)

  -- a bit of one vector of these
  pub bit_of : (vs : List (List ℕ)) (ns : List ℕ) → HaveBits vs ns → (k : ℕ) → k < length ns → bit_at (slice_index (slice_index_or vs k []) l) j ≡ slice_index ns k
  bit_of [] [] h k below = absurd (omega arith)
  bit_of [] (n ∷ ns) h k below = absurd h
  bit_of (v ∷ vs) [] h k below = absurd h
  bit_of (v ∷ vs) (n ∷ ns) (h, hs) zero below = h.1
  bit_of (v ∷ vs) (n ∷ ns) (h, hs) (suc k) below = bit_of vs ns hs k (omega arith)

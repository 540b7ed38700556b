-- Bits in four words.
use Rattle.std.proofs.Common.{◌≡◌, ℕ, zero, suc, ◌+◌, ◌*◌, ◌/◌, ◌%◌, ◌^◌, ◌<◌, ◌==◌, min, Bool, true, false, not, ◌&&◌, if◌then◌else◌, List, [], ◌∷◌, length, get_or, refl, sym, ◌∙◌, arith}
use Rattle.std.specs.Int.{bit_at}
use Rattle.std.specs.Int.Bits.{bit_and, bit_xor}
use Rattle.std.specs.Simd.Lanes.{zip2}
use Rattle.std.proofs.lemmas.Simd.{get_or-zip2}
use Rattle.std.proofs.lemmas.Nat.Bits.{bit_at_ones, bit_at-zero, bit_at-lt, bit_at_and, bit_at_xor, same_from_bits_below}
use Rattle.simulate.specs.Lanes.{value_in}

-- four equal words
abbrev pub four : ℕ → List ℕ
four w = w ∷ w ∷ w ∷ w ∷ []

pub get_or-four : (w k : ℕ) → k < 4 → get_or (four w) k 0 ≡ w
get_or-four w zero h = refl
get_or-four w (suc zero) h = refl
get_or-four w (suc (suc zero)) h = refl
get_or-four w (suc (suc (suc zero))) h = refl
get_or-four w (suc (suc (suc (suc k)))) h = absurd (omega (arith, h))

pub value_in-ones : (r : ℕ) → r < 256 → value_in (four 18446744073709551615) r ≡ true
value_in-ones r h = rw (get_or-four 18446744073709551615 (r / 64) (omega (arith, h)), bit_at_ones 64 (r % 64) (omega arith)) refl

pub value_in-zeros : (r : ℕ) → r < 256 → value_in (four 0) r ≡ false
value_in-zeros r h = rw (get_or-four 0 (r / 64) (omega (arith, h)), bit_at-zero (r % 64)) refl

bit_is_clear : (b : ℕ) → b < 2 → (b == 1) ≡ false → b ≡ 0
bit_is_clear zero h e = refl
bit_is_clear (suc zero) h e = absurd cc
bit_is_clear (suc (suc b)) h e = absurd (omega (arith, h))

-- where no run's value is true, each of the four words is 0
pub word_is_clear : (words : List ℕ) (k : ℕ) → k < 4 → get_or words k 0 < 2 ^ 64 → ((r : ℕ) → r < 256 → value_in words r ≡ false) → get_or words k 0 ≡ 0
word_is_clear words k k_in small h = same_from_bits_below 64 (get_or words k 0) 0 small (omega arith) (λ i i_in.
    let word : (64 * k + i) / 64 ≡ k = omega (arith, i_in) in
    let bit : (64 * k + i) % 64 ≡ i = omega (arith, i_in) in
    let at = h (64 * k + i) (omega (arith, i_in, k_in)) in
    bit_is_clear (bit_at (get_or words k 0) i) (bit_at-lt (get_or words k 0) i) (rw (word, bit) at at) ∙ sym (bit_at-zero i))

and_bits : (a b : ℕ) → a < 2 → b < 2 → (min a b == 1) ≡ ((a == 1) && (b == 1))
and_bits zero zero h k = refl
and_bits zero (suc zero) h k = refl
and_bits (suc zero) zero h k = refl
and_bits (suc zero) (suc zero) h k = refl
and_bits zero (suc (suc b)) h k = absurd (omega (arith, k))
and_bits (suc zero) (suc (suc b)) h k = absurd (omega (arith, k))
and_bits (suc (suc a)) b h k = absurd (omega (arith, h))

not_bit : (a : ℕ) → a < 2 → ((a + 1) % 2 == 1) ≡ not (a == 1)
not_bit zero h = refl
not_bit (suc zero) h = refl
not_bit (suc (suc a)) h = absurd (omega (arith, h))

same_bit : (a : ℕ) → a < 2 → ((a + 0) % 2 == 1) ≡ (a == 1)
same_bit zero h = refl
same_bit (suc zero) h = refl
same_bit (suc (suc a)) h = absurd (omega (arith, h))

pub value_in-and : (xs ys : List ℕ) → length xs ≡ 4 → length ys ≡ 4 → (r : ℕ) → r < 256 → value_in (zip2 bit_and xs ys) r ≡ (value_in xs r && value_in ys r)
value_in-and xs ys four_xs four_ys r h =
    rw (get_or-zip2 bit_and xs ys (r / 64) 0 0 0 (omega (arith, four_xs, h)) (omega (arith, four_ys, h)), bit_at_and (get_or xs (r / 64) 0) (get_or ys (r / 64) 0) (r % 64))
    (and_bits (bit_at (get_or xs (r / 64) 0) (r % 64)) (bit_at (get_or ys (r / 64) 0) (r % 64)) (bit_at-lt _ _) (bit_at-lt _ _))

pub value_in-xor_ones : (xs : List ℕ) → length xs ≡ 4 → (r : ℕ) → r < 256 → value_in (zip2 bit_xor xs (four 18446744073709551615)) r ≡ not (value_in xs r)
value_in-xor_ones xs four_xs r h =
    rw (
      get_or-zip2 bit_xor xs (four 18446744073709551615) (r / 64) 0 0 0 (omega (arith, four_xs, h)) (omega (arith, h)),
      get_or-four 18446744073709551615 (r / 64) (omega (arith, h)),
      bit_at_xor (get_or xs (r / 64) 0) 18446744073709551615 (r % 64),
      bit_at_ones 64 (r % 64) (omega arith),
    )
    (not_bit (bit_at (get_or xs (r / 64) 0) (r % 64)) (bit_at-lt _ _))

pub value_in-xor_zeros : (xs : List ℕ) → length xs ≡ 4 → (r : ℕ) → r < 256 → value_in (zip2 bit_xor xs (four 0)) r ≡ value_in xs r
value_in-xor_zeros xs four_xs r h =
    rw (
      get_or-zip2 bit_xor xs (four 0) (r / 64) 0 0 0 (omega (arith, four_xs, h)) (omega (arith, h)),
      get_or-four 0 (r / 64) (omega (arith, h)),
      bit_at_xor (get_or xs (r / 64) 0) 0 (r % 64),
      bit_at-zero (r % 64),
    )
    (same_bit (bit_at (get_or xs (r / 64) 0) (r % 64)) (bit_at-lt _ _))

pub value_in-all : (b : Bool) (w r : ℕ) → w ≡ (if b then 18446744073709551615 else 0) → r < 256 → value_in (four w) r ≡ b
value_in-all true w r is_w r_in = rw is_w (value_in-ones r r_in)
value_in-all false w r is_w r_in = rw is_w (value_in-zeros r r_in)

pub value_in-negated_if : (xs : List ℕ) → length xs ≡ 4 → (b : Bool) (w r : ℕ) → w ≡ (if b then 18446744073709551615 else 0) → r < 256 →
    value_in (zip2 bit_xor xs (four w)) r ≡ (if b then not (value_in xs r) else value_in xs r)
value_in-negated_if xs long true w r is_w r_in = rw is_w (value_in-xor_ones xs long r r_in)
value_in-negated_if xs long false w r is_w r_in = rw is_w (value_in-xor_zeros xs long r r_in)

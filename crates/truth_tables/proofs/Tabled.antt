-- Truth tables by their values: the constants, the bitwise operations and the selection of bits.
use Rattle.std.proofs.Common.{◌≡◌, ◌≢◌, ◌∙◌, ℕ, zero, suc, ◌+◌, ◌-◌, ◌/◌, ◌%◌, ◌^◌, ◌<◌, ◌==◌, min, max, Bool, true, false, not, ◌&&◌, if◌then◌else◌, IsTrue, w16, inl, inr, arith, refl, sym, ap}
use Rattle.std.specs.Int.{bit_at, bit_not}
use Rattle.std.specs.Int.Bits.{bit_and, bit_or, bit_xor}
use Rattle.std.proofs.lemmas.Bool.{cases_eq}
use Rattle.std.proofs.lemmas.Nat.{shr-shr, and_le_r}
use Rattle.std.proofs.lemmas.Nat.Bits.{bit_at_and, bit_at_or, bit_at_xor, bit_at_not, bit_at-lt, bit_at-zero, shr_and_one, same_from_bits_below}
use Rattle.truth_tables.specs.Tables.{weight, row, value}

-- the inputs
pub value_first : (a b c d : Bool) → value 43690 a b c d ≡ a
unfolding value
value_first false false false false = refl
value_first false false false true = refl
value_first false false true false = refl
value_first false false true true = refl
value_first false true false false = refl
value_first false true false true = refl
value_first false true true false = refl
value_first false true true true = refl
value_first true false false false = refl
value_first true false false true = refl
value_first true false true false = refl
value_first true false true true = refl
value_first true true false false = refl
value_first true true false true = refl
value_first true true true false = refl
value_first true true true true = refl

pub value_second : (a b c d : Bool) → value 52428 a b c d ≡ b
unfolding value
value_second false false false false = refl
value_second false false false true = refl
value_second false false true false = refl
value_second false false true true = refl
value_second false true false false = refl
value_second false true false true = refl
value_second false true true false = refl
value_second false true true true = refl
value_second true false false false = refl
value_second true false false true = refl
value_second true false true false = refl
value_second true false true true = refl
value_second true true false false = refl
value_second true true false true = refl
value_second true true true false = refl
value_second true true true true = refl

pub value_third : (a b c d : Bool) → value 61680 a b c d ≡ c
unfolding value
value_third false false false false = refl
value_third false false false true = refl
value_third false false true false = refl
value_third false false true true = refl
value_third false true false false = refl
value_third false true false true = refl
value_third false true true false = refl
value_third false true true true = refl
value_third true false false false = refl
value_third true false false true = refl
value_third true false true false = refl
value_third true false true true = refl
value_third true true false false = refl
value_third true true false true = refl
value_third true true true false = refl
value_third true true true true = refl

pub value_fourth : (a b c d : Bool) → value 65280 a b c d ≡ d
unfolding value
value_fourth false false false false = refl
value_fourth false false false true = refl
value_fourth false false true false = refl
value_fourth false false true true = refl
value_fourth false true false false = refl
value_fourth false true false true = refl
value_fourth false true true false = refl
value_fourth false true true true = refl
value_fourth true false false false = refl
value_fourth true false false true = refl
value_fourth true false true false = refl
value_fourth true false true true = refl
value_fourth true true false false = refl
value_fourth true true false true = refl
value_fourth true true true false = refl
value_fourth true true true true = refl

pub value_all : (a b c d : Bool) → value 65535 a b c d ≡ true
unfolding value
value_all false false false false = refl
value_all false false false true = refl
value_all false false true false = refl
value_all false false true true = refl
value_all false true false false = refl
value_all false true false true = refl
value_all false true true false = refl
value_all false true true true = refl
value_all true false false false = refl
value_all true false false true = refl
value_all true false true false = refl
value_all true false true true = refl
value_all true true false false = refl
value_all true true false true = refl
value_all true true true false = refl
value_all true true true true = refl

pub value_none : (a b c d : Bool) → value 0 a b c d ≡ false
unfolding value
value_none false false false false = refl
value_none false false false true = refl
value_none false false true false = refl
value_none false false true true = refl
value_none false true false false = refl
value_none false true false true = refl
value_none false true true false = refl
value_none false true true true = refl
value_none true false false false = refl
value_none true false false true = refl
value_none true false true false = refl
value_none true false true true = refl
value_none true true false false = refl
value_none true true false true = refl
value_none true true true false = refl
value_none true true true true = refl

pub row_few : (a b c d : Bool) → row a b c d < 16
row_few false false false false = omega arith
row_few false false false true = omega arith
row_few false false true false = omega arith
row_few false false true true = omega arith
row_few false true false false = omega arith
row_few false true false true = omega arith
row_few false true true false = omega arith
row_few false true true true = omega arith
row_few true false false false = omega arith
row_few true false false true = omega arith
row_few true false true false = omega arith
row_few true false true true = omega arith
row_few true true false false = omega arith
row_few true true false true = omega arith
row_few true true true false = omega arith
row_few true true true true = omega arith

-- bits as Bools
and_bits : (a b : ℕ) → a < 2 → b < 2 → (min a b == 1) ≡ ((a == 1) && (b == 1))
and_bits zero zero h k = refl
and_bits zero (suc zero) h k = refl
and_bits (suc zero) zero h k = refl
and_bits (suc zero) (suc zero) h k = refl
and_bits zero (suc (suc b)) h k = absurd (omega (arith, k))
and_bits (suc zero) (suc (suc b)) h k = absurd (omega (arith, k))
and_bits (suc (suc a)) b h k = absurd (omega (arith, h))

not_bit : (a : ℕ) → a < 2 → (1 - a == 1) ≡ not (a == 1)
not_bit zero h = refl
not_bit (suc zero) h = refl
not_bit (suc (suc a)) h = absurd (omega (arith, h))

or_bits : (a b : ℕ) → a < 2 → b < 2 → (max a b == 1) ≡ (if a == 1 then true else b == 1)
or_bits zero zero h k = refl
or_bits zero (suc zero) h k = refl
or_bits (suc zero) zero h k = refl
or_bits (suc zero) (suc zero) h k = refl
or_bits zero (suc (suc b)) h k = absurd (omega (arith, k))
or_bits (suc zero) (suc (suc b)) h k = absurd (omega (arith, k))
or_bits (suc (suc a)) b h k = absurd (omega (arith, h))

bit_of_equal : (x y : ℕ) → x < 2 → y < 2 → (x == 1) ≡ (y == 1) → x ≡ y
bit_of_equal zero zero h k e = refl
bit_of_equal (suc zero) (suc zero) h k e = refl
bit_of_equal zero (suc zero) h k e = absurd cc
bit_of_equal (suc zero) zero h k e = absurd cc
bit_of_equal zero (suc (suc y)) h k e = absurd (omega (arith, k))
bit_of_equal (suc zero) (suc (suc y)) h k e = absurd (omega (arith, k))
bit_of_equal (suc (suc x)) y h k e = absurd (omega (arith, h))

-- the operations
pub value_and : (x y : ℕ) (a b c d : Bool) → value (bit_and x y) a b c d ≡ (value x a b c d && value y a b c d)
unfolding value
value_and x y a b c d = ap (λ n. n == 1) (bit_at_and x y (row a b c d)) ∙ and_bits (bit_at x (row a b c d)) (bit_at y (row a b c d)) (bit_at-lt _ _) (bit_at-lt _ _)

pub value_or : (x y : ℕ) (a b c d : Bool) → value (bit_or x y) a b c d ≡ (if value x a b c d then true else value y a b c d)
unfolding value
value_or x y a b c d = ap (λ n. n == 1) (bit_at_or x y (row a b c d)) ∙ or_bits (bit_at x (row a b c d)) (bit_at y (row a b c d)) (bit_at-lt _ _) (bit_at-lt _ _)

pub value_not : (x : ℕ) → x < 65536 → (a b c d : Bool) → value (bit_not w16 x) a b c d ≡ not (value x a b c d)
unfolding value
value_not x fits a b c d = ap (λ n. n == 1) (bit_at_not w16 x (row a b c d) fits (row_few a b c d)) ∙ not_bit (bit_at x (row a b c d)) (bit_at-lt _ _)

selected_by : (s h l : Bool) → (if s && h then true else (not s && l)) ≡ (if s then h else l)
selected_by true true l = refl
selected_by true false l = refl
selected_by false h l = refl

pub value_selected : (s h l : ℕ) → s < 65536 → (a b c d : Bool) →
    value (bit_or (bit_and s h) (bit_and (bit_not w16 s) l)) a b c d ≡ (if value s a b c d then value h a b c d else value l a b c d)
value_selected s h l fits a b c d =
    value_or (bit_and s h) (bit_and (bit_not w16 s) l) a b c d ∙
    rw (value_and s h a b c d, value_and (bit_not w16 s) l a b c d, value_not s fits a b c d) (selected_by (value s a b c d) (value h a b c d) (value l a b c d))

clear_bit : (n : ℕ) → n < 2 → n ≢ 1 → (n == 1) ≡ false
clear_bit zero few h = refl
clear_bit (suc zero) few h = absurd (h refl)
clear_bit (suc (suc n)) few h = absurd (omega (arith, few))

pub value_of_set : (t i : ℕ) → bit_and (t / 2 ^ i) 1 ≡ 1 → (a b c d : Bool) → value 65535 a b c d ≡ (bit_at t i == 1)
value_of_set t i set a b c d = value_all a b c d ∙ ap (λ n. n == 1) (sym set ∙ shr_and_one t i)

pub value_of_clear : (t i : ℕ) → bit_and (t / 2 ^ i) 1 ≢ 1 → (a b c d : Bool) → value 0 a b c d ≡ (bit_at t i == 1)
value_of_clear t i clear a b c d = value_none a b c d ∙ sym (clear_bit (bit_at t i) (bit_at-lt t i) (λ set. clear (shr_and_one t i ∙ set)))

-- one input more of a function that bits of a table are
pub selected_bit : (s : Bool) (t i n w : ℕ) → (if s then bit_at t (i + n + w) == 1 else bit_at t (i + w) == 1) ≡ (bit_at t (i + weight n s + w) == 1)
selected_bit true t i n w = refl
selected_bit false t i n w = ap (λ k. bit_at t k == 1) (omega arith)

pub selected_all : (a b c d : Bool) (t : ℕ) →
    (if d then bit_at t (8 + weight 4 c + weight 2 b + weight 1 a) == 1 else bit_at t (0 + weight 4 c + weight 2 b + weight 1 a) == 1) ≡ value t a b c d
unfolding value
selected_all a b c true t = ap (λ k. bit_at t k == 1) (omega arith)
selected_all a b c false t = ap (λ k. bit_at t k == 1) (omega arith)

-- each row has its inputs
in_rows : (P : ℕ → Type 0) → ((a b c d : Bool) → P (row a b c d)) → (i : ℕ) → i < 16 → P i
in_rows P h zero fits = h false false false false
in_rows P h (suc zero) fits = h true false false false
in_rows P h (suc (suc zero)) fits = h false true false false
in_rows P h (suc (suc (suc zero))) fits = h true true false false
in_rows P h (suc (suc (suc (suc zero)))) fits = h false false true false
in_rows P h (suc (suc (suc (suc (suc zero))))) fits = h true false true false
in_rows P h (suc (suc (suc (suc (suc (suc zero)))))) fits = h false true true false
in_rows P h (suc (suc (suc (suc (suc (suc (suc zero))))))) fits = h true true true false
in_rows P h (suc (suc (suc (suc (suc (suc (suc (suc zero)))))))) fits = h false false false true
in_rows P h (suc (suc (suc (suc (suc (suc (suc (suc (suc zero))))))))) fits = h true false false true
in_rows P h (suc (suc (suc (suc (suc (suc (suc (suc (suc (suc zero)))))))))) fits = h false true false true
in_rows P h (suc (suc (suc (suc (suc (suc (suc (suc (suc (suc (suc zero))))))))))) fits = h true true false true
in_rows P h (suc (suc (suc (suc (suc (suc (suc (suc (suc (suc (suc (suc zero)))))))))))) fits = h false false true true
in_rows P h (suc (suc (suc (suc (suc (suc (suc (suc (suc (suc (suc (suc (suc zero))))))))))))) fits = h true false true true
in_rows P h (suc (suc (suc (suc (suc (suc (suc (suc (suc (suc (suc (suc (suc (suc zero)))))))))))))) fits = h false true true true
in_rows P h (suc (suc (suc (suc (suc (suc (suc (suc (suc (suc (suc (suc (suc (suc (suc zero))))))))))))))) fits = h true true true true
in_rows P h (suc (suc (suc (suc (suc (suc (suc (suc (suc (suc (suc (suc (suc (suc (suc (suc i)))))))))))))))) fits = absurd (omega (arith, fits))

-- a table and the table moved by k bits agree at the mask's bits
agree_at : (t k m i : ℕ) → bit_and (bit_xor (t / 2 ^ k) t) m ≡ 0 → bit_at m i ≡ 1 → bit_at t (k + i) ≡ bit_at t i
agree_at t k m i same masked =
    let none : bit_at (bit_and (bit_xor (t / 2 ^ k) t) m) i ≡ 0 = ap (λ n. bit_at n i) same ∙ bit_at-zero i in
    let both = bit_at_and (bit_xor (t / 2 ^ k) t) m i in
    let other = bit_at_xor (t / 2 ^ k) t i in
    let moved : bit_at (t / 2 ^ k) i ≡ bit_at t (k + i) = ap (λ n. n % 2) (shr-shr t k i) in
    omega (arith, none, both, other, moved, masked, bit_at-lt t i, bit_at-lt t (k + i))

agree_all : (t k m : ℕ) → t < 65536 → m < 65536 → ((a b c d : Bool) → bit_at m (row a b c d) ≡ 1 → bit_at t (k + row a b c d) ≡ bit_at t (row a b c d)) → bit_and (bit_xor (t / 2 ^ k) t) m ≡ 0
agree_all t k m fits few h = same_from_bits_below 16 (bit_and (bit_xor (t / 2 ^ k) t) m) 0 (omega (arith, and_le_r (bit_xor (t / 2 ^ k) t) m)) (omega arith) (in_rows
    (λ i. bit_at (bit_and (bit_xor (t / 2 ^ k) t) m) i ≡ bit_at 0 i)
    (λ a b c d.
    let i = row a b c d in
    let both = bit_at_and (bit_xor (t / 2 ^ k) t) m i in
    let other = bit_at_xor (t / 2 ^ k) t i in
    let moved : bit_at (t / 2 ^ k) i ≡ bit_at t (k + i) = ap (λ n. n % 2) (shr-shr t k i) in
    elim (cases_eq (bit_at m i) 1) [
      | inl set ↦ let equal = h a b c d set in omega (arith, both, other, moved, set, equal, bit_at-zero i)
      | inr clear ↦ omega (arith, both, clear, bit_at-lt m i, bit_at-zero i)
    ]))

-- the first input
mask_first : (b c d : Bool) → bit_at 21845 (row false b c d) ≡ 1
mask_first false false false = refl
mask_first false false true = refl
mask_first false true false = refl
mask_first false true true = refl
mask_first true false false = refl
mask_first true false true = refl
mask_first true true false = refl
mask_first true true true = refl

unmasked_first : (b c d : Bool) → bit_at 21845 (row true b c d) ≡ 0
unmasked_first false false false = refl
unmasked_first false false true = refl
unmasked_first false true false = refl
unmasked_first false true true = refl
unmasked_first true false false = refl
unmasked_first true false true = refl
unmasked_first true true false = refl
unmasked_first true true true = refl

row_first : (b c d : Bool) → 1 + row false b c d ≡ row true b c d
row_first false false false = refl
row_first false false true = refl
row_first false true false = refl
row_first false true true = refl
row_first true false false = refl
row_first true false true = refl
row_first true true false = refl
row_first true true true = refl

flip_first : (t : ℕ) → bit_and (bit_xor (t / 2 ^ 1) t) 21845 ≡ 0 → (b c d : Bool) → value t true b c d ≡ value t false b c d
unfolding value
flip_first t same b c d = ap (λ k. bit_at t k == 1) (sym (row_first b c d)) ∙ ap (λ n. n == 1) (agree_at t 1 21845 (row false b c d) same (mask_first b c d))

pub ignored_first : (t : ℕ) → bit_and (bit_xor (t / 2 ^ 1) t) 21845 ≡ 0 → (a b c d e : Bool) → value t a b c d ≡ value t e b c d
ignored_first t same true b c d true = refl
ignored_first t same true b c d false = flip_first t same b c d
ignored_first t same false b c d true = sym (flip_first t same b c d)
ignored_first t same false b c d false = refl

pub ignores_first : (t : ℕ) → t < 65536 → ((a b c d e : Bool) → value t a b c d ≡ value t e b c d) → bit_and (bit_xor (t / 2 ^ 1) t) 21845 ≡ 0
unfolding value
ignores_first t fits h = agree_all t 1 21845 fits (omega arith) at
  where
    at : (a b c d : Bool) → bit_at 21845 (row a b c d) ≡ 1 → bit_at t (1 + row a b c d) ≡ bit_at t (row a b c d)
    at true b c d set = absurd (omega (arith, set, unmasked_first b c d))
    at false b c d set = ap (bit_at t) (row_first b c d) ∙ bit_of_equal (bit_at t (row true b c d)) (bit_at t (row false b c d)) (bit_at-lt _ _) (bit_at-lt _ _) (h true b c d false)

-- the second input
mask_second : (a c d : Bool) → bit_at 13107 (row a false c d) ≡ 1
mask_second false false false = refl
mask_second false false true = refl
mask_second false true false = refl
mask_second false true true = refl
mask_second true false false = refl
mask_second true false true = refl
mask_second true true false = refl
mask_second true true true = refl

unmasked_second : (a c d : Bool) → bit_at 13107 (row a true c d) ≡ 0
unmasked_second false false false = refl
unmasked_second false false true = refl
unmasked_second false true false = refl
unmasked_second false true true = refl
unmasked_second true false false = refl
unmasked_second true false true = refl
unmasked_second true true false = refl
unmasked_second true true true = refl

row_second : (a c d : Bool) → 2 + row a false c d ≡ row a true c d
row_second false false false = refl
row_second false false true = refl
row_second false true false = refl
row_second false true true = refl
row_second true false false = refl
row_second true false true = refl
row_second true true false = refl
row_second true true true = refl

flip_second : (t : ℕ) → bit_and (bit_xor (t / 2 ^ 2) t) 13107 ≡ 0 → (a c d : Bool) → value t a true c d ≡ value t a false c d
unfolding value
flip_second t same a c d = ap (λ k. bit_at t k == 1) (sym (row_second a c d)) ∙ ap (λ n. n == 1) (agree_at t 2 13107 (row a false c d) same (mask_second a c d))

pub ignored_second : (t : ℕ) → bit_and (bit_xor (t / 2 ^ 2) t) 13107 ≡ 0 → (a b c d e : Bool) → value t a b c d ≡ value t a e c d
ignored_second t same a true c d true = refl
ignored_second t same a true c d false = flip_second t same a c d
ignored_second t same a false c d true = sym (flip_second t same a c d)
ignored_second t same a false c d false = refl

pub ignores_second : (t : ℕ) → t < 65536 → ((a b c d e : Bool) → value t a b c d ≡ value t a e c d) → bit_and (bit_xor (t / 2 ^ 2) t) 13107 ≡ 0
unfolding value
ignores_second t fits h = agree_all t 2 13107 fits (omega arith) at
  where
    at : (a b c d : Bool) → bit_at 13107 (row a b c d) ≡ 1 → bit_at t (2 + row a b c d) ≡ bit_at t (row a b c d)
    at a true c d set = absurd (omega (arith, set, unmasked_second a c d))
    at a false c d set = ap (bit_at t) (row_second a c d) ∙ bit_of_equal (bit_at t (row a true c d)) (bit_at t (row a false c d)) (bit_at-lt _ _) (bit_at-lt _ _) (h a true c d false)

-- the third input
mask_third : (a b d : Bool) → bit_at 3855 (row a b false d) ≡ 1
mask_third false false false = refl
mask_third false false true = refl
mask_third false true false = refl
mask_third false true true = refl
mask_third true false false = refl
mask_third true false true = refl
mask_third true true false = refl
mask_third true true true = refl

unmasked_third : (a b d : Bool) → bit_at 3855 (row a b true d) ≡ 0
unmasked_third false false false = refl
unmasked_third false false true = refl
unmasked_third false true false = refl
unmasked_third false true true = refl
unmasked_third true false false = refl
unmasked_third true false true = refl
unmasked_third true true false = refl
unmasked_third true true true = refl

row_third : (a b d : Bool) → 4 + row a b false d ≡ row a b true d
row_third false false false = refl
row_third false false true = refl
row_third false true false = refl
row_third false true true = refl
row_third true false false = refl
row_third true false true = refl
row_third true true false = refl
row_third true true true = refl

flip_third : (t : ℕ) → bit_and (bit_xor (t / 2 ^ 4) t) 3855 ≡ 0 → (a b d : Bool) → value t a b true d ≡ value t a b false d
unfolding value
flip_third t same a b d = ap (λ k. bit_at t k == 1) (sym (row_third a b d)) ∙ ap (λ n. n == 1) (agree_at t 4 3855 (row a b false d) same (mask_third a b d))

pub ignored_third : (t : ℕ) → bit_and (bit_xor (t / 2 ^ 4) t) 3855 ≡ 0 → (a b c d e : Bool) → value t a b c d ≡ value t a b e d
ignored_third t same a b true d true = refl
ignored_third t same a b true d false = flip_third t same a b d
ignored_third t same a b false d true = sym (flip_third t same a b d)
ignored_third t same a b false d false = refl

pub ignores_third : (t : ℕ) → t < 65536 → ((a b c d e : Bool) → value t a b c d ≡ value t a b e d) → bit_and (bit_xor (t / 2 ^ 4) t) 3855 ≡ 0
unfolding value
ignores_third t fits h = agree_all t 4 3855 fits (omega arith) at
  where
    at : (a b c d : Bool) → bit_at 3855 (row a b c d) ≡ 1 → bit_at t (4 + row a b c d) ≡ bit_at t (row a b c d)
    at a b true d set = absurd (omega (arith, set, unmasked_third a b d))
    at a b false d set = ap (bit_at t) (row_third a b d) ∙ bit_of_equal (bit_at t (row a b true d)) (bit_at t (row a b false d)) (bit_at-lt _ _) (bit_at-lt _ _) (h a b true d false)

-- the fourth input
mask_fourth : (a b c : Bool) → bit_at 255 (row a b c false) ≡ 1
mask_fourth false false false = refl
mask_fourth false false true = refl
mask_fourth false true false = refl
mask_fourth false true true = refl
mask_fourth true false false = refl
mask_fourth true false true = refl
mask_fourth true true false = refl
mask_fourth true true true = refl

unmasked_fourth : (a b c : Bool) → bit_at 255 (row a b c true) ≡ 0
unmasked_fourth false false false = refl
unmasked_fourth false false true = refl
unmasked_fourth false true false = refl
unmasked_fourth false true true = refl
unmasked_fourth true false false = refl
unmasked_fourth true false true = refl
unmasked_fourth true true false = refl
unmasked_fourth true true true = refl

row_fourth : (a b c : Bool) → 8 + row a b c false ≡ row a b c true
row_fourth false false false = refl
row_fourth false false true = refl
row_fourth false true false = refl
row_fourth false true true = refl
row_fourth true false false = refl
row_fourth true false true = refl
row_fourth true true false = refl
row_fourth true true true = refl

flip_fourth : (t : ℕ) → bit_and (bit_xor (t / 2 ^ 8) t) 255 ≡ 0 → (a b c : Bool) → value t a b c true ≡ value t a b c false
unfolding value
flip_fourth t same a b c = ap (λ k. bit_at t k == 1) (sym (row_fourth a b c)) ∙ ap (λ n. n == 1) (agree_at t 8 255 (row a b c false) same (mask_fourth a b c))

pub ignored_fourth : (t : ℕ) → bit_and (bit_xor (t / 2 ^ 8) t) 255 ≡ 0 → (a b c d e : Bool) → value t a b c d ≡ value t a b c e
ignored_fourth t same a b c true true = refl
ignored_fourth t same a b c true false = flip_fourth t same a b c
ignored_fourth t same a b c false true = sym (flip_fourth t same a b c)
ignored_fourth t same a b c false false = refl

pub ignores_fourth : (t : ℕ) → t < 65536 → ((a b c d e : Bool) → value t a b c d ≡ value t a b c e) → bit_and (bit_xor (t / 2 ^ 8) t) 255 ≡ 0
unfolding value
ignores_fourth t fits h = agree_all t 8 255 fits (omega arith) at
  where
    at : (a b c d : Bool) → bit_at 255 (row a b c d) ≡ 1 → bit_at t (8 + row a b c d) ≡ bit_at t (row a b c d)
    at a b c true set = absurd (omega (arith, set, unmasked_fourth a b c))
    at a b c false set = ap (bit_at t) (row_fourth a b c) ∙ bit_of_equal (bit_at t (row a b c true)) (bit_at t (row a b c false)) (bit_at-lt _ _) (bit_at-lt _ _) (h a b c true false)

-- tables with the same values are equal
pub same_table : (t u : ℕ) → t < 65536 → u < 65536 → ((a b c d : Bool) → value t a b c d ≡ value u a b c d) → t ≡ u
unfolding value
same_table t u fits fits_too h =
    same_from_bits_below 16 t u fits fits_too (in_rows (λ i. bit_at t i ≡ bit_at u i) (λ a b c d. bit_of_equal (bit_at t (row a b c d)) (bit_at u (row a b c d)) (bit_at-lt _ _) (bit_at-lt _ _) (h a b c d)))

implied : (x y : Bool) → (x && not y) ≡ false → IsTrue x → IsTrue y
implied true true e h = refl
implied true false e h = absurd cc
implied false y e h = absurd cc

denied : (x y : Bool) → (IsTrue x → IsTrue y) → (x && not y) ≡ false
denied true true h = refl
denied true false h = absurd (let e = h refl in cc)
denied false y h = refl

value_and_not : (t u : ℕ) → u < 65536 → (a b c d : Bool) → value (bit_and t (bit_not w16 u)) a b c d ≡ (value t a b c d && not (value u a b c d))
value_and_not t u fits a b c d = value_and t (bit_not w16 u) a b c d ∙ ap (λ x. value t a b c d && x) (value_not u fits a b c d)

-- one function is true only where another is
pub implies : (t u : ℕ) → u < 65536 → bit_and t (bit_not w16 u) ≡ 0 → (a b c d : Bool) → IsTrue (value t a b c d) → IsTrue (value u a b c d)
implies t u fits none a b c d = implied (value t a b c d) (value u a b c d) (sym (value_and_not t u fits a b c d) ∙ ap (λ n. value n a b c d) none ∙ value_none a b c d)

pub implies_none : (t u : ℕ) → u < 65536 → ((a b c d : Bool) → IsTrue (value t a b c d) → IsTrue (value u a b c d)) → bit_and t (bit_not w16 u) ≡ 0
implies_none t u fits h =
    same_table (bit_and t (bit_not w16 u)) 0 (omega (arith, and_le_r t (bit_not w16 u))) (omega arith)
    (λ a b c d. value_and_not t u fits a b c d ∙ denied (value t a b c d) (value u a b c d) (h a b c d) ∙ sym (value_none a b c d))

value_bit : (n r : ℕ) (a b c d : Bool) → row a b c d ≡ r → (bit_and (n / 2 ^ r) 1 == 1) ≡ value n a b c d
unfolding value
value_bit n r a b c d at = ap (λ m. m == 1) (shr_and_one n r ∙ ap (bit_at n) (sym at))

-- the bit of a row is the function's value there
pub value_at : (t w r : ℕ) → w < 65536 → (a b c d : Bool) → row a b c d ≡ r → (bit_and (bit_and t (bit_not w16 w) / 2 ^ r) 1 == 1) ≡ (value t a b c d && not (value w a b c d))
value_at t w r fits a b c d at = value_bit (bit_and t (bit_not w16 w)) r a b c d at ∙ value_and_not t w fits a b c d

-- a row is known by its bits
pub row_bits : (a b c d : Bool) → (weight 1 a ≡ bit_at (row a b c d) 0) × (weight 1 b ≡ bit_at (row a b c d) 1) × (weight 1 c ≡ bit_at (row a b c d) 2) × (weight 1 d ≡ bit_at (row a b c d) 3)
row_bits false false false false = (refl, refl, refl, refl)
row_bits false false false true = (refl, refl, refl, refl)
row_bits false false true false = (refl, refl, refl, refl)
row_bits false false true true = (refl, refl, refl, refl)
row_bits false true false false = (refl, refl, refl, refl)
row_bits false true false true = (refl, refl, refl, refl)
row_bits false true true false = (refl, refl, refl, refl)
row_bits false true true true = (refl, refl, refl, refl)
row_bits true false false false = (refl, refl, refl, refl)
row_bits true false false true = (refl, refl, refl, refl)
row_bits true false true false = (refl, refl, refl, refl)
row_bits true false true true = (refl, refl, refl, refl)
row_bits true true false false = (refl, refl, refl, refl)
row_bits true true false true = (refl, refl, refl, refl)
row_bits true true true false = (refl, refl, refl, refl)
row_bits true true true true = (refl, refl, refl, refl)

same_weight : (a b : Bool) → weight 1 a ≡ weight 1 b → a ≡ b
same_weight true true e = refl
same_weight false false e = refl
same_weight true false e = absurd (omega (arith, e))
same_weight false true e = absurd (omega (arith, e))

pub row_by_bits : (r : ℕ) → r < 16 → (a b c d : Bool) → weight 1 a ≡ bit_at r 0 → weight 1 b ≡ bit_at r 1 → weight 1 c ≡ bit_at r 2 → weight 1 d ≡ bit_at r 3 → row a b c d ≡ r
row_by_bits r few = in_rows
    (λ n. (a b c d : Bool) → weight 1 a ≡ bit_at n 0 → weight 1 b ≡ bit_at n 1 → weight 1 c ≡ bit_at n 2 → weight 1 d ≡ bit_at n 3 → row a b c d ≡ n)
    (λ x y z w a b c d ea eb ec ed.
    let bits = row_bits x y z w in
    let first : a ≡ x = same_weight a x (ea ∙ sym bits.0) in
    let second : b ≡ y = same_weight b y (eb ∙ sym bits.1) in
    let third : c ≡ z = same_weight c z (ec ∙ sym bits.2) in
    let fourth : d ≡ w = same_weight d w (ed ∙ sym bits.3) in
    ap (λ n. row n b c d) first ∙ ap (λ n. row x n c d) second ∙ ap (λ n. row x y n d) third ∙ ap (λ n. row x y z n) fourth)
    r few

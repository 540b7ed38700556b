-- Numbers that are given by their bits.
use Rattle.std.proofs.Common.{◌≡◌, ℕ, zero, suc, ◌+◌, ◌-◌, ◌*◌, ◌/◌, ◌^◌, ◌<◌, ◌≤◌, Bool, true, false, List, [], ◌∷◌, ◌++◌, length, get_or, take, drop, Option, None, Some, refl, sym, ap, ◌∙◌, arith, subst, append_assoc, length-append}
use Rattle.std.proofs.Math.Nat.{pow-succ'}
use Rattle.std.proofs.Math.Pow.{pow_mono}
use Rattle.std.specs.Prelude.{codes}
use Rattle.std.proofs.lemmas.Bool.{lt-leb}
use Rattle.std.specs.Io.KnownBytes.{Appends}
use Rattle.std.proofs.KnownBytes.{Appends-trans}
use Rattle.std.proofs.lemmas.List.{append-nil, drop_all, drop_more, length-drop, take_all, take_more}
use Rattle.base.specs.Devices.{PutsBeginning}
use Rattle.base.proofs.Putting.{begins_behind, begins_more}
use Rattle.bit_numbers.specs.Numbers.{are_known, binary_digit, binary_text, bit_number, number_of, digit_of, hex_below, known_text, open_text}

pub bit_small : (b : Option Bool) → bit_number b < 2
bit_small None = omega arith
bit_small (Some true) = omega arith
bit_small (Some false) = omega arith

pub number_small : (bits : List (Option Bool)) → number_of bits < 2 ^ length bits
number_small [] = omega arith
number_small (b ∷ bits) = let one = bit_small b in let rest = number_small bits in let double : 2 ^ suc (length bits) ≡ 2 * 2 ^ length bits = pow-succ' 2 (length bits) in omega (arith, one, rest, double)

-- one more bit below
pub number_next : (bits : List (Option Bool)) (k : ℕ) (d : Option Bool) → 0 < k → k ≤ length bits → number_of (drop (k - 1) bits) ≡ bit_number (get_or bits (k - 1) d) + 2 * number_of (drop k bits)
number_next bits k d some within =
    let here : drop (k - 1) bits ≡ get_or bits (k - 1) d ∷ drop (k - 1 + 1) bits = drop_more bits (k - 1) d (omega (arith, some, within)) in
    let next : k - 1 + 1 ≡ k = omega (arith, some) in
    ap number_of here ∙ ap (λ (n : ℕ). bit_number (get_or bits (k - 1) d) + 2 * number_of (drop n bits)) next

pub number_room : (bits : List (Option Bool)) (k : ℕ) → 0 < k → k ≤ length bits → length bits ≤ 64 → number_of (drop k bits) < 2 ^ 63
number_room bits k some within few =
    let small = number_small (drop k bits) in
    let long : length (drop k bits) ≤ 63 = omega (arith, length-drop k bits, some, within, few) in
    let up = pow_mono long in
    omega (arith, small, up)

pub number_done : (bits : List (Option Bool)) (k n : ℕ) → k ≡ 0 → n ≡ number_of (drop k bits) → n < 2 ^ length bits
number_done bits zero n e is = let small = number_small bits in omega (arith, small, is)
number_done bits (suc k) n e is = absurd (omega (arith, e))

pub digit_small : (bits : List (Option Bool)) (n : ℕ) → length bits ≤ 4 → n < 2 ^ length bits → n < 16
digit_small bits n few small = let up = pow_mono few in omega (arith, small, up)

-- digits were put, and those below k are left
pub record HexPut (bits : List (Option Bool)) (total k : ℕ) (before after : Option (List ℕ)) : Type 0 where
  pub done : List ℕ
  pub whole : done ++ hex_below k bits ≡ hex_below total bits
  pub appends : Appends before after done

pub hex_none : (bits : List (Option Bool)) (total : ℕ) (before : Option (List ℕ)) → Appends before before [] → HexPut bits total total before before
hex_none bits total before same = record { done = []; whole = refl; appends = same }

hex_split : (bits : List (Option Bool)) (k : ℕ) → 0 < k → hex_below k bits ≡ (digit_of (number_of (take 4 (drop (4 * (k - 1)) bits))) ∷ []) ++ hex_below (k - 1) bits
hex_split bits zero some = absurd (omega (arith, some))
hex_split bits (suc k) some = let e : suc k - 1 ≡ k = omega arith in rw e refl

pub hex_more : (bits : List (Option Bool)) (total k digit : ℕ) (a b c : Option (List ℕ)) → 0 < k → digit ≡ digit_of (number_of (take 4 (drop (4 * (k - 1)) bits))) → Appends b c (digit ∷ []) → HexPut bits total k a b → HexPut bits total (k - 1) a c
hex_more bits total k digit a b c some is more h = record {
  done = h.done ++ digit ∷ [];
  whole = append_assoc h.done (digit ∷ []) (hex_below (k - 1) bits) ∙ ap (λ (d : ℕ). h.done ++ ((d ∷ []) ++ hex_below (k - 1) bits)) is ∙ ap (λ (s : List ℕ). h.done ++ s) (sym (hex_split bits k some)) ∙ h.whole;
  appends = Appends-trans a b c h.done (digit ∷ []) h.appends more;
}

pub hex_cut : (bits : List (Option Bool)) (total k digit : ℕ) (a b c : Option (List ℕ)) → 0 < k → digit ≡ digit_of (number_of (take 4 (drop (4 * (k - 1)) bits))) → PutsBeginning b c (digit ∷ []) → HexPut bits total k a b → PutsBeginning a c (hex_below total bits)
hex_cut bits total k digit a b c some is more h =
    let split : hex_below total bits ≡ h.done ++ ((digit ∷ []) ++ hex_below (k - 1) bits) = sym h.whole ∙ ap (λ (s : List ℕ). h.done ++ s) (hex_split bits k some ∙ ap (λ (d : ℕ). (d ∷ []) ++ hex_below (k - 1) bits) (sym is)) in
    subst (PutsBeginning a c) (sym split) (begins_behind a b c h.done ((digit ∷ []) ++ hex_below (k - 1) bits) h.appends (begins_more b c (digit ∷ []) (hex_below (k - 1) bits) more))

pub hex_all : (bits : List (Option Bool)) (total k : ℕ) (a b : Option (List ℕ)) → k ≡ 0 → HexPut bits total k a b → Appends a b (hex_below total bits)
hex_all bits total zero a b e h = subst (Appends a b) (sym (append-nil h.done) ∙ h.whole) h.appends
hex_all bits total (suc k) a b e h = absurd (omega (arith, e))

-- ---- digits in binary

binary_push : (bits : List (Option Bool)) (b : Option Bool) → binary_text (bits ++ b ∷ []) ≡ binary_digit b ∷ binary_text bits
binary_push [] b = refl
binary_push (a ∷ bits) b = ap (λ (t : List ℕ). t ++ binary_digit a ∷ []) (binary_push bits b)

pub binary_long : (bits : List (Option Bool)) → length (binary_text bits) ≡ length bits
binary_long [] = refl
binary_long (b ∷ bits) = let h = binary_long bits in let both = length-append (binary_text bits) (binary_digit b ∷ []) in omega (arith, both, h)

pub open_several : (bits : List (Option Bool)) → 2 ≤ length bits → open_text bits ≡ codes "0b" ++ binary_text bits
open_several [] more = absurd (omega (arith, more))
open_several (b ∷ []) more = absurd (omega (arith, more))
open_several (b ∷ c ∷ bits) more = refl

pub open_long : (bits : List (Option Bool)) → 2 ≤ length bits → 2 + length bits ≡ length (open_text bits)
open_long bits more =
    let whole = ap (λ (t : List ℕ). length t) (open_several bits more) in
    let parts = length-append (codes "0b") (binary_text bits) in
    let two : length (codes "0b") ≡ 2 = refl in
    omega (arith, whole, parts, two, binary_long bits)

-- digits were put, and those of the lowest k bits are left
pub record BinaryPut (bits : List (Option Bool)) (k : ℕ) (before after : Option (List ℕ)) : Type 0 where
  pub done : List ℕ
  pub whole : done ++ binary_text (take k bits) ≡ binary_text bits
  pub appends : Appends before after done

pub binary_none : (bits : List (Option Bool)) (k : ℕ) (before : Option (List ℕ)) → length bits ≤ k → Appends before before [] → BinaryPut bits k before before
binary_none bits k before all same = record { done = []; whole = ap binary_text (take_all k bits all); appends = same }

binary_split : (bits : List (Option Bool)) (k : ℕ) (d : Option Bool) → 0 < k → k ≤ length bits → binary_text (take k bits) ≡ (binary_digit (get_or bits (k - 1) d) ∷ []) ++ binary_text (take (k - 1) bits)
binary_split bits k d some within =
    let more : take (k - 1 + 1) bits ≡ take (k - 1) bits ++ get_or bits (k - 1) d ∷ [] = take_more bits (k - 1) d (omega (arith, some, within)) in
    let next : k ≡ k - 1 + 1 = omega (arith, some) in
    ap (λ (n : ℕ). binary_text (take n bits)) next ∙ ap binary_text more ∙ binary_push (take (k - 1) bits) (get_or bits (k - 1) d)

pub binary_more : (bits : List (Option Bool)) (k digit : ℕ) (d : Option Bool) (a b c : Option (List ℕ)) → 0 < k → k ≤ length bits → digit ≡ binary_digit (get_or bits (k - 1) d) → Appends b c (digit ∷ []) → BinaryPut bits k a b → BinaryPut bits (k - 1) a c
binary_more bits k digit d a b c some within is more h = record {
  done = h.done ++ digit ∷ [];
  whole = append_assoc h.done (digit ∷ []) (binary_text (take (k - 1) bits)) ∙ ap (λ (n : ℕ). h.done ++ ((n ∷ []) ++ binary_text (take (k - 1) bits))) is ∙ ap (λ (s : List ℕ). h.done ++ s) (sym (binary_split bits k d some within)) ∙ h.whole;
  appends = Appends-trans a b c h.done (digit ∷ []) h.appends more;
}

pub binary_cut : (bits : List (Option Bool)) (k digit : ℕ) (d : Option Bool) (a b c : Option (List ℕ)) → 0 < k → k ≤ length bits → digit ≡ binary_digit (get_or bits (k - 1) d) → PutsBeginning b c (digit ∷ []) → BinaryPut bits k a b →
    PutsBeginning a c (binary_text bits)
binary_cut bits k digit d a b c some within is more h =
    let split : binary_text bits ≡ h.done ++ ((digit ∷ []) ++ binary_text (take (k - 1) bits)) = sym h.whole ∙ ap (λ (s : List ℕ). h.done ++ s) (binary_split bits k d some within ∙ ap (λ (n : ℕ). (n ∷ []) ++ binary_text (take (k - 1) bits)) (sym is)) in
    subst (PutsBeginning a c) (sym split) (begins_behind a b c h.done ((digit ∷ []) ++ binary_text (take (k - 1) bits)) h.appends (begins_more b c (digit ∷ []) (binary_text (take (k - 1) bits)) more))

pub binary_all : (bits : List (Option Bool)) (k : ℕ) (a b : Option (List ℕ)) → k ≡ 0 → BinaryPut bits k a b → Appends a b (binary_text bits)
binary_all bits zero a b e h = subst (Appends a b) (sym (append-nil h.done) ∙ h.whole) h.appends
binary_all bits (suc k) a b e h = absurd (omega (arith, e))

-- ---- whether bits are known

pub known_more : (bits : List (Option Bool)) (i : ℕ) (b d : Option Bool) → i < length bits → get_or bits i d ≡ b → (b ≡ None → ⊥) → are_known (drop i bits) ≡ are_known (drop (i + 1) bits)
known_more bits i None d i_in is some = absurd (some refl)
known_more bits i (Some v) d i_in is some = ap are_known (drop_more bits i d i_in ∙ ap (λ (b : Option Bool). b ∷ drop (i + 1) bits) is)

pub known_none : (bits : List (Option Bool)) (i : ℕ) (d : Option Bool) → i < length bits → get_or bits i d ≡ None → are_known (drop i bits) ≡ false
known_none bits i d i_in is = ap are_known (drop_more bits i d i_in ∙ ap (λ (b : Option Bool). b ∷ drop (i + 1) bits) is)

pub known_all : (bits : List (Option Bool)) (i : ℕ) → length bits ≤ i → are_known (drop i bits) ≡ true
known_all bits i all = ap are_known (drop_all i bits all)

-- what is left has at most four bits
pub few_left : (bits : List (Option Bool)) (place : ℕ) → length (take (length bits - 4 * place) (drop (4 * place) bits)) ≤ 4 → take (length bits - 4 * place) (drop (4 * place) bits) ≡ take 4 (drop (4 * place) bits)
few_left bits place few =
    let rest = drop (4 * place) bits in
    let long : length rest ≡ length bits - 4 * place = length-drop (4 * place) bits in
    let whole : take (length bits - 4 * place) rest ≡ rest = take_all (length bits - 4 * place) rest (omega (arith, long)) in
    let is_few : length rest ≤ 4 = subst (λ (xs : List (Option Bool)). length xs ≤ 4) whole few in
    whole ∙ sym (take_all 4 rest is_few)

pub many_left : (bits : List (Option Bool)) (place : ℕ) → take 4 (take (length bits - 4 * place) (drop (4 * place) bits)) ≡ take 4 (drop (4 * place) bits)
many_left bits place =
    let rest = drop (4 * place) bits in
    let long : length rest ≡ length bits - 4 * place = length-drop (4 * place) bits in
    ap (λ (xs : List (Option Bool)). take 4 xs) (take_all (length bits - 4 * place) rest (omega (arith, long)))

pub hex_number : (bits : List (Option Bool)) → 64 < length bits → known_text bits ≡ codes "0x" ++ hex_below ((length bits + 3) / 4) bits
hex_number bits more = rw (lt-leb (length bits) 64 more) refl

pub hex_long : (n : ℕ) (bits : List (Option Bool)) → length (hex_below n bits) ≡ n
hex_long zero bits = refl
hex_long (suc n) bits = ap suc (hex_long n bits)

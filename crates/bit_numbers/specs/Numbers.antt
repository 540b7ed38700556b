-- The texts of numbers that are given by their bits, the lowest first. A bit may be open.
use Rattle.std.specs.Prelude.{ℕ, zero, suc, ◌+◌, ◌-◌, ◌*◌, ◌/◌, Bool, true, false, List, [], ◌∷◌, ◌++◌, Option, None, Some, length, take, drop, codes, decimal, nat_le, nat_lt, if◌then◌else◌}

-- the digit of a bit, `x` where it is open
abbrev pub binary_digit : Option Bool → ℕ
binary_digit None = 120
binary_digit (Some b) = if b then 49 else 48

-- the digits of bits that are given the lowest first, the highest first
abbrev pub binary_text : List (Option Bool) → List ℕ
binary_text [] = []
binary_text (b ∷ bits) = binary_text bits ++ binary_digit b ∷ []

-- whether no bit is open
abbrev pub are_known : List (Option Bool) → Bool
are_known [] = true
are_known (None ∷ bits) = false
are_known (Some b ∷ bits) = are_known bits

-- the number of a bit, 0 where it is open
abbrev pub bit_number : Option Bool → ℕ
bit_number None = 0
bit_number (Some b) = if b then 1 else 0

-- the number of the bits
abbrev pub number_of : List (Option Bool) → ℕ
number_of [] = 0
number_of (b ∷ bits) = bit_number b + 2 * number_of bits

-- the hexadecimal digit of a number, from 0 to 9 and from a to f
abbrev pub digit_of : ℕ → ℕ
digit_of n = if nat_lt n 10 then 48 + n else 97 + (n - 10)

-- the lowest hexadecimal digits, of four bits each, the highest of these first
abbrev pub hex_below : ℕ → List (Option Bool) → List ℕ
hex_below zero bits = []
hex_below (suc n) bits = digit_of (number_of (take 4 (drop (4 * n) bits))) ∷ hex_below n bits

-- the number of bits that are known in decimal, or where there are more than 64 in hexadecimal behind 0x
abbrev pub known_text : List (Option Bool) → List ℕ
known_text bits = if nat_le (length bits) 64 then decimal (number_of bits) else codes "0x" ++ hex_below ((length bits + 3) / 4) bits

-- the digits of bits of which one is open, of several bits behind 0b
abbrev pub open_text : List (Option Bool) → List ℕ
open_text [] = []
open_text (b ∷ []) = binary_digit b ∷ []
open_text (b ∷ c ∷ bits) = codes "0b" ++ binary_text (b ∷ c ∷ bits)

-- the number of the bits, or where one is open their digits in binary
abbrev pub number_text : List (Option Bool) → List ℕ
number_text bits = if are_known bits then known_text bits else open_text bits

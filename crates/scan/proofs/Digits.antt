-- The digits that a loop reads.
use Rattle.std.proofs.Common.{◌≡◌, ℕ, zero, suc, ◌+◌, ◌-◌, ◌*◌, ◌<◌, ◌≤◌, Bool, true, false, cond, leb, List, [], ◌∷◌, None, length, get_or, take, drop, refl, sym, ap, ◌∙◌, arith}
use Rattle.std.specs.Char.{is_ascii_digit}
use Rattle.std.proofs.lemmas.Bool.{le-leb, lt-leb, lt-ltb, leb-true, leb-false, and_parts}
use Rattle.std.proofs.lemmas.List.{at_drop_more, at_drop_all, drop_all, take_rest}
use Rattle.scan.specs.Numbers.{at_most, begins_digit, digits_after}

abbrev pub IsDigit : ℕ → Type 0
IsDigit c = (48 ≤ c) × (c ≤ 57)

pub digit_from : (c : ℕ) → is_ascii_digit c ≡ true → IsDigit c
digit_from c e = let p = and_parts (leb 48 c) (leb c 57) e in (leb-true 48 c p.0, leb-true c 57 p.1)

next_of : (limit n c : ℕ) (cs : List ℕ) → is_ascii_digit c ≡ true → digits_after limit n (c ∷ cs) ≡ digits_after limit (cond (leb n limit) (n * 10 + (c - 48)) n) cs
unfolding digits_after
next_of limit n c cs e = rw e refl

stop_of : (limit n c : ℕ) (cs : List ℕ) → is_ascii_digit c ≡ false → digits_after limit n (c ∷ cs) ≡ (n, c ∷ cs)
unfolding digits_after
stop_of limit n c cs e = rw e refl

-- no digit comes next
pub digits_none : (limit n : ℕ) (text : List ℕ) → begins_digit text ≡ false → digits_after limit n text ≡ (n, text)
unfolding digits_after
digits_none limit n [] e = refl
digits_none limit n (c ∷ cs) e = stop_of limit n c cs e

pub digits_stop : (limit n : ℕ) (text : List ℕ) (i : ℕ) → i < length text → is_ascii_digit (get_or text i 0) ≡ false → digits_after limit n (drop i text) ≡ (n, take (length text - i) (drop i text))
digits_stop limit n text i lt e =
    at_drop_more (digits_after limit n) text i 0 lt ∙ stop_of limit n (get_or text i 0) (drop (i + 1) text) e
    ∙ ap (λ (t : List ℕ). (n, t)) (sym (at_drop_more (λ (t : List ℕ). t) text i 0 lt) ∙ sym (take_rest text i))

pub digits_more : (limit n : ℕ) (text : List ℕ) (i : ℕ) → i < length text → is_ascii_digit (get_or text i 0) ≡ true → n ≤ limit → digits_after limit n (drop i text) ≡ digits_after limit (n * 10 + (get_or text i 0 - 48)) (drop (i + 1) text)
digits_more limit n text i lt e le =
    at_drop_more (digits_after limit n) text i 0 lt ∙ next_of limit n (get_or text i 0) (drop (i + 1) text) e
    ∙ ap (λ (m : ℕ). digits_after limit m (drop (i + 1) text)) (rw (le-leb n limit le) refl)

pub digits_past : (limit n : ℕ) (text : List ℕ) (i : ℕ) → i < length text → is_ascii_digit (get_or text i 0) ≡ true → limit < n → digits_after limit n (drop i text) ≡ digits_after limit n (drop (i + 1) text)
digits_past limit n text i lt e gt =
    at_drop_more (digits_after limit n) text i 0 lt ∙ next_of limit n (get_or text i 0) (drop (i + 1) text) e
    ∙ ap (λ (m : ℕ). digits_after limit m (drop (i + 1) text)) (rw (lt-leb n limit gt) refl)

pub digits_end : (limit n : ℕ) (text : List ℕ) (i : ℕ) → length text ≤ i → digits_after limit n (drop i text) ≡ (n, take (length text - length text) (drop (length text) text))
unfolding digits_after
digits_end limit n text i le =
    at_drop_all (digits_after limit n) text i le ∙ ap (λ (t : List ℕ). (n, t)) (sym (drop_all (length text) text (omega arith)) ∙ sym (take_rest text (length text)))

-- ---- a number past the limit is one past it, whatever digits follow

past_by : (limit n c : ℕ) (cs : List ℕ) → limit < n → at_most limit (digits_after limit n cs) ≡ None → (b : Bool) → is_ascii_digit c ≡ b → at_most limit (digits_after limit n (c ∷ cs)) ≡ None
past_by limit n c cs gt before true e = ap (at_most limit) (next_of limit n c cs e ∙ ap (λ (m : ℕ). digits_after limit m cs) (rw (lt-leb n limit gt) refl)) ∙ before
past_by limit n c cs gt before false e = ap (at_most limit) (stop_of limit n c cs e) ∙ rw (lt-ltb limit n gt) refl

past_none : (limit n : ℕ) (cs : List ℕ) → limit < n → at_most limit (digits_after limit n cs) ≡ None
unfolding digits_after
past_none limit n [] gt = rw (lt-ltb limit n gt) refl
past_none limit n (c ∷ cs) gt = past_by limit n c cs gt (past_none limit n cs gt) (is_ascii_digit c) refl

-- a digit more, read without a look at the limit
by_limit : (limit n m : ℕ) (text : List ℕ) (i : ℕ) → i < length text → is_ascii_digit (get_or text i 0) ≡ true → m ≡ n * 10 + (get_or text i 0 - 48) → (b : Bool) → leb n limit ≡ b
    → at_most limit (digits_after limit n (drop i text)) ≡ at_most limit (digits_after limit m (drop (i + 1) text))
by_limit limit n m text i lt e is true le =
    ap (at_most limit) (digits_more limit n text i lt e (leb-true n limit le)) ∙ ap (λ (k : ℕ). at_most limit (digits_after limit k (drop (i + 1) text))) (sym is)
by_limit limit n m text i lt e is false gt =
    let past : limit < n = leb-false n limit gt in
    ap (at_most limit) (digits_past limit n text i lt e past) ∙ past_none limit n (drop (i + 1) text) past ∙ sym (past_none limit m (drop (i + 1) text) (omega arith))

pub digits_on : (limit n m : ℕ) (text : List ℕ) (i : ℕ) → i < length text → is_ascii_digit (get_or text i 0) ≡ true → m ≡ n * 10 + (get_or text i 0 - 48)
    → at_most limit (digits_after limit n (drop i text)) ≡ at_most limit (digits_after limit m (drop (i + 1) text))
digits_on limit n m text i lt e is = by_limit limit n m text i lt e is (leb n limit) refl

-- ---- numbers of so many digits behind the first

-- more than any number of one digit and i others
pub most : ℕ → ℕ
most zero = 10
most (suc i) = most i * 10

pub most_next : (i : ℕ) → most (i + 1) ≡ most i * 10
unfolding most
most_next i = ap most (let e : i + 1 ≡ suc i = omega arith in e)

most_ten : (j : ℕ) → 10 ≤ most j
unfolding most
most_ten zero = omega arith
most_ten (suc j) = let h = most_ten j in omega (arith, h)

most_mono : (i j : ℕ) → i ≤ j → most i ≤ most j
unfolding most
most_mono zero j le = most_ten j
most_mono (suc i) zero le = absurd (omega arith)
most_mono (suc i) (suc j) le = let h = most_mono i j (omega arith) in omega (arith, h)

pub most_first : most 0 ≡ 10
unfolding most
most_first = refl

nine : most 9 ≡ 10000000000
unfolding most
nine = refl

pub most_nine : (i : ℕ) → i ≤ 9 → most i ≤ 10000000000
most_nine i le = omega (arith, most_mono i 9 le, nine)

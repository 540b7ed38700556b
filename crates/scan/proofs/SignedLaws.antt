-- Numbers with a sign are read as they are spelled.
use Rattle.std.proofs.Common.{◌≡◌, ℕ, zero, suc, ◌^◌, ◌<◌, ℤ, pos, negsuc, neg_ℤ, false, cond, eqb, List, [], ◌∷◌, ◌++◌, length, Option, Some, None, refl, sym, ap, ◌∙◌, arith, inl, inr}
use Rattle.std.specs.Prelude.{decimal, ◌⊎◌}
use Rattle.std.specs.Char.{is_ascii_digit}
use Rattle.std.proofs.lemmas.Bool.{ne_eqb}
use Rattle.std.proofs.lemmas.Fmt.{decimal_digit}
use Rattle.std.proofs.lemmas.List.{length-append}
use Rattle.scan.specs.Signed.{negative_at, positive_at, signed_at, IsItem}
use Rattle.scan.specs.Spelling.{Nothing, After, NumberThen}
use Rattle.scan.proofs.NumberLaws.{decimal_first}
use Rattle.scan.proofs.Toolbox.{Reads, NeverBegins, reads_as, reads_nothing, reads_after, reads_if, reads_unless, reads_choice, skips_byte}
use Rattle.scan.proofs.WordLaws.{reads_number}
use Rattle.scan.proofs.ListLaws.{TakesSome}

abbrev Negative : ℕ → List ℕ → Option ℤ → Type 0
Negative limit = NumberThen limit (λ n t x. (eqb n 0 ≡ false) × After (32 ∷ []) (Nothing (Some (neg_ℤ (pos n)))) t x)

abbrev Positive : ℕ → ℕ → List ℕ → Option ℤ → Type 0
Positive limit end = NumberThen limit (λ n t x. cond (eqb n 0) (After (end ∷ []) (Nothing None) t x) (After (32 ∷ []) (Nothing (Some (pos n))) t x))

negative_reads : (limit : ℕ) → limit < 2 ^ 32 → Reads (negative_at limit) (Negative limit)
negative_reads limit small =
    reads_number limit small (λ n. reads_unless (eqb n 0) (reads_after (skips_byte 32) (reads_nothing (Some (neg_ℤ (pos n))))))
    (λ n t x rest (ne, (b, last, parts)). rw parts refl)

positive_ends : (end n : ℕ) (t : List ℕ) (x : Option ℤ) → is_ascii_digit end ≡ false → cond (eqb n 0) (After (end ∷ []) (Nothing None) t x) (After (32 ∷ []) (Nothing (Some (pos n))) t x)
    → (c : ℕ) × (cs : List ℕ) × (is_ascii_digit c ≡ false) × (t ≡ c ∷ cs)
positive_ends end zero t x no_digit (b, last, parts) = (end, b, no_digit, parts)
positive_ends end (suc n) t x no_digit s =
    let ne : eqb (suc n) 0 ≡ false = ne_eqb (suc n) 0 (λ q. omega (arith, q)) in
    let r = rw ne at s in
    (32, r.0, refl, r.2)

positive_reads : (limit end : ℕ) → limit < 2 ^ 32 → is_ascii_digit end ≡ false → Reads (positive_at limit end) (Positive limit end)
positive_reads limit end small no_digit =
    reads_number limit small (λ n. reads_if (eqb n 0) (reads_after (skips_byte end) (reads_nothing None)) (reads_after (skips_byte 32) (reads_nothing (Some (pos n)))))
    (λ n t x rest s. let f = positive_ends end n t x no_digit s in rw f.3 f.2)

-- a number is written without a minus
positive_begins : (limit end : ℕ) → limit < 2 ^ 32 → NeverBegins 45 (Positive limit end)
positive_begins limit end small t x rest (n, b, within, s, parts) =
    let f = decimal_first limit n within small in
    rw (parts, f.3) (ne_eqb f.0 45 (λ q. omega (arith, f.2, q)))

minus_to : (limit end : ℕ) (t : List ℕ) (x : Option ℤ) → After (45 ∷ []) (Negative limit) t x → IsItem limit end t x
minus_to limit end t x (t2, (zero, b, within, (ne, s), parts), whole) = absurd cc
minus_to limit end t x (t2, (suc n, b, within, (ne, (c, last, space)), parts), whole) =
    rw last.1 (within, rw (whole, parts, space, last.0) refl)

plus_to : (limit end : ℕ) (t : List ℕ) (x : Option ℤ) → Positive limit end t x → IsItem limit end t x
plus_to limit end t x (zero, b, within, (c, last, space), parts) =
    rw last.1 (rw (parts, space, last.0, decimal_digit 0 (omega arith)) refl)
plus_to limit end t x (suc n, b, within, s, parts) =
    let ne : eqb (suc n) 0 ≡ false = ne_eqb (suc n) 0 (λ q. omega (arith, q)) in
    let r = rw ne at s in
    rw r.1.1 ((omega arith, within), rw (parts, r.2, r.1.0) refl)

item_to : (limit end : ℕ) (t : List ℕ) (x : Option ℤ) → After (45 ∷ []) (Negative limit) t x ⊎ Positive limit end t x → IsItem limit end t x
item_to limit end t x (inl m) = minus_to limit end t x m
item_to limit end t x (inr p) = plus_to limit end t x p

item_from : (limit end : ℕ) (t : List ℕ) (x : Option ℤ) → IsItem limit end t x → After (45 ∷ []) (Negative limit) t x ⊎ Positive limit end t x
item_from limit end t None e = inr (0, end ∷ [], omega arith, ([], (refl, refl), refl), e ∙ ap (λ (w : List ℕ). w ++ (end ∷ [])) (sym (decimal_digit 0 (omega arith))))
item_from limit end t (Some (pos zero)) e = absurd (omega (arith, e.0.0))
item_from limit end t (Some (pos (suc n))) e =
    let ne : eqb (suc n) 0 ≡ false = ne_eqb (suc n) 0 (λ q. omega (arith, q)) in
    inr (suc n, 32 ∷ [], e.0.1, rw ne ([], (refl, refl), refl), e.1)
item_from limit end t (Some (negsuc n)) e =
    let ne : eqb (suc n) 0 ≡ false = ne_eqb (suc n) 0 (λ q. omega (arith, q)) in
    inl (decimal (suc n) ++ 32 ∷ [], (suc n, 32 ∷ [], e.0, (ne, ([], (refl, refl), refl)), refl), e.1)

-- a number with its sign, or the 0 that ends the list
pub signed_reads : (limit end : ℕ) → limit < 2 ^ 32 → is_ascii_digit end ≡ false → Reads (signed_at limit end) (IsItem limit end)
signed_reads limit end small no_digit =
    reads_as (IsItem limit end)
    (reads_choice 45 (negative_reads limit small) (positive_reads limit end small no_digit) (positive_begins limit end small))
    (item_to limit end) (item_from limit end)

length_space : (t : List ℕ) → 0 < length (t ++ 32 ∷ [])
length_space t = omega (arith, length-append t (32 ∷ []))

-- a number takes a byte
pub signed_takes : (limit end : ℕ) → TakesSome (IsItem limit end)
signed_takes limit end t (pos n) e = rw e.1 (omega (arith, length_space (decimal n)))
signed_takes limit end t (negsuc n) e = rw e.1 (omega arith)

-- A number that is read is the number that was written.
use Rattle.std.proofs.Common.{◌≡◌, ℕ, ◌+◌, ◌-◌, ◌*◌, ◌/◌, ◌%◌, ◌^◌, ◌<◌, ◌≤◌, Bool, true, false, not, cond, ltb, eqb, List, [], ◌∷◌, ◌++◌, Option, Some, None, refl, sym, ap, ◌∙◌, append_assoc, arith, inl, inr, ◌&&◌}
use Rattle.std.specs.Prelude.{decimal}
use Rattle.std.specs.Char.{is_ascii_digit}
use Rattle.std.proofs.lemmas.Bool.{cases_Bool, cases_lt, and_cases, and_left, and_right, eqb-false, le-leb, lt-leb, le-ltb, ltb-false, ne_eqb, and_parts, not-true}
use Rattle.std.proofs.lemmas.Fmt.{decimal_digit, decimal_step, decimal_by_steps}
use Rattle.std.proofs.lemmas.List.{append-nil}
use Rattle.std.proofs.lemmas.Option.{same_Some}
use Rattle.scan.proofs.Digits.{IsDigit, digit_from}
use Rattle.scan.specs.Numbers.{begins_digit, begins_number, digits_after, at_most, number_at}

-- no digit comes next
abbrev pub NoDigit : List ℕ → Type 0
NoDigit cs = begins_digit cs ≡ false

digit_is : (c : ℕ) → IsDigit c → is_ascii_digit c ≡ true
digit_is c d = rw (le-leb 48 c d.0, le-leb c 57 d.1) refl

-- one more digit at the end
decimal_push : (n d : ℕ) → 0 < n → d < 10 → n * 10 + d < 2 ^ 64 → decimal (n * 10 + d) ≡ decimal n ++ (48 + d) ∷ []
decimal_push n d pos lt small =
    let q : (n * 10 + d) / 10 ≡ n = omega arith in
    let r : (n * 10 + d) % 10 ≡ d = omega arith in
    decimal_step (n * 10 + d) (omega arith) small ∙ rw (q, r) refl

-- what the digits after n were
pub record Goes (limit n : ℕ) (cs : List ℕ) (r : ℕ × List ℕ) : Type 0 where
  pub more : List ℕ
  pub front : cs ≡ more ++ r.1
  pub is : decimal r.0 ≡ decimal n ++ more
  pub end : NoDigit r.1

goes_stop : (limit n : ℕ) (cs : List ℕ) → NoDigit cs → Goes limit n cs (n, cs)
goes_stop limit n cs e = record { more = []; front = refl; is = sym (append-nil (decimal n)); end = e }

goes_more : (limit n c : ℕ) (cs : List ℕ) (r : ℕ × List ℕ) → 0 < n → n ≤ limit → limit < 2 ^ 32 → IsDigit c → Goes limit (n * 10 + (c - 48)) cs r → Goes limit n (c ∷ cs) r
goes_more limit n c cs r pos le small d g =
    let e : 48 + (c - 48) ≡ c = omega arith in
    record {
      more = c ∷ g.more;
      front = ap (λ (t : List ℕ). c ∷ t) g.front;
      is = g.is ∙ ap (λ (t : List ℕ). t ++ g.more) (decimal_push n (c - 48) pos (omega arith) (omega arith) ∙ rw e refl) ∙ append_assoc (decimal n) (c ∷ []) g.more;
      end = g.end;
    }

stays : (limit n : ℕ) (cs : List ℕ) → limit < n → limit < (digits_after limit n cs).0
unfolding digits_after
stays limit n [] lt = lt
stays limit n (c ∷ cs) lt =
    elim (cases_Bool (is_ascii_digit c)) [
      | inl e ↦ rw (e, lt-leb n limit lt) (stays limit n cs lt)
      | inr e ↦ rw e lt
    ]

digits_take : (limit n : ℕ) (cs : List ℕ) → limit < 2 ^ 32 → 0 < n → n ≤ limit → (digits_after limit n cs).0 ≤ limit → Goes limit n cs (digits_after limit n cs)
unfolding digits_after
digits_take limit n [] small pos le fits = goes_stop limit n [] refl
digits_take limit n (c ∷ cs) small pos le fits =
    elim (cases_Bool (is_ascii_digit c)) [
      | inl e ↦
          let one : digits_after limit n (c ∷ cs) ≡ digits_after limit (n * 10 + (c - 48)) cs = rw (e, le-leb n limit le) refl in
          let fits2 : (digits_after limit (n * 10 + (c - 48)) cs).0 ≤ limit = rw one at fits in
          elim (cases_lt limit (n * 10 + (c - 48))) [
            | inl past ↦ absurd (omega (arith, stays limit (n * 10 + (c - 48)) cs past))
            | inr within ↦ rw one (goes_more limit n c cs (digits_after limit (n * 10 + (c - 48)) cs) pos le small (digit_from c e) (digits_take limit (n * 10 + (c - 48)) cs small (omega arith) within fits2))
          ]
      | inr e ↦ rw e (goes_stop limit n (c ∷ cs) e)
    ]

-- a test that went the way of the value
pub cond_some_to : {A : Type 0} (b : Bool) (o : Option A) (y : A) → cond b o None ≡ Some y → (b ≡ true) × (o ≡ Some y)
cond_some_to true o y e = (refl, e)
cond_some_to false o y e = absurd cc

pub cond_none_to : {A : Type 0} (b : Bool) (o : Option A) (y : A) → cond b None o ≡ Some y → (b ≡ false) × (o ≡ Some y)
cond_none_to true o y e = absurd cc
cond_none_to false o y e = (refl, e)

-- ---- what is read is spelled so

pub record IsNumber (limit : ℕ) (bytes : List ℕ) (x : ℕ × List ℕ) : Type 0 where
  pub parts : bytes ≡ decimal x.0 ++ x.1
  pub within : x.0 ≤ limit
  pub end : NoDigit x.1

tail_of_zero : (limit : ℕ) (cs : List ℕ) → NoDigit cs → digits_after limit 0 cs ≡ (0, cs)
unfolding digits_after
tail_of_zero limit [] e = refl
tail_of_zero limit (c ∷ cs) e = rw e refl

pub number_takes : (limit : ℕ) (bytes : List ℕ) (x : ℕ × List ℕ) → limit < 2 ^ 32 → number_at limit bytes ≡ Some x → IsNumber limit bytes x
unfolding number_at
number_takes limit [] x small e = absurd cc
number_takes limit (c ∷ cs) x small e =
    let a = cond_some_to (begins_number c cs) (at_most limit (digits_after limit (c - 48) cs)) x e in
    let p = and_parts (is_ascii_digit c) (not (eqb c 48 && begins_digit cs)) a.0 in
    let d = cond_none_to (ltb limit (digits_after limit (c - 48) cs).0) (Some (digits_after limit (c - 48) cs)) x a.1 in
    let within : (digits_after limit (c - 48) cs).0 ≤ limit = ltb-false _ _ d.0 in
    let is_x : digits_after limit (c - 48) cs ≡ x = same_Some _ _ d.1 in
    let digit : IsDigit c = digit_from c p.0 in
    let c_is : 48 + (c - 48) ≡ c = omega arith in
    let made : IsNumber limit (c ∷ cs) (digits_after limit (c - 48) cs) =
    elim (cases_lt 48 c) [
      | inl gt ↦
          elim (cases_lt limit (c - 48)) [
            | inl past ↦ absurd (omega (arith, stays limit (c - 48) cs past))
            | inr le ↦
                let g = digits_take limit (c - 48) cs small (omega arith) le within in
                let first : decimal (c - 48) ≡ c ∷ [] = decimal_digit (c - 48) (omega arith) ∙ rw c_is refl in
                record {
                  parts = ap (λ (t : List ℕ). c ∷ t) g.front ∙ ap (λ (t : List ℕ). t ++ (digits_after limit (c - 48) cs).1) (sym (g.is ∙ ap (λ (t : List ℕ). t ++ g.more) first));
                  within = within;
                  end = g.end;
                }
          ]
      | inr le ↦
          let zero_is : c ≡ 48 = omega arith in
          let z : c - 48 ≡ 0 = omega arith in
          let no : NoDigit cs = elim (and_cases (eqb c 48) (begins_digit cs) (not-true (eqb c 48 && begins_digit cs) p.1)) [ inl n ↦ absurd (eqb-false c 48 n zero_is) | inr n ↦ n ] in
          let u : digits_after limit (c - 48) cs ≡ (0, cs) = ap (λ (n : ℕ). digits_after limit n cs) z ∙ tail_of_zero limit cs no in
          rw u (record {
            parts = rw (zero_is, decimal_digit 0 (omega arith)) refl;
            within = omega arith;
            end = no;
          })
    ]
    in rw is_x at made

-- ---- what is spelled is read

-- a number's text, and what reading its digits comes to
record Begins (limit n : ℕ) (ds : List ℕ) : Type 0 where
  first : ℕ
  others : List ℕ
  is : ds ≡ first ∷ others
  digit : IsDigit first
  no_zero : 0 < n → 48 < first
  only : n < 10 → others ≡ []
  reads : (rest : List ℕ) → digits_after limit (first - 48) (others ++ rest) ≡ digits_after limit n rest

one_digit : (limit n : ℕ) → n < 10 → Begins limit n ((48 + n) ∷ [])
one_digit limit n lt =
    let z : 48 + n - 48 ≡ n = omega arith in
    record { first = 48 + n; others = []; is = refl; digit = omega arith; no_zero = λ p. omega arith; only = λ _. refl; reads = λ rest. rw z refl }

step_in : (limit m d : ℕ) (rest : List ℕ) → d < 10 → m ≤ limit → digits_after limit m ((48 + d) ∷ rest) ≡ digits_after limit (m * 10 + d) rest
unfolding digits_after
step_in limit m d rest lt le =
    let z : 48 + d - 48 ≡ d = omega arith in
    rw (digit_is (48 + d) (omega arith), le-leb m limit le, z) refl

more_digits : (limit n : ℕ) (ds : List ℕ) → 10 ≤ n → (n / 10 ≤ limit → Begins limit (n / 10) ds) → n ≤ limit → Begins limit n (ds ++ ((48 + n % 10) ∷ []))
more_digits limit n ds ge before le =
    let b = before (omega arith) in
    let back : n / 10 * 10 + n % 10 ≡ n = omega arith in
    record {
      first = b.first;
      others = b.others ++ (48 + n % 10) ∷ [];
      is = ap (λ (t : List ℕ). t ++ ((48 + n % 10) ∷ [])) b.is;
      digit = b.digit;
      no_zero = λ p. b.no_zero (omega arith);
      only = λ lt. absurd (omega arith);
      reads = λ rest. ap (digits_after limit (b.first - 48)) (append_assoc b.others ((48 + n % 10) ∷ []) rest) ∙ b.reads ((48 + n % 10) ∷ rest) ∙ step_in limit (n / 10) (n % 10) rest (omega arith) (omega arith) ∙ ap (λ (k : ℕ). digits_after limit k rest) back;
    }

begins : (limit n : ℕ) → n ≤ limit → limit < 2 ^ 32 → Begins limit n (decimal n)
begins limit n le small = decimal_by_steps (λ n ds. n ≤ limit → Begins limit n ds) (λ n lt _. one_digit limit n lt) (λ n ds ge before le. more_digits limit n ds ge before le) n (omega arith) le

-- a number's text begins with a digit
pub decimal_first : (limit n : ℕ) → n ≤ limit → limit < 2 ^ 32 → (c : ℕ) × (cs : List ℕ) × IsDigit c × (decimal n ≡ c ∷ cs)
decimal_first limit n le small = let b = begins limit n le small in (b.first, b.others, b.digit, b.is)

at_end : (limit n : ℕ) (rest : List ℕ) → NoDigit rest → digits_after limit n rest ≡ (n, rest)
unfolding digits_after
at_end limit n [] e = refl
at_end limit n (c ∷ cs) e = rw e refl

pub number_again : (limit n : ℕ) (rest : List ℕ) → n ≤ limit → limit < 2 ^ 32 → NoDigit rest → number_at limit (decimal n ++ rest) ≡ Some (n, rest)
unfolding number_at
number_again limit n rest le small e =
    let b = begins limit n le small in
    let r : digits_after limit (b.first - 48) (b.others ++ rest) ≡ (n, rest) = b.reads rest ∙ at_end limit n rest e in
    let cells : decimal n ++ rest ≡ b.first ∷ (b.others ++ rest) = ap (λ (t : List ℕ). t ++ rest) b.is in
    let no_zero_first : (eqb b.first 48 && begins_digit (b.others ++ rest)) ≡ false =
    elim (cases_lt 0 n) [
      | inl pos ↦ and_left _ _ (ne_eqb b.first 48 (λ q. omega (arith, b.no_zero pos)))
      | inr z ↦ and_right (eqb b.first 48) (begins_digit (b.others ++ rest)) (rw (b.only (omega arith)) e)
    ] in
    let whole : number_at limit (b.first ∷ (b.others ++ rest)) ≡ Some (n, rest) = rw (digit_is b.first b.digit, r, no_zero_first, le-ltb limit n le) refl in
    ap (number_at limit) cells ∙ whole

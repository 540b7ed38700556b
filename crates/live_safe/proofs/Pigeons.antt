-- More things than holes: two of them share a hole.
use Rattle.std.proofs.Common.{◌≡◌, ℕ, zero, suc, ◌+◌, ◌*◌, ◌^◌, ◌<◌, ◌≢◌, ◌⊎◌, Bool, true, false, List, [], ◌∷◌, length, cond, eqb, refl, inl, inr, arith, ◌∙◌, sym, ap, pow-suc}
use Rattle.std.proofs.lemmas.Bool.{cases_lt, cases_eq}

-- two numbers below n have one value_of
pub record Collision (f : ℕ → ℕ) (n : ℕ) : Type 0 where
  pub low : ℕ
  pub high : ℕ
  pub ordered : low < high
  pub below : high < n
  pub same : f low ≡ f high

-- a number below n with a given value_of, or none
pub found_below : (f : ℕ → ℕ) (v n : ℕ) → ((k : ℕ) × (k < n) × (f k ≡ v)) ⊎ ((k : ℕ) → k < n → f k ≢ v)
found_below f v zero = inr (λ k k_in. absurd (omega arith))
found_below f v (suc n) = elim (found_below f v n) [
  | inl found ↦ inl (found.0, omega (arith, found.1), found.2)
  | inr none ↦ elim (cases_eq (f n) v) [
    | inl here ↦ inl (n, omega arith, here)
    | inr apart ↦ inr (λ k k_in. elim (cases_lt k n) [ inl before ↦ none k before | inr last ↦ let is_n : k ≡ n = omega arith in rw is_n apart ])
  ]
]

-- the values below m, the value_of m being replaced
abbrev replaced : (ℕ → ℕ) → ℕ → ℕ → ℕ → ℕ
replaced f m other k = cond (eqb (f k) m) other (f k)

replaced_cases : (f : ℕ → ℕ) (m other k : ℕ) → ((f k ≡ m) × (replaced f m other k ≡ other)) ⊎ ((f k ≢ m) × (replaced f m other k ≡ f k))
replaced_cases f m other k = elim (cases_eq (f k) m) [ inl same ↦ inl (same, grind (arith, same)) | inr apart ↦ inr (apart, grind (arith, apart)) ]

pub collision : (f : ℕ → ℕ) (m n : ℕ) → m < n → ((k : ℕ) → k < n → f k < m) → Collision f n
collision f zero n many into = absurd (omega (arith, into 0 many))
collision f (suc m) zero many into = absurd (omega arith)
collision f (suc m) (suc n) many into = elim (found_below f (f n) n) [
  | inl found ↦ record { low = found.0; high = n; ordered = found.1; below = omega arith; same = found.2 }
  | inr none ↦
      let g : ℕ → ℕ = replaced f m (f n) in
      let g_into : (k : ℕ) → k < n → g k < m = λ k k_in. elim (replaced_cases f m (f n) k) [
        | inl moved ↦ let apart = none k k_in in let p = moved.0 in let q = moved.1 in let last = into n (omega arith) in omega (arith, apart, p, q, last)
        | inr kept ↦ let p = kept.0 in let q = kept.1 in let here = into k (omega arith) in omega (arith, p, q, here)
      ] in
      let c = collision g m n (omega arith) g_into in
      let low_in : c.low < n = (let a = c.ordered in let b = c.below in omega (arith, a, b)) in
      record {
        low = c.low;
        high = c.high;
        ordered = c.ordered;
        below = (let b = c.below in omega (arith, b));
        same =
            elim (replaced_cases f m (f n) c.low) [
              | inl low_moved ↦ elim (replaced_cases f m (f n) c.high) [
                | inl high_moved ↦ low_moved.0 ∙ sym high_moved.0
                | inr high_kept ↦ absurd (none c.high c.below (sym high_kept.1 ∙ sym c.same ∙ low_moved.1))
              ]
              | inr low_kept ↦ elim (replaced_cases f m (f n) c.high) [
                | inl high_moved ↦ absurd (none c.low low_in (sym low_kept.1 ∙ c.same ∙ high_moved.1))
                | inr high_kept ↦ sym low_kept.1 ∙ c.same ∙ high_kept.1
              ]
            ];
      }
]

-- a list of truth values as a number
pub code : List Bool → ℕ
code [] = 0
code (true ∷ bs) = 2 * code bs + 1
code (false ∷ bs) = 2 * code bs

pub code_below : (bs : List Bool) → code bs < 2 ^ length bs
unfolding code
code_below [] = omega arith
code_below (true ∷ bs) = let h = code_below bs in omega (arith, h, pow-suc 2 (length bs))
code_below (false ∷ bs) = let h = code_below bs in omega (arith, h, pow-suc 2 (length bs))

pub code_same : (xs bs : List Bool) → length xs ≡ length bs → code xs ≡ code bs → xs ≡ bs
unfolding code
code_same [] [] long same = refl
code_same [] (b ∷ bs) long same = absurd (omega arith)
code_same (a ∷ xs) [] long same = absurd (omega arith)
code_same (true ∷ xs) (true ∷ bs) long same = ap (λ q. true ∷ q) (code_same xs bs (omega arith) (omega arith))
code_same (false ∷ xs) (false ∷ bs) long same = ap (λ q. false ∷ q) (code_same xs bs (omega arith) (omega arith))
code_same (true ∷ xs) (false ∷ bs) long same = absurd (omega arith)
code_same (false ∷ xs) (true ∷ bs) long same = absurd (omega arith)

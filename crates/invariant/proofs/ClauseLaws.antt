-- The line of a clause is read as it is spelled.
use Rattle.std.proofs.Common.{◌≡◌, ℕ, zero, suc, ◌<◌, ◌≤◌, Bool, true, false, cond, eqb, List, [], ◌∷◌, ◌++◌, length, refl, sym, ap, subst, ◌∙◌, append_assoc, arith, inl, inr}
use Rattle.std.specs.Prelude.{◌⊎◌, decimal, codes, flat_map}
use Rattle.std.specs.Char.{is_ascii_digit}
use Rattle.std.proofs.lemmas.Bool.{cases_Bool, eqb-true, ne_eqb, or_cases}
use Rattle.std.proofs.lemmas.List.{append-nil, length-append}
use Rattle.std.proofs.lemmas.List.Elements.{All-nil, All-cons, All-head, All-tail}
use Rattle.scan.specs.Bytes.{either}
use Rattle.scan.specs.Spelling.{Nothing, Then, After}
use Rattle.scan.specs.Words.{any, IsWord}
use Rattle.scan.proofs.NumberLaws.{decimal_first}
use Rattle.scan.proofs.Toolbox.{Reads, NeverBegins, reads_as, reads_nothing, reads_then, reads_if, reads_choice}
use Rattle.scan.proofs.WordLaws.{word_reads}
use Rattle.graph.specs.declared.circuit.Lit.{Lit}
use Rattle.invariant.specs.Reading.{literals_at, clause_at}
use Rattle.invariant.specs.Texts.{literal_text, clause_line, AreSmall, SpellsClause}

abbrev pub lit : ℕ → Lit
lit n = record { 0 = n }

-- ---- one literal or more, and the line end

-- a space behind each literal but the last, and a line end behind that
abbrev pub IsWords : List ℕ → List Lit → Type 0
IsWords t [] = ⊥
IsWords t (a ∷ []) = (a.0 < 4294967296) × (t ≡ decimal a.0 ++ 10 ∷ [])
IsWords t (a ∷ b ∷ c) = (a.0 < 4294967296) × (rest : List ℕ) × IsWords rest (b ∷ c) × (t ≡ decimal a.0 ++ 32 ∷ rest)

-- at most n of them
abbrev Few : ℕ → List ℕ → List Lit → Type 0
Few n t c = (length c ≤ n) × IsWords t c

abbrev OfRest : ℕ → ℕ × ℕ → List ℕ → List Lit → Type 0
OfRest n w t c = cond (eqb w.1 10) (Nothing {A = List Lit} (lit w.0 ∷ []) t c) (Then (Few n) (λ r. Nothing {A = List Lit} (lit w.0 ∷ r)) t c)

both : {b : Bool} → b ≡ false → b ≡ true → ⊥
both f t = absurd cc

end_digit : (c : ℕ) → either 32 10 c ≡ true → is_ascii_digit c ≡ false
end_digit c e = elim (or_cases (eqb c 32) (eqb c 10) e) [
  | inl s ↦ rw (eqb-true c 32 s) refl
  | inr n ↦ rw (eqb-true c 10 n) refl
]

end_space : (c : ℕ) → either 32 10 c ≡ true → eqb c 10 ≡ false → c ≡ 32
end_space c e off = elim (or_cases (eqb c 32) (eqb c 10) e) [
  | inl s ↦ eqb-true c 32 s
  | inr n ↦ absurd (both off n)
]

last_to : (n : ℕ) (w : ℕ × ℕ) (t a b : List ℕ) (c : List Lit) → IsWord 4294967295 any (either 32 10) a w → w.1 ≡ 10 → t ≡ a ++ b → Nothing {A = List Lit} (lit w.0 ∷ []) b c → Few (suc n) t c
last_to n w t a b c one ten p last =
    rw last.1 (omega arith, (omega (arith, one.within), rw (p, one.spells, last.0, ten) (append-nil (decimal w.0 ++ 10 ∷ []))))

one_more : (n k : ℕ) (t rest : List ℕ) (c : List Lit) → k < 4294967296 → Few n rest c → t ≡ decimal k ++ 32 ∷ rest → Few (suc n) t (lit k ∷ c)
one_more n k t rest [] small f e = absurd f.1
one_more n k t rest (a ∷ c) small f e = (omega (arith, f.0), (small, rest, f.1, e))

more_to : (n : ℕ) (w : ℕ × ℕ) (t a b : List ℕ) (c : List Lit) → IsWord 4294967295 any (either 32 10) a w → w.1 ≡ 32 → t ≡ a ++ b → Then (Few n) (λ r. Nothing {A = List Lit} (lit w.0 ∷ r)) b c → Few (suc n) t c
more_to n w t a b c one space p (r, d, e, few, last, q) =
    let whole : t ≡ decimal w.0 ++ 32 ∷ d = rw (p, one.spells, space, q, last.0) (simp (append_assoc, append-nil)) in
    rw last.1 (one_more n w.0 t d r (omega (arith, one.within)) few whole)

words_to : (n : ℕ) (t : List ℕ) (c : List Lit) → Then (IsWord 4294967295 any (either 32 10)) (OfRest n) t c → Few (suc n) t c
words_to n t c (w, a, b, one, after, p) = elim (cases_Bool (eqb w.1 10)) [
  | inl e ↦ last_to n w t a b c one (eqb-true w.1 10 e) p (rw e at after)
  | inr e ↦ more_to n w t a b c one (end_space w.1 one.is_end e) p (rw e at after)
]

words_from : (n : ℕ) (t : List ℕ) (c : List Lit) → Few (suc n) t c → Then (IsWord 4294967295 any (either 32 10)) (OfRest n) t c
words_from n t [] f = absurd f.1
words_from n t (a ∷ []) f = (
  (a.0, 10),
  decimal a.0 ++ 10 ∷ [],
  [],
  record { spells = refl; within = omega (arith, f.1.0); is_good = refl; is_end = refl },
  (refl, refl),
  f.1.1 ∙ sym (append-nil (decimal a.0 ++ 10 ∷ [])),
)
words_from n t (a ∷ b ∷ c) f = (
  (a.0, 32),
  decimal a.0 ++ 32 ∷ [],
  f.1.1,
  record { spells = refl; within = omega (arith, f.1.0); is_good = refl; is_end = refl },
  (b ∷ c, f.1.1, [], (omega (arith, f.0), f.1.2), (refl, refl), sym (append-nil f.1.1)),
  f.1.3 ∙ sym (append_assoc (decimal a.0) (32 ∷ []) f.1.1),
)

none_few : (t : List ℕ) (c : List Lit) → Few zero t c → ⊥
none_few t [] f = f.1
none_few t (a ∷ c) f = absurd (omega (arith, f.0))

few_reads : (n : ℕ) → Reads (literals_at n) (Few n)
unfolding literals_at
few_reads zero = record { sound = λ bytes c rest e. absurd cc; complete = λ front c rest f. absurd (none_few front c f) }
few_reads (suc n) =
    reads_as (Few (suc n))
    (reads_then (word_reads 4294967295 any (either 32 10) (omega arith) end_digit) (λ w.
    reads_if (eqb w.1 10) (reads_nothing {A = List Lit} (lit w.0 ∷ [])) (reads_then (few_reads n) (λ r. reads_nothing {A = List Lit} (lit w.0 ∷ r)))))
    (words_to n) (words_from n)

pub words_long : (t : List ℕ) (c : List Lit) → IsWords t c → length c ≤ length t
words_long t [] w = absurd w
words_long t (a ∷ []) w = omega (arith, ap length w.1, length-append (decimal a.0) (10 ∷ []))
words_long t (a ∷ b ∷ c) w =
    omega (arith, words_long w.1 (b ∷ c) w.2, ap length w.3, length-append (decimal a.0) (32 ∷ w.1))

words_reads : Reads (λ text. literals_at (suc (length text)) text) IsWords
words_reads = record {
  sound = λ bytes c rest e. let s = (few_reads (suc (length bytes))).sound bytes c rest e in (s.0, s.1.1, s.2);
  complete = λ front c rest w.
      let few : length c ≤ suc (length (front ++ rest)) = omega (arith, words_long front c w, length-append front rest) in
      (few_reads (suc (length (front ++ rest)))).complete front c rest (few, w);
}

-- ---- a clause's line

words_text : (a : Lit) (c : List Lit) (t : List ℕ) → IsWords t (a ∷ c) → t ≡ clause_line (a ∷ c)
words_text a [] t w = w.1
words_text a (b ∷ c) t w =
    w.3 ∙ ap (λ (r : List ℕ). decimal a.0 ++ 32 ∷ r) (words_text b c w.1 w.2 ∙ sym (append_assoc (decimal b.0) (flat_map literal_text c) (codes "\n")))

words_small : (t : List ℕ) (c : List Lit) → IsWords t c → AreSmall c
words_small t [] w = absurd w
words_small t (a ∷ []) w = All-cons (λ (x : Lit). x.0 < 4294967296) a [] w.0 (All-nil (λ (x : Lit). x.0 < 4294967296))
words_small t (a ∷ b ∷ c) w = All-cons (λ (x : Lit). x.0 < 4294967296) a (b ∷ c) w.0 (words_small w.1 (b ∷ c) w.2)

words_of : (a : Lit) (c : List Lit) → AreSmall (a ∷ c) → IsWords (clause_line (a ∷ c)) (a ∷ c)
words_of a [] small = (All-head (λ (x : Lit). x.0 < 4294967296) a [] small, refl)
words_of a (b ∷ c) small = (
  All-head (λ (x : Lit). x.0 < 4294967296) a (b ∷ c) small,
  clause_line (b ∷ c),
  words_of b c (All-tail (λ (x : Lit). x.0 < 4294967296) a (b ∷ c) small),
  ap (λ (r : List ℕ). decimal a.0 ++ 32 ∷ r) (append_assoc (decimal b.0) (flat_map literal_text c) (codes "\n")),
)

abbrev OfClause : List ℕ → List Lit → Type 0
OfClause t c = After (10 ∷ []) (Nothing {A = List Lit} []) t c ⊎ IsWords t c

clause_to : (t : List ℕ) (c : List Lit) → OfClause t c → SpellsClause t c
clause_to t c (inl (a, last, whole)) = rw last.1 (record { spells = rw (whole, last.0) refl; small = All-nil (λ (x : Lit). x.0 < 4294967296) })
clause_to t [] (inr w) = absurd w
clause_to t (a ∷ c) (inr w) = record { spells = words_text a c t w; small = words_small t (a ∷ c) w }

clause_from : (t : List ℕ) (c : List Lit) → SpellsClause t c → OfClause t c
clause_from t [] s = inl ([], (refl, refl), s.spells)
clause_from t (a ∷ c) s = inr (subst (λ (u : List ℕ). IsWords u (a ∷ c)) (sym s.spells) (words_of a c s.small))

digit_begins : (n : ℕ) (rest : List ℕ) → n < 4294967296 → (d : ℕ) × (ds : List ℕ) × (eqb d 10 ≡ false) × (eqb d 97 ≡ false) × (decimal n ++ rest ≡ d ∷ ds)
digit_begins n rest small =
    let f = decimal_first 4294967295 n (omega (arith, small)) (omega arith) in
    (f.0, f.1 ++ rest, ne_eqb f.0 10 (λ e. omega (arith, f.2, e)), ne_eqb f.0 97 (λ e. omega (arith, f.2, e)), ap (λ (w : List ℕ). w ++ rest) f.3)

words_begin : NeverBegins 10 IsWords
words_begin t [] rest w = absurd w
words_begin t (a ∷ []) rest w =
    let f = decimal_first 4294967295 a.0 (omega (arith, w.0)) (omega arith) in
    let ne : eqb f.0 10 ≡ false = ne_eqb f.0 10 (λ e. omega (arith, f.2, e)) in
    rw (w.1, f.3) ne
words_begin t (a ∷ b ∷ c) rest w =
    let f = decimal_first 4294967295 a.0 (omega (arith, w.0)) (omega arith) in
    let ne : eqb f.0 10 ≡ false = ne_eqb f.0 10 (λ e. omega (arith, f.2, e)) in
    rw (w.3, f.3) ne

-- the line of a clause is read as it is spelled
pub clause_reads : Reads clause_at SpellsClause
unfolding clause_at
clause_reads = reads_as SpellsClause (reads_choice 10 (reads_nothing {A = List Lit} []) words_reads words_begin) clause_to clause_from

-- it has a byte
pub clause_takes : (t : List ℕ) (c : List Lit) → SpellsClause t c → 0 < length t
clause_takes t [] s = rw s.spells (omega arith)
clause_takes t (a ∷ c) s =
    omega (arith, words_long t (a ∷ c) (subst (λ (u : List ℕ). IsWords u (a ∷ c)) (sym s.spells) (words_of a c s.small)))

-- and begins with none of a certificate's
pub clause_first : (t : List ℕ) (c : List Lit) → SpellsClause t c → (d : ℕ) × (ds : List ℕ) × (eqb d 97 ≡ false) × (t ≡ d ∷ ds)
clause_first t [] s = (10, [], refl, s.spells)
clause_first t (a ∷ c) s =
    let f = digit_begins a.0 (flat_map literal_text c ++ codes "\n") (All-head (λ (x : Lit). x.0 < 4294967296) a c s.small) in
    (f.0, f.1, f.3, s.spells ∙ f.4)

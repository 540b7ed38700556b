-- Numbers, and what ends them, are read as they are spelled.
use Rattle.std.proofs.Common.{◌≡◌, ℕ, ◌^◌, ◌<◌, Bool, true, false, List, [], ◌∷◌, ◌++◌, refl, sym, ap, ◌∙◌, append_assoc}
use Rattle.std.specs.Prelude.{decimal}
use Rattle.std.specs.Char.{is_ascii_digit}
use Rattle.scan.specs.Reading.{◌>>=◌, Read}
use Rattle.scan.specs.Numbers.{number_at}
use Rattle.scan.specs.Words.{word_at, field_at, IsWord, IsField}
use Rattle.scan.specs.Spelling.{NumberThen}
use Rattle.scan.proofs.NumberLaws.{NoDigit, number_takes, number_again}
use Rattle.scan.proofs.Toolbox.{Reads, bind_some, reads_as, reads_nothing, reads_then, reads_after, reads_when, reads_ending, skips_byte}

-- no text of the relation begins with a digit
abbrev pub EndsNumber : {A : Type 0} → (ℕ → List ℕ → A → Type 0) → Type 0
EndsNumber {A} S = (n : ℕ) (t : List ℕ) (x : A) (rest : List ℕ) → S n t x → NoDigit (t ++ rest)

-- a number, and what follows it, which no digit begins
pub reads_number : {A : Type 0} {q : ℕ → List ℕ → Read A} {S : ℕ → List ℕ → A → Type 0} (limit : ℕ) → limit < 2 ^ 32 → ((n : ℕ) → Reads (q n) (S n)) → EndsNumber S → Reads (λ bytes. number_at limit bytes >>= λ n. q n.0 n.1) (NumberThen limit S)
reads_number {q} limit small law ends = record {
  sound = λ bytes x rest e.
      let n = bind_some (number_at limit bytes) (λ n. q n.0 n.1) (x, rest) e in
      let t = number_takes limit bytes n.0 small n.1 in
      let s = (law n.0.0).sound n.0.1 x rest n.2 in
      (decimal n.0.0 ++ s.0, (n.0.0, s.0, t.within, s.1, refl), t.parts ∙ ap (λ (w : List ℕ). decimal n.0.0 ++ w) s.2 ∙ sym (append_assoc (decimal n.0.0) s.0 rest));
  complete = λ front x rest r.
      let regrouped : front ++ rest ≡ decimal r.0 ++ (r.1 ++ rest) = ap (λ (w : List ℕ). w ++ rest) r.4 ∙ append_assoc (decimal r.0) r.1 rest in
      ap (λ (w : List ℕ). number_at limit w >>= λ n. q n.0 n.1) regrouped ∙ ap (λ o. o >>= λ n. q n.0 n.1) (number_again limit r.0 (r.1 ++ rest) r.2 small (ends r.0 r.1 x rest r.3)) ∙ (law r.0).complete r.1 x rest r.3;
}

-- a good number, and a byte that ends it
pub word_reads : (limit : ℕ) (good ends : ℕ → Bool) → limit < 2 ^ 32 → ((c : ℕ) → ends c ≡ true → is_ascii_digit c ≡ false) → Reads (word_at limit good ends) (IsWord limit good ends)
unfolding word_at
word_reads limit good ends small no_digit =
    reads_as (IsWord limit good ends)
    (reads_number limit small (λ n. reads_when (good n) (reads_then (reads_ending ends) (λ c. reads_nothing (n, c))))
    (λ n t x rest (is_good, (c, a, b, (is_end, one), last, parts)). rw (parts, one) (no_digit c is_end)))
    (λ t x (n, b, within, (is_good, (c, d, e, (is_end, one), last, parts)), whole).
    rw last.1 (record { spells = rw (whole, parts, one, last.0) refl; within = within; is_good = is_good; is_end = is_end }))
    (λ t x w.
    (x.0, x.1 ∷ [], w.within, (w.is_good, (x.1, x.1 ∷ [], [], (w.is_end, refl), (refl, refl), refl)), w.spells))

-- a good number, and this byte
pub field_reads : (limit : ℕ) (good : ℕ → Bool) (end : ℕ) → limit < 2 ^ 32 → is_ascii_digit end ≡ false → Reads (field_at limit good end) (IsField limit good end)
unfolding field_at
field_reads limit good end small no_digit =
    reads_as (IsField limit good end)
    (reads_number limit small (λ n. reads_when (good n) (reads_after (skips_byte end) (reads_nothing n)))
    (λ n t x rest (is_good, (b, last, parts)). rw parts no_digit))
    (λ t x (n, b, within, (is_good, (e, last, parts)), whole).
    rw last.1 (record { spells = rw (whole, parts, last.0) refl; within = within; is_good = is_good }))
    (λ t x f. (x, end ∷ [], f.within, (f.is_good, ([], (refl, refl), refl)), f.spells))

-- Each kind of line is read as it is spelled.
use Rattle.std.proofs.Common.{◌≡◌, ℕ, zero, suc, ◌-◌, ◌%◌, ◌^◌, ◌≤◌, ◌<◌, Bool, true, false, cond, eqb, ltb, leb, ◌||◌, List, [], ◌∷◌, ◌++◌, refl, sym, ◌∙◌, arith, inl, inr, append_assoc}
use Rattle.std.specs.Char.{is_ascii_digit}
use Rattle.std.specs.Prelude.{decimal, ◌⊎◌}
use Rattle.std.proofs.lemmas.Bool.{eq-eqb, ne_eqb, eqb-true, eqb-false, not-true, or_parts, or_cases, or_right, ltb-false, le-ltb, leb-true, cases_Bool}
use Rattle.std.proofs.lemmas.List.{append-nil}
use Rattle.scan.specs.Bytes.{either}
use Rattle.scan.specs.Words.{any, IsWord, IsField}
use Rattle.scan.specs.Spelling.{Nothing, Then}
use Rattle.scan.proofs.Toolbox.{Reads, reads_as, reads_nothing, reads_then, reads_if}
use Rattle.scan.proofs.WordLaws.{word_reads, field_reads}
use Rattle.graph.specs.declared.circuit.Lit.{Lit}
use Rattle.graph.specs.declared.circuit.Latch.{Latch}
use Rattle.graph.specs.declared.circuit.Gate.{Gate}
use Rattle.aag.specs.Lines.{greatest, most, lit, defines, resets, literal_at, next_at, reset_at, latch_end_at, latch_at, gate_at}
use Rattle.aag.specs.Spelling.{IsDefining, IsInputLine, IsLiteralLine, IsLatchLine, IsGateLine}

-- ---- literals

-- a good literal and the byte behind it
abbrev pub IsLit : ℕ → (ℕ → Bool) → ℕ → List ℕ → Lit → Type 0
IsLit max good end t a = IsField (most max) good end t a.0

small_most : (max : ℕ) → max ≤ greatest → most max < 2 ^ 32
small_most max le = omega arith

pub lit_reads : (max : ℕ) (good : ℕ → Bool) (end : ℕ) → max ≤ greatest → is_ascii_digit end ≡ false → Reads (literal_at max good end) (IsLit max good end)
unfolding literal_at
lit_reads max good end le no_digit = reads_as (IsLit max good end)
    (reads_then (field_reads (most max) good end (small_most max le) no_digit) (λ n. reads_nothing (lit n)))
    (λ t a (n, b, c, field, last, p). rw (p, last.0, last.1, append-nil b) field)
    (λ t a r. (a.0, t, [], r, (refl, refl), sym (append-nil t)))

defining_to : (max : ℕ) (a : Lit) → a.0 ≤ most max → defines a.0 ≡ true → IsDefining max a
defining_to max a within good =
    let p = or_parts (eqb (a.0 % 2) 1) (ltb a.0 2) (not-true (eqb (a.0 % 2) 1 || ltb a.0 2) good) in
    let odd : a.0 % 2 ≡ 1 → ⊥ = eqb-false (a.0 % 2) 1 p.0 in
    record { literal = within; even = omega arith; least = ltb-false a.0 2 p.1 }

defining_from : (max : ℕ) (a : Lit) → IsDefining max a → defines a.0 ≡ true
defining_from max a d =
    let e : a.0 % 2 ≡ 1 → ⊥ = λ o. omega (arith, d.even) in
    rw (ne_eqb (a.0 % 2) 1 e, le-ltb a.0 2 d.least) refl

pub input_reads : (max : ℕ) → max ≤ greatest → Reads (literal_at max defines 10) (IsInputLine max)
input_reads max le = reads_as (IsInputLine max) (lit_reads max defines 10 le refl)
    (λ t a r. record { spells = r.spells; input = defining_to max a r.within r.is_good })
    (λ t a r. record { spells = r.spells; within = r.input.literal; is_good = defining_from max a r.input })

pub literal_reads : (max : ℕ) → max ≤ greatest → Reads (literal_at max any 10) (IsLiteralLine max)
literal_reads max le = reads_as (IsLiteralLine max) (lit_reads max any 10 le refl)
    (λ t a r. record { spells = r.spells; literal = r.within })
    (λ t a r. record { spells = r.spells; within = r.literal; is_good = refl })

-- ---- gates

abbrev OfGate : ℕ → List ℕ → Gate → Type 0
OfGate max =
    Then (IsLit max defines 32) (λ lhs.
    Then (IsLit max any 32) (λ rhs0.
    Then (IsLit max any 10) (λ rhs1.
    Nothing {A = Gate} (record { lhs = lhs; rhs0 = rhs0; rhs1 = rhs1 }))))

gate_to : (max : ℕ) (t : List ℕ) (g : Gate) → OfGate max t g → IsGateLine max t g
gate_to max t g (lhs, a, b, fa, (rhs0, c, d, fc, (rhs1, e, f, fe, last, p3), p2), p1) =
    rw last.1 (record {
      spells = rw (p1, p2, p3, last.0, fa.spells, fc.spells, fe.spells) (simp (append_assoc, append-nil));
      gate = defining_to max lhs fa.within fa.is_good;
      left = fc.within;
      right = fe.within;
    })

gate_from : (max : ℕ) (t : List ℕ) (g : Gate) → IsGateLine max t g → OfGate max t g
gate_from max t g r = (
  g.lhs,
  decimal g.lhs.0 ++ 32 ∷ [],
  (decimal g.rhs0.0 ++ 32 ∷ []) ++ (decimal g.rhs1.0 ++ 10 ∷ []),
  record { spells = refl; within = r.gate.literal; is_good = defining_from max g.lhs r.gate },
  (
    g.rhs0,
    decimal g.rhs0.0 ++ 32 ∷ [],
    decimal g.rhs1.0 ++ 10 ∷ [],
    record { spells = refl; within = r.left; is_good = refl },
    (
      g.rhs1,
      decimal g.rhs1.0 ++ 10 ∷ [],
      [],
      record { spells = refl; within = r.right; is_good = refl },
      (refl, refl),
      sym (append-nil (decimal g.rhs1.0 ++ 10 ∷ [])),
    ),
    refl,
  ),
  r.spells ∙ simp append_assoc,
)

pub gate_reads : (max : ℕ) → max ≤ greatest → Reads (gate_at max) (IsGateLine max)
unfolding gate_at
gate_reads max le = reads_as (IsGateLine max)
    (reads_then (lit_reads max defines 32 le refl) (λ lhs.
    reads_then (lit_reads max any 32 le refl) (λ rhs0.
    reads_then (lit_reads max any 10 le refl) (λ rhs1.
    reads_nothing {A = Gate} (record { lhs = lhs; rhs0 = rhs0; rhs1 = rhs1 })))))
    (gate_to max) (gate_from max)

-- ---- latches

pub both : {b : Bool} → b ≡ false → b ≡ true → ⊥
both f t = absurd cc

end_next : (c : ℕ) → either 32 10 c ≡ true → is_ascii_digit c ≡ false
end_next c e = elim (or_cases (eqb c 32) (eqb c 10) e) [
  | inl s ↦ rw (eqb-true c 32 s) refl
  | inr n ↦ rw (eqb-true c 10 n) refl
]

-- a next literal and the byte behind it
abbrev pub IsNext : ℕ → List ℕ → Lit × ℕ → Type 0
IsNext max t x = IsWord (most max) any (either 32 10) t (x.0.0, x.1)

pub next_reads : (max : ℕ) → max ≤ greatest → Reads (next_at max) (IsNext max)
unfolding next_at
next_reads max le = reads_as (IsNext max)
    (reads_then (word_reads (most max) any (either 32 10) (small_most max le) end_next) (λ w. reads_nothing {A = Lit × ℕ} (lit w.0, w.1)))
    (λ t x (w, b, c, word, last, p). rw (p, last.0, last.1, append-nil b) word)
    (λ t x r. ((x.0.0, x.1), t, [], r, (refl, refl), sym (append-nil t)))

-- a reset and the line end
pub record IsResetOf (own : Lit) (t : List ℕ) (reset : Lit) : Type 0 where
  pub spells : t ≡ decimal reset.0 ++ 10 ∷ []
  pub within : reset.0 ≤ 2 ^ 32 - 1
  pub fits : (reset.0 ≡ 0) ⊎ (reset.0 ≡ 1) ⊎ (reset.0 ≡ own.0)

small_reset : (own reset : ℕ) → reset ≤ 1 → (reset ≡ 0) ⊎ (reset ≡ 1) ⊎ (reset ≡ own)
small_reset own zero le = inl refl
small_reset own (suc zero) le = inr (inl refl)
small_reset own (suc (suc n)) le = absurd (omega (arith, le))

reset_to : (own reset : ℕ) → resets own reset ≡ true → (reset ≡ 0) ⊎ (reset ≡ 1) ⊎ (reset ≡ own)
reset_to own reset e = elim (or_cases (leb reset 1) (eqb reset own) e) [
  | inl le ↦ small_reset own reset (leb-true reset 1 le)
  | inr eq ↦ inr (inr (eqb-true reset own eq))
]

reset_from : (own reset : ℕ) → (reset ≡ 0) ⊎ (reset ≡ 1) ⊎ (reset ≡ own) → resets own reset ≡ true
reset_from own reset (inl z) = rw z refl
reset_from own reset (inr (inl o)) = rw o refl
reset_from own reset (inr (inr e)) = or_right (leb reset 1) (eqb reset own) (eq-eqb reset own e)

pub reset_small : (own reset : ℕ) → own ≤ 2 ^ 31 → (reset ≡ 0) ⊎ (reset ≡ 1) ⊎ (reset ≡ own) → reset ≤ 2 ^ 32 - 1
reset_small own reset le (inl z) = omega arith
reset_small own reset le (inr (inl o)) = omega arith
reset_small own reset le (inr (inr e)) = omega arith

reset_reads : (own : Lit) → Reads (reset_at own) (IsResetOf own)
unfolding reset_at
reset_reads own = reads_as (IsResetOf own)
    (reads_then (field_reads (2 ^ 32 - 1) (resets own.0) 10 (omega arith) refl) (λ n. reads_nothing (lit n)))
    (λ t a (n, b, c, field, last, p). rw (p, last.0, last.1, append-nil b) (record { spells = field.spells; within = field.within; fits = reset_to own.0 n field.is_good }))
    (λ t a r. (a.0, t, [], record { spells = r.spells; within = r.within; is_good = reset_from own.0 a.0 r.fits }, (refl, refl), sym (append-nil t)))

abbrev pub OfEnd : Lit → Lit → ℕ → List ℕ → Latch → Type 0
OfEnd own next end t l =
    cond (eqb end 10) (Nothing {A = Latch} (record { lit = own; next = next; reset = lit 0 }) t l)
    (Then (IsResetOf own) (λ reset. Nothing {A = Latch} (record { lit = own; next = next; reset = reset })) t l)

pub end_reads : (own next : Lit) (end : ℕ) → Reads (latch_end_at own next end) (OfEnd own next end)
unfolding latch_end_at
end_reads own next end = reads_if (eqb end 10) (reads_nothing {A = Latch} (record { lit = own; next = next; reset = lit 0 }))
    (reads_then (reset_reads own) (λ reset. reads_nothing {A = Latch} (record { lit = own; next = next; reset = reset })))

abbrev OfLatch : ℕ → List ℕ → Latch → Type 0
OfLatch max = Then (IsLit max defines 32) (λ own. Then (IsNext max) (λ next. OfEnd own next.0 next.1))

latch_long : (max : ℕ) (own : Lit) (w : Lit × ℕ) (t a b c d : List ℕ) (l : Latch) → IsLit max defines 32 a own → IsNext max c w → w.1 ≡ 32 → b ≡ c ++ d → t ≡ a ++ b
    → Then (IsResetOf own) (λ reset. Nothing {A = Latch} (record { lit = own; next = w.0; reset = reset })) d l → IsLatchLine max t l
latch_long max own w t a b c d l fa fc space p2 p1 (reset, e, f, fe, last, p3) =
    rw last.1 (record {
      spells = inl (rw (p1, p2, p3, last.0, fa.spells, fc.spells, space, fe.spells) (simp (append_assoc, append-nil)));
      latch = defining_to max own fa.within fa.is_good;
      next = fc.within;
      reset = fe.fits;
    })

latch_short : (max : ℕ) (own : Lit) (w : Lit × ℕ) (t a b c d : List ℕ) (l : Latch) → IsLit max defines 32 a own → IsNext max c w → w.1 ≡ 10 → b ≡ c ++ d → t ≡ a ++ b
    → Nothing {A = Latch} (record { lit = own; next = w.0; reset = lit 0 }) d l → IsLatchLine max t l
latch_short max own w t a b c d l fa fc end p2 p1 last =
    rw last.1 (record {
      spells = inr (refl, rw (p1, p2, last.0, fa.spells, fc.spells, end) (simp (append_assoc, append-nil)));
      latch = defining_to max own fa.within fa.is_good;
      next = fc.within;
      reset = inl refl;
    })

latch_to : (max : ℕ) (t : List ℕ) (l : Latch) → OfLatch max t l → IsLatchLine max t l
latch_to max t l (own, a, b, fa, (w, c, d, fc, rest, p2), p1) =
    elim (cases_Bool (eqb w.1 10)) [
      | inl e ↦ latch_short max own w t a b c d l fa fc (eqb-true w.1 10 e) p2 p1 (rw e at rest)
      | inr e ↦
          let space : w.1 ≡ 32 = elim (or_cases (eqb w.1 32) (eqb w.1 10) fc.is_end) [ inl s ↦ eqb-true w.1 32 s | inr n ↦ absurd (both e n) ] in
          latch_long max own w t a b c d l fa fc space p2 p1 (rw e at rest)
    ]

pub no_reset : (l : Latch) → l.reset.0 ≡ 0 → l ≡ record { lit = l.lit; next = l.next; reset = lit 0 }
no_reset l e = rw (← e) refl

latch_from : (max : ℕ) (t : List ℕ) (l : Latch) → max ≤ greatest → IsLatchLine max t l → OfLatch max t l
latch_from max t l le r = elim r.spells [
  | inl long ↦ (
    l.lit,
    decimal l.lit.0 ++ 32 ∷ [],
    (decimal l.next.0 ++ 32 ∷ []) ++ (decimal l.reset.0 ++ 10 ∷ []),
    record { spells = refl; within = r.latch.literal; is_good = defining_from max l.lit r.latch },
    (
      (l.next, 32),
      decimal l.next.0 ++ 32 ∷ [],
      decimal l.reset.0 ++ 10 ∷ [],
      record { spells = refl; within = r.next; is_good = refl; is_end = refl },
      (
        l.reset,
        decimal l.reset.0 ++ 10 ∷ [],
        [],
        record { spells = refl; within = reset_small l.lit.0 l.reset.0 (omega (arith, r.latch.literal)) r.reset; fits = r.reset },
        (refl, refl),
        sym (append-nil (decimal l.reset.0 ++ 10 ∷ [])),
      ),
      refl,
    ),
    long ∙ simp append_assoc,
  )
  | inr short ↦ (
    l.lit,
    decimal l.lit.0 ++ 32 ∷ [],
    decimal l.next.0 ++ 10 ∷ [],
    record { spells = refl; within = r.latch.literal; is_good = defining_from max l.lit r.latch },
    (
      (l.next, 10),
      decimal l.next.0 ++ 10 ∷ [],
      [],
      record { spells = refl; within = r.next; is_good = refl; is_end = refl },
      (refl, no_reset l short.0),
      sym (append-nil (decimal l.next.0 ++ 10 ∷ [])),
    ),
    short.1 ∙ simp append_assoc,
  )
]

pub latch_reads : (max : ℕ) → max ≤ greatest → Reads (latch_at max) (IsLatchLine max)
unfolding latch_at
latch_reads max le = reads_as (IsLatchLine max)
    (reads_then (lit_reads max defines 32 le refl) (λ own. reads_then (next_reads max le) (λ next. end_reads own next.0 next.1)))
    (latch_to max) (λ t l r. latch_from max t l le r)

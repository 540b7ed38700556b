-- A latch is read as it is spelled.
use Rattle.std.proofs.Common.{◌≡◌, ℕ, ◌^◌, ◌≤◌, eqb, List, [], ◌∷◌, ◌++◌, refl, sym, ◌∙◌, inl, inr, append_assoc}
use Rattle.std.specs.Prelude.{decimal}
use Rattle.std.proofs.lemmas.Bool.{eqb-true, or_cases, cases_Bool}
use Rattle.std.proofs.lemmas.List.{append-nil}
use Rattle.scan.specs.Spelling.{Nothing, Then}
use Rattle.scan.proofs.Toolbox.{Reads, reads_as, reads_then}
use Rattle.graph.specs.declared.circuit.Lit.{Lit}
use Rattle.graph.specs.declared.circuit.Latch.{Latch}
use Rattle.aag.specs.Lines.{greatest, lit}
use Rattle.aag.proofs.LineLaws.{IsNext, next_reads, IsResetOf, OfEnd, end_reads, reset_small, no_reset, both}
use Rattle.aig.specs.Lines.{latch_at}
use Rattle.aig.specs.Binary.{IsBinaryLatchLine}

-- the latch with this literal
pub record IsLatchOf (max : ℕ) (own : Lit) (t : List ℕ) (l : Latch) : Type 0 where
  pub same : l.lit ≡ own
  pub line : IsBinaryLatchLine max t l

abbrev OfLatch : ℕ → Lit → List ℕ → Latch → Type 0
OfLatch max own = Then (IsNext max) (λ next. OfEnd own next.0 next.1)

latch_long : (max : ℕ) (own : Lit) (w : Lit × ℕ) (t a b : List ℕ) (l : Latch) → IsNext max a w → w.1 ≡ 32 → t ≡ a ++ b
    → Then (IsResetOf own) (λ reset. Nothing {A = Latch} (record { lit = own; next = w.0; reset = reset })) b l → IsLatchOf max own t l
latch_long max own w t a b l word space p1 (reset, c, d, line, last, p2) =
    rw last.1 (record {
      same = refl;
      line = record {
        spells = inl (rw (p1, p2, last.0, word.spells, space, line.spells) (simp (append_assoc, append-nil)));
        next = word.within;
        reset = line.fits;
      };
    })

latch_short : (max : ℕ) (own : Lit) (w : Lit × ℕ) (t a b : List ℕ) (l : Latch) → IsNext max a w → w.1 ≡ 10 → t ≡ a ++ b
    → Nothing {A = Latch} (record { lit = own; next = w.0; reset = lit 0 }) b l → IsLatchOf max own t l
latch_short max own w t a b l word end p1 last =
    rw last.1 (record {
      same = refl;
      line = record {
        spells = inr (refl, rw (p1, last.0, word.spells, end) (simp (append_assoc, append-nil)));
        next = word.within;
        reset = inl refl;
      };
    })

latch_to : (max : ℕ) (own : Lit) (t : List ℕ) (l : Latch) → OfLatch max own t l → IsLatchOf max own t l
latch_to max own t l (w, a, b, word, rest, p1) =
    elim (cases_Bool (eqb w.1 10)) [
      | inl e ↦ latch_short max own w t a b l word (eqb-true w.1 10 e) p1 (rw e at rest)
      | inr e ↦
          let space : w.1 ≡ 32 = elim (or_cases (eqb w.1 32) (eqb w.1 10) word.is_end) [ inl s ↦ eqb-true w.1 32 s | inr n ↦ absurd (both e n) ] in
          latch_long max own w t a b l word space p1 (rw e at rest)
    ]

latch_parts : (max : ℕ) (t : List ℕ) (l : Latch) → l.lit.0 ≤ 2 ^ 31 → IsBinaryLatchLine max t l → OfLatch max l.lit t l
latch_parts max t l small r = elim r.spells [
  | inl long ↦ (
    (l.next, 32),
    decimal l.next.0 ++ 32 ∷ [],
    decimal l.reset.0 ++ 10 ∷ [],
    record { spells = refl; within = r.next; is_good = refl; is_end = refl },
    (
      l.reset,
      decimal l.reset.0 ++ 10 ∷ [],
      [],
      record { spells = refl; within = reset_small l.lit.0 l.reset.0 small r.reset; fits = r.reset },
      (refl, refl),
      sym (append-nil (decimal l.reset.0 ++ 10 ∷ [])),
    ),
    long ∙ simp append_assoc,
  )
  | inr short ↦ (
    (l.next, 10),
    decimal l.next.0 ++ 10 ∷ [],
    [],
    record { spells = refl; within = r.next; is_good = refl; is_end = refl },
    (refl, no_reset l short.0),
    short.1 ∙ sym (append-nil (decimal l.next.0 ++ 10 ∷ [])),
  )
]

latch_from : (max : ℕ) (own : Lit) (t : List ℕ) (l : Latch) → own.0 ≤ 2 ^ 31 → IsLatchOf max own t l → OfLatch max own t l
latch_from max own t l small r = rw (← r.same) (latch_parts max t l (rw (← r.same) at small) r.line)

pub latch_reads : (max : ℕ) (own : Lit) → max ≤ greatest → own.0 ≤ 2 ^ 31 → Reads (latch_at max own) (IsLatchOf max own)
unfolding latch_at
latch_reads max own le small = reads_as (IsLatchOf max own)
    (reads_then (next_reads max le) (λ next. end_reads own next.0 next.1))
    (latch_to max own) (λ t l r. latch_from max own t l small r)

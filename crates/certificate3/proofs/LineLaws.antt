-- The lines before the clauses are read as they are spelled.
use Rattle.std.proofs.Common.{◌≡◌, ℕ, ◌<◌, ◌≤◌, List, [], ◌∷◌, ◌++◌, refl, sym, ◌∙◌, append_assoc, arith, inl, inr}
use Rattle.std.specs.Prelude.{◌⊎◌, decimal, codes}
use Rattle.std.proofs.lemmas.List.{append-nil}
use Rattle.scan.specs.Spelling.{Nothing, Then, After}
use Rattle.scan.specs.Words.{any, IsField}
use Rattle.scan.proofs.Toolbox.{Reads, NeverBegins, reads_as, reads_nothing, reads_then, reads_after, reads_choice, skips_byte, skips_tag}
use Rattle.scan.proofs.WordLaws.{field_reads}
use Rattle.graph.specs.Circuits.{position_of}
use Rattle.graph.specs.declared.circuit.Lit.{Lit}
use Rattle.graph.specs.declared.circuit.Latch.{Latch}
use Rattle.graph.specs.declared.circuit.Gate.{Gate}
use Rattle.graph.specs.declared.circuit.Property.{Property}
use Rattle.graph.specs.declared.circuit.Property.TheVariants.{Bad, Justice, Output}
use Rattle.certificate.specs.Reading.{greatest}
use Rattle.certificate3.specs.declared.claim.Claim.{Claim}
use Rattle.certificate3.specs.declared.sizes.Sizes.{Sizes}
use Rattle.certificate3.specs.Reading.{first_line_at, bad_at, justice_at, output_at, claim_at, sizes_at, latch_at, gate_at}
use Rattle.certificate3.specs.Texts.{latch_line, gate_line, claim_text, AreLatchWords, AreGateWords, HasRounds, IsClaim}

-- ---- the first line

abbrev pub IsFirstLine : List ℕ → Unit {0} → Type 0
IsFirstLine t u = t ≡ codes "aigcert 3\n"

pub first_line_reads : Reads first_line_at IsFirstLine
unfolding first_line_at
first_line_reads =
    reads_as IsFirstLine (reads_after (skips_tag (codes "aigcert 3\n")) (reads_nothing {A = Unit {0}} tt))
    (λ t x (a, last, whole). rw (whole, last.0) refl)
    (λ t x s. ([], (refl, refl), s))

-- ---- the property

abbrev pub IsClaimLine : List ℕ → Claim → Type 0
IsClaimLine t c = (t ≡ claim_text c.property c.rounds) × IsClaim c

abbrev claimed : Property → ℕ → Claim
claimed p k = record { property = p; rounds = k }

abbrev OfPosition : (ℕ → Property) → List ℕ → Claim → Type 0
OfPosition make = Then (IsField 4294967295 any 10) (λ n. Nothing {A = Claim} (claimed (make n) 0))

abbrev OfCounted : List ℕ → Claim → Type 0
OfCounted = Then (IsField 4294967295 any 32) (λ n. Then (IsField 4294967295 any 10) (λ k. Nothing {A = Claim} (claimed (Justice n) k)))

-- no bad literal
abbrev OfOther : List ℕ → Claim → Type 0
OfOther t c = After (106 ∷ []) OfCounted t c ⊎ After (111 ∷ []) (OfPosition Output) t c

abbrev OfClaim : List ℕ → Claim → Type 0
OfClaim t c = After (98 ∷ []) (OfPosition Bad) t c ⊎ OfOther t c

bad_reads : Reads bad_at (OfPosition Bad)
unfolding bad_at
bad_reads = reads_then (field_reads 4294967295 any 10 (omega arith) refl) (λ n. reads_nothing {A = Claim} (claimed (Bad n) 0))

justice_reads : Reads justice_at OfCounted
unfolding justice_at
justice_reads =
    reads_then (field_reads 4294967295 any 32 (omega arith) refl) (λ n.
    reads_then (field_reads 4294967295 any 10 (omega arith) refl) (λ k. reads_nothing {A = Claim} (claimed (Justice n) k)))

output_reads : Reads output_at (After (111 ∷ []) (OfPosition Output))
unfolding output_at
output_reads = reads_after (skips_byte 111) (reads_then (field_reads 4294967295 any 10 (omega arith) refl) (λ n. reads_nothing {A = Claim} (claimed (Output n) 0)))

output_begins : NeverBegins 106 (After (111 ∷ []) (OfPosition Output))
output_begins t c rest (a, one, whole) = rw whole refl

other_begins : NeverBegins 98 OfOther
other_begins t c rest (inl (a, one, whole)) = rw whole refl
other_begins t c rest (inr (a, one, whole)) = rw whole refl

claim_to : (t : List ℕ) (c : Claim) → OfClaim t c → IsClaimLine t c
claim_to t c (inl (a, (n, b, d, field, last, p2), p1)) =
    rw last.1 (rw (p1, p2, field.spells, last.0) (simp append-nil), record { position = omega (arith, field.within); rounds = refl })
claim_to t c (inr (inl (a, (n, b, d, field, (k, e, f, counted, last, p3), p2), p1))) =
    rw last.1 (rw (p1, p2, p3, field.spells, counted.spells, last.0) (simp (append_assoc, append-nil)), record { position = omega (arith, field.within); rounds = omega (arith, counted.within) })
claim_to t c (inr (inr (a, (n, b, d, field, last, p2), p1))) =
    rw last.1 (rw (p1, p2, field.spells, last.0) (simp append-nil), record { position = omega (arith, field.within); rounds = refl })

position_of_line : (make : ℕ → Property) (n : ℕ) → n < 4294967296 → OfPosition make (decimal n ++ 10 ∷ []) (claimed (make n) 0)
position_of_line make n lt =
    (n, decimal n ++ 10 ∷ [], [], record { spells = refl; within = omega (arith, lt); is_good = refl }, (refl, refl), sym (append-nil (decimal n ++ 10 ∷ [])))

counted_line : (n k : ℕ) → n < 4294967296 → k < 4294967296 → OfCounted ((decimal n ++ 32 ∷ []) ++ (decimal k ++ 10 ∷ [])) (claimed (Justice n) k)
counted_line n k n_lt k_lt =
    let second : List ℕ = decimal k ++ 10 ∷ [] in (
      n,
      decimal n ++ 32 ∷ [],
      second,
      record { spells = refl; within = omega (arith, n_lt); is_good = refl },
      (k, second, [], record { spells = refl; within = omega (arith, k_lt); is_good = refl }, (refl, refl), sym (append-nil second)),
      refl,
    )

claim_by : (p : Property) (k : ℕ) (t : List ℕ) → t ≡ claim_text p k → position_of p < 4294967296 → HasRounds p k → OfClaim t (claimed p k)
claim_by (Bad n) k t spells position rounds = rw rounds (inl (decimal n ++ 10 ∷ [], position_of_line Bad n position, spells))
claim_by (Justice n) k t spells position rounds =
    inr (inl ((decimal n ++ 32 ∷ []) ++ (decimal k ++ 10 ∷ []), counted_line n k position rounds, spells ∙ simp append_assoc))
claim_by (Output n) k t spells position rounds = rw rounds (inr (inr (decimal n ++ 10 ∷ [], position_of_line Output n position, spells)))

claim_from : (t : List ℕ) (c : Claim) → IsClaimLine t c → OfClaim t c
claim_from t c r = claim_by c.property c.rounds t r.0 r.1.position r.1.rounds

pub claim_reads : Reads claim_at IsClaimLine
unfolding claim_at
claim_reads = reads_as IsClaimLine (reads_choice 98 bad_reads (reads_choice 106 justice_reads output_reads output_begins) other_begins) claim_to claim_from

-- ---- how many latches and gates

abbrev pub sizes_line : ℕ → ℕ → List ℕ
sizes_line latches gates = decimal latches ++ codes " " ++ decimal gates ++ codes "\n"

pub record IsSizesLine (t : List ℕ) (s : Sizes) : Type 0 where
  pub spells : t ≡ sizes_line s.latches s.gates
  pub latches : s.latches ≤ 4194303
  pub gates : s.gates ≤ 4194303

abbrev sized : ℕ → ℕ → Sizes
sized latches gates = record { latches = latches; gates = gates }

pub sizes_reads : Reads sizes_at IsSizesLine
unfolding sizes_at
sizes_reads =
    reads_as IsSizesLine
    (reads_then (field_reads greatest any 32 (omega arith) refl) (λ latches.
    reads_then (field_reads greatest any 10 (omega arith) refl) (λ gates. reads_nothing {A = Sizes} (sized latches gates))))
    (λ t s (latches, a, b, first, (gates, c, d, second, last, p2), p1).
    rw last.1 (record { spells = rw (p1, p2, first.spells, second.spells, last.0) (simp (append_assoc, append-nil)); latches = first.within; gates = second.within }))
    (λ t s r.
    let second : List ℕ = decimal s.gates ++ 10 ∷ [] in (
      s.latches,
      decimal s.latches ++ 32 ∷ [],
      second,
      record { spells = refl; within = r.latches; is_good = refl },
      (s.gates, second, [], record { spells = refl; within = r.gates; is_good = refl }, (refl, refl), sym (append-nil second)),
      r.spells ∙ simp append_assoc,
    ))

-- ---- latches and gates: three literals in a line

abbrev lit : ℕ → Lit
lit n = record { 0 = n }

abbrev three_line : ℕ → ℕ → ℕ → List ℕ
three_line a b c = decimal a ++ codes " " ++ decimal b ++ codes " " ++ decimal c ++ codes "\n"

abbrev OfThree : {A : Type 0} → (ℕ → ℕ → ℕ → A) → List ℕ → A → Type 0
OfThree {A} make =
    Then (IsField 4294967295 any 32) (λ a.
    Then (IsField 4294967295 any 32) (λ b.
    Then (IsField 4294967295 any 10) (λ c. Nothing {A = A} (make a b c))))

record IsThree {A : Type 0} (make : ℕ → ℕ → ℕ → A) (t : List ℕ) (x : A) : Type 0 where
  a : ℕ
  b : ℕ
  c : ℕ
  is : x ≡ make a b c
  spells : t ≡ three_line a b c
  a_small : a < 4294967296
  b_small : b < 4294967296
  c_small : c < 4294967296

three_to : {A : Type 0} (make : ℕ → ℕ → ℕ → A) (t : List ℕ) (x : A) → OfThree make t x → IsThree make t x
three_to make t x (a, p, q, fa, (b, r, s, fb, (c, u, v, fc, last, p3), p2), p1) = record {
  a = a;
  b = b;
  c = c;
  is = last.1;
  spells = rw (p1, p2, p3, fa.spells, fb.spells, fc.spells, last.0) (simp (append_assoc, append-nil));
  a_small = omega (arith, fa.within);
  b_small = omega (arith, fb.within);
  c_small = omega (arith, fc.within);
}

three_from : {A : Type 0} (make : ℕ → ℕ → ℕ → A) (a b c : ℕ) (t : List ℕ) → t ≡ three_line a b c → a < 4294967296 → b < 4294967296 → c < 4294967296 → OfThree make t (make a b c)
three_from make a b c t spells a_small b_small c_small =
    let third : List ℕ = decimal c ++ 10 ∷ [] in
    let second : List ℕ = decimal b ++ 32 ∷ [] in (
      a,
      decimal a ++ 32 ∷ [],
      second ++ third,
      record { spells = refl; within = omega (arith, a_small); is_good = refl },
      (
        b,
        second,
        third,
        record { spells = refl; within = omega (arith, b_small); is_good = refl },
        (c, third, [], record { spells = refl; within = omega (arith, c_small); is_good = refl }, (refl, refl), sym (append-nil third)),
        refl,
      ),
      spells ∙ simp append_assoc,
    )

abbrev a_latch : ℕ → ℕ → ℕ → Latch
a_latch a b c = record { lit = lit a; next = lit b; reset = lit c }

abbrev a_gate : ℕ → ℕ → ℕ → Gate
a_gate a b c = record { lhs = lit a; rhs0 = lit b; rhs1 = lit c }

abbrev pub IsLatchLine : List ℕ → Latch → Type 0
IsLatchLine t l = (t ≡ latch_line l) × AreLatchWords l

abbrev pub IsGateLine : List ℕ → Gate → Type 0
IsGateLine t g = (t ≡ gate_line g) × AreGateWords g

pub latch_reads : Reads latch_at IsLatchLine
unfolding latch_at
latch_reads =
    reads_as IsLatchLine
    (reads_then (field_reads 4294967295 any 32 (omega arith) refl) (λ a.
    reads_then (field_reads 4294967295 any 32 (omega arith) refl) (λ b.
    reads_then (field_reads 4294967295 any 10 (omega arith) refl) (λ c. reads_nothing {A = Latch} (a_latch a b c)))))
    (λ t l h. let r = three_to a_latch t l h in rw r.is (r.spells, record { lit = r.a_small; next = r.b_small; reset = r.c_small }))
    (λ t l r. three_from a_latch l.lit.0 l.next.0 l.reset.0 t r.0 r.1.lit r.1.next r.1.reset)

pub gate_reads : Reads gate_at IsGateLine
unfolding gate_at
gate_reads =
    reads_as IsGateLine
    (reads_then (field_reads 4294967295 any 32 (omega arith) refl) (λ a.
    reads_then (field_reads 4294967295 any 32 (omega arith) refl) (λ b.
    reads_then (field_reads 4294967295 any 10 (omega arith) refl) (λ c. reads_nothing {A = Gate} (a_gate a b c)))))
    (λ t g h. let r = three_to a_gate t g h in rw r.is (r.spells, record { lhs = r.a_small; rhs0 = r.b_small; rhs1 = r.c_small }))
    (λ t g r. three_from a_gate g.lhs.0 g.rhs0.0 g.rhs1.0 t r.0 r.1.lhs r.1.rhs0 r.1.rhs1)

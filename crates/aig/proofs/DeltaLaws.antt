-- Differences, and gates by them, are read as they are spelled.
use Rattle.std.proofs.Common.{◌≡◌, ◌≢◌, ℕ, zero, suc, ◌-◌, ◌+◌, ◌*◌, ◌/◌, ◌%◌, ◌≤◌, ◌<◌, ◌||◌, Bool, true, false, cond, eqb, ltb, List, [], ◌∷◌, ◌++◌, Some, None, refl, sym, ap, ◌∙◌, arith, inl, inr}
use Rattle.std.proofs.lemmas.Bool.{cases_Bool, eqb-false, ne_eqb, ltb-true, lt-ltb, le-ltb, ltb-false, or_parts}
use Rattle.std.proofs.lemmas.List.{append-nil}
use Rattle.std.proofs.lemmas.Option.{same_Some}
use Rattle.scan.specs.Reading.{◌>>=◌}
use Rattle.scan.specs.Spelling.{Nothing, Then}
use Rattle.scan.proofs.NumberLaws.{cond_some_to, cond_none_to}
use Rattle.scan.proofs.Toolbox.{Reads, bind_some, reads_as, reads_nothing, reads_then, reads_unless}
use Rattle.graph.specs.declared.circuit.Lit.{Lit}
use Rattle.graph.specs.declared.circuit.Gate.{Gate}
use Rattle.graph.specs.Circuits.{IsDescending}
use Rattle.aag.specs.Lines.{lit}
use Rattle.aig.specs.Binary.{IsDelta, IsGateDeltas}
use Rattle.aig.specs.Lines.{groups_at, delta_at, gate_at}

-- ---- groups

-- the first number that needs more than k groups
unfoldable top : ℕ → ℕ
top zero = 1
top (suc k) = 128 * top k

one_group : (k c n : ℕ) (cs rest : List ℕ) → c < 128 → 0 < top k → ◌≡◌ {A = ℕ × List ℕ} (c, cs) (n, rest) → (front : List ℕ) × IsDelta front n × (n < 128 * top k) × (c ∷ cs ≡ front ++ rest)
one_group k c n cs rest small some q =
    let same : c ≡ n = ap (λ (w : ℕ × List ℕ). w.0) q in
    let others : cs ≡ rest = ap (λ (w : ℕ × List ℕ). w.1) q in
    (c ∷ [], (omega (arith, same, small), same), omega (arith, same, small, some), ap (λ (w : List ℕ). c ∷ w) others)

more_groups : (k c n m : ℕ) (cs rest front after : List ℕ) → 128 ≤ c → c < 256 → m ≢ 0 → IsDelta front m → m < top k → cs ≡ front ++ after → ◌≡◌ {A = ℕ × List ℕ} (c - 128 + 128 * m, after) (n, rest)
    → (front : List ℕ) × IsDelta front n × (n < 128 * top k) × (c ∷ cs ≡ front ++ rest)
more_groups k c n m cs rest [] after high byte some delta below parts q = absurd delta
more_groups k c n m cs rest (d ∷ ds) after high byte some delta below parts q =
    let same : c - 128 + 128 * m ≡ n = ap (λ (w : ℕ × List ℕ). w.0) q in
    let others : after ≡ rest = ap (λ (w : ℕ × List ℕ). w.1) q in
    let back : n / 128 ≡ m = omega (arith, same, high, byte) in
    let low : c ≡ 128 + n % 128 = omega (arith, same, high, byte) in
    let big : 128 ≤ n = omega (arith, same, some) in
    (c ∷ d ∷ ds, (big, low, rw back delta), omega (arith, same, high, byte, below), ap (λ (w : List ℕ). c ∷ w) (parts ∙ ap (λ (w : List ℕ). (d ∷ ds) ++ w) others))

top_some : (k : ℕ) → 0 < top k
unfolding top
top_some zero = omega arith
top_some (suc k) = omega (arith, top_some k)

groups_sound : (k : ℕ) (bytes : List ℕ) (n : ℕ) (rest : List ℕ) → groups_at k bytes ≡ Some (n, rest) → (front : List ℕ) × IsDelta front n × (n < top k) × (bytes ≡ front ++ rest)
unfolding groups_at top
groups_sound zero bytes n rest e = absurd cc
groups_sound (suc k) [] n rest e = absurd cc
groups_sound (suc k) (c ∷ cs) n rest e = elim (cases_Bool (ltb c 128)) [
  | inl y ↦ one_group k c n cs rest (ltb-true c 128 y) (top_some k) (same_Some (c, cs) (n, rest) (rw y at e))
  | inr z ↦
      let g = cond_some_to (ltb c 256) (groups_at k cs >>= λ r. cond (eqb r.0 0) None (Some (c - 128 + 128 * r.0, r.1))) (n, rest) (rw z at e) in
      let b = bind_some (groups_at k cs) (λ r. cond (eqb r.0 0) None (Some (c - 128 + 128 * r.0, r.1))) (n, rest) g.1 in
      let w = cond_none_to (eqb b.0.0 0) (Some (c - 128 + 128 * b.0.0, b.0.1)) (n, rest) b.2 in
      let s = groups_sound k cs b.0.0 b.0.1 b.1 in
      more_groups k c n b.0.0 cs rest s.0 b.0.1 (ltb-false c 128 z) (ltb-true c 256 g.0) (eqb-false b.0.0 0 w.0) s.1 s.2 s.3 (same_Some (c - 128 + 128 * b.0.0, b.0.1) (n, rest) w.1)
]

groups_complete : (k : ℕ) (front : List ℕ) (n : ℕ) (rest : List ℕ) → IsDelta front n → n < 128 * top k → groups_at (suc k) (front ++ rest) ≡ Some (n, rest)
unfolding groups_at top
groups_complete k [] n rest delta below = absurd delta
groups_complete k (c ∷ []) n rest (small, is) below = rw (is, lt-ltb n 128 small) refl
groups_complete zero (c ∷ d ∷ ds) n rest (big, is, others) below = absurd (omega (arith, big, below))
groups_complete (suc k) (c ∷ d ∷ ds) n rest (big, is, others) below =
    let again : groups_at (suc k) (d ∷ ds ++ rest) ≡ Some (n / 128, rest) = groups_complete k (d ∷ ds) (n / 128) rest others (omega (arith, below)) in
    let high : ltb c 128 ≡ false = le-ltb c 128 (omega (arith, is)) in
    let byte : ltb c 256 ≡ true = lt-ltb c 256 (omega (arith, is)) in
    let some : eqb (n / 128) 0 ≡ false = ne_eqb (n / 128) 0 (λ z. omega (arith, z, big)) in
    let whole : c - 128 + 128 * (n / 128) ≡ n = omega (arith, is) in
    rw (high, byte, again, some, whole) refl

abbrev IsGroups : List ℕ → ℕ → Type 0
IsGroups t n = IsDelta t n × (n < 268435456)

groups_reads : Reads (groups_at 4) IsGroups
unfolding top
groups_reads = record {
  sound = λ bytes n rest e. let s = groups_sound 4 bytes n rest e in (s.0, (s.1, s.2), s.3);
  complete = λ front n rest r. groups_complete 3 front n rest r.0 r.1;
}

-- ---- differences

-- a difference from least to most
abbrev pub IsDeltaIn : ℕ → ℕ → List ℕ → ℕ → Type 0
IsDeltaIn least most t n = IsDelta t n × (least ≤ n) × (n ≤ most)

abbrev is_outside : ℕ → ℕ → ℕ → Bool
is_outside least most n = ltb n least || ltb most n

delta_to : (least most : ℕ) (t : List ℕ) (x : ℕ) → Then IsGroups (λ n s y. (is_outside least most n ≡ false) × Nothing n s y) t x → IsDeltaIn least most t x
delta_to least most t x (n, a, b, (delta, small), (inside, last), p) =
    let o = or_parts (ltb n least) (ltb most n) inside in
    let whole : t ≡ a = p ∙ ap (λ (w : List ℕ). a ++ w) last.0 ∙ append-nil a in
    rw (last.1, whole) (delta, ltb-false n least o.0, ltb-false most n o.1)

delta_from : (least most : ℕ) (t : List ℕ) (x : ℕ) → most < 268435456 → IsDeltaIn least most t x → Then IsGroups (λ n s y. (is_outside least most n ≡ false) × Nothing n s y) t x
delta_from least most t x small (delta, above, below) =
    (x, t, [], (delta, omega (arith, below, small)), (rw (le-ltb x least above, le-ltb most x below) refl, (refl, refl)), sym (append-nil t))

pub delta_reads : (least most : ℕ) → most < 268435456 → Reads (delta_at least most) (IsDeltaIn least most)
unfolding delta_at
delta_reads least most small = reads_as (IsDeltaIn least most)
    (reads_then groups_reads (λ n. reads_unless (is_outside least most n) (reads_nothing n)))
    (delta_to least most) (λ t x r. delta_from least most t x small r)

-- ---- gates

-- the gate with this left side
pub record IsGateOf (own : Lit) (t : List ℕ) (g : Gate) : Type 0 where
  pub same : g.lhs ≡ own
  pub descends : IsDescending g
  pub deltas : IsGateDeltas t g

abbrev gate_of : Lit → ℕ → ℕ → Gate
gate_of own first second = record { lhs = own; rhs0 = lit (own.0 - first); rhs1 = lit (own.0 - first - second) }

abbrev OfGate : Lit → List ℕ → Gate → Type 0
OfGate own = Then (IsDeltaIn 1 own.0) (λ first. Then (IsDeltaIn 0 (own.0 - first)) (λ second. Nothing {A = Gate} (gate_of own first second)))

gate_to : (own : Lit) (t : List ℕ) (g : Gate) → OfGate own t g → IsGateOf own t g
gate_to own t g (first, a, b, (one, some, few), (second, c, d, (two, least, most), last, p2), p1) =
    let back : own.0 - (own.0 - first) ≡ first = omega (arith, few) in
    let again : own.0 - first - (own.0 - first - second) ≡ second = omega (arith, most) in
    rw last.1 (record {
      same = refl;
      descends = (omega (arith, some, few), omega arith);
      deltas = record {
        first = a;
        second = c;
        spells = p1 ∙ ap (λ (w : List ℕ). a ++ w) (p2 ∙ ap (λ (w : List ℕ). c ++ w) last.0 ∙ append-nil c);
        first_delta = rw back one;
        second_delta = rw again two;
      };
    })

gate_again : (g : Gate) → IsDescending g → g ≡ gate_of g.lhs (g.lhs.0 - g.rhs0.0) (g.rhs0.0 - g.rhs1.0)
gate_again g (below, within) =
    let back : g.lhs.0 - (g.lhs.0 - g.rhs0.0) ≡ g.rhs0.0 = omega (arith, below) in
    let again : g.rhs0.0 - (g.rhs0.0 - g.rhs1.0) ≡ g.rhs1.0 = omega (arith, within) in
    rw (back, again) refl

gate_parts : (t : List ℕ) (g : Gate) → IsDescending g → IsGateDeltas t g → OfGate g.lhs t g
gate_parts t g d r =
    let back : g.lhs.0 - (g.lhs.0 - g.rhs0.0) ≡ g.rhs0.0 = omega (arith, d.0) in (
      g.lhs.0 - g.rhs0.0,
      r.first,
      r.second,
      (r.first_delta, omega (arith, d.0), omega arith),
      (g.rhs0.0 - g.rhs1.0, r.second, [], (r.second_delta, omega arith, omega (arith, back)), (refl, gate_again g d), sym (append-nil r.second)),
      r.spells,
    )

gate_from : (own : Lit) (t : List ℕ) (g : Gate) → IsGateOf own t g → OfGate own t g
gate_from own t g r = rw (← r.same) (gate_parts t g r.descends r.deltas)

pub gate_reads : (own : Lit) → own.0 < 268435456 → Reads (gate_at own) (IsGateOf own)
unfolding gate_at
gate_reads own small = reads_as (IsGateOf own)
    (reads_then (delta_reads 1 own.0 small) (λ first. reads_then (delta_reads 0 (own.0 - first) (omega (arith, small))) (λ second. reads_nothing {A = Gate} (gate_of own first second))))
    (gate_to own) (gate_from own)

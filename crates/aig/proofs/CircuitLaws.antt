-- A circuit is read as it is spelled.
use Rattle.std.proofs.Common.{◌≡◌, ℕ, ◌+◌, ◌*◌, ◌≤◌, Bool, true, false, cond, eqb, List, [], ◌++◌, length, map, None, refl, sym, ◌∙◌, arith, append_assoc}
use Rattle.std.specs.Prelude.{decimal, codes}
use Rattle.std.proofs.lemmas.Bool.{eqb-true, eq-eqb}
use Rattle.std.proofs.lemmas.List.{append-nil, length-append, length-map}
use Rattle.scan.specs.Reading.{Read}
use Rattle.scan.specs.Spelling.{Nothing, Then}
use Rattle.scan.proofs.Toolbox.{Reads, reads_as, reads_nothing, reads_then, reads_when}
use Rattle.graph.specs.declared.circuit.Lit.{Lit}
use Rattle.graph.specs.declared.circuit.Latch.{Latch}
use Rattle.graph.specs.declared.circuit.Gate.{Gate}
use Rattle.graph.specs.declared.parts.Parts.{Parts}
use Rattle.graph.specs.Circuits.{IsOrdered, defining}
use Rattle.graph.proofs.Numbered.{IsNumbered-left, IsNumbered-second, IsNumbered-third, IsNumbered-all}
use Rattle.aag.specs.declared.header.Header.{Header}
use Rattle.aag.specs.Lines.{greatest, lit}
use Rattle.aag.specs.Sections.{parts_of}
use Rattle.aag.specs.Spelling.{counts_of}
use Rattle.aag.proofs.HeaderLaws.{stated, IsHeader, header_reads}
use Rattle.aag.proofs.CircuitLaws.{IsUses, uses_reads, uses_of, header_for, reads_given}
use Rattle.aig.specs.Lines.{input_at, latch_at, gate_at}
use Rattle.aig.specs.Sections.{lists_at, circuit_at}
use Rattle.aig.specs.Binary.{SpellsOrdered}
use Rattle.aig.proofs.DeltaLaws.{IsGateOf, gate_reads}
use Rattle.aig.proofs.LatchLaws.{IsLatchOf, latch_reads}
use Rattle.aig.proofs.NumberedLaws.{ManyFrom, numbered_reads, IsInputOf, inputs_to, inputs_from, latches_to, latches_from, gates_to, gates_from}

-- ---- all lists

-- the texts of the parts, as many as the header states
record IsLists (h : Header) (t : List ℕ) (c : Parts) : Type 0 where
  latches : List ℕ
  uses : List ℕ
  gates : List ℕ
  whole : t ≡ latches ++ uses ++ gates
  max_is : c.max_var ≡ h.max_var
  each_latch : ManyFrom (IsLatchOf h.max_var) (1 + h.inputs) h.latches latches c.latches
  each_use : IsUses h uses (uses_of c)
  each_gate : ManyFrom IsGateOf (1 + h.inputs + h.latches) h.gates gates c.gates
  each_input : ManyFrom IsInputOf 1 h.inputs [] c.inputs

abbrev OfLists : Header → List ℕ → Parts → Type 0
OfLists h =
    Then (ManyFrom (IsLatchOf h.max_var) (1 + h.inputs) h.latches) (λ latches.
    Then (IsUses h) (λ uses.
    Then (ManyFrom IsGateOf (1 + h.inputs + h.latches) h.gates) (λ gates.
    Then (ManyFrom IsInputOf 1 h.inputs) (λ inputs.
    Nothing (parts_of h.max_var inputs latches uses gates)))))

lists_to : (h : Header) (t : List ℕ) (c : Parts) → OfLists h t c → IsLists h t c
lists_to h t c (ls, t1, r1, l1, (u, t2, r2, l2, (gs, t3, r3, l3, (is, t4, r4, l4, last, p4), p3), p2), p1) =
    let none : t4 ≡ [] = (inputs_to 1 t4 is l4.1).0 in
    rw last.1 (record {
      latches = t1;
      uses = t2;
      gates = t3;
      whole = rw (p1, p2, p3, p4, last.0, none) (simp (append_assoc, append-nil));
      max_is = refl;
      each_latch = l1;
      each_use = l2;
      each_gate = l3;
      each_input = rw none at l4;
    })

lists_from : (h : Header) (t : List ℕ) (c : Parts) → IsLists h t c → OfLists h t c
lists_from h t c p = (
  c.latches,
  p.latches,
  p.uses ++ p.gates,
  p.each_latch,
  (
    uses_of c,
    p.uses,
    p.gates,
    p.each_use,
    (
      c.gates,
      p.gates,
      [],
      p.each_gate,
      (c.inputs, [], [], p.each_input, (refl, rw (← p.max_is) refl), refl),
      sym (append-nil p.gates),
    ),
    refl,
  ),
  p.whole ∙ append_assoc p.latches p.uses p.gates,
)

pub reads_input : (v : ℕ) → Reads (input_at (lit (2 * v))) (IsInputOf (lit (2 * v)))
reads_input v = reads_nothing (lit (2 * v))

lists_reads : (h : Header) → h.max_var ≤ greatest → h.inputs + h.latches + h.gates ≡ h.max_var → Reads (lists_at h) (IsLists h)
unfolding lists_at
lists_reads h le defined = reads_as (IsLists h)
    (reads_then (numbered_reads (latch_at h.max_var) (IsLatchOf h.max_var) h.max_var (λ v within. latch_reads h.max_var (lit (2 * v)) le (omega (arith, le, within))) h.latches (1 + h.inputs) (omega (arith, defined))) (λ latches.
    reads_then (uses_reads h le) (λ uses.
    reads_then (numbered_reads gate_at IsGateOf h.max_var (λ v within. gate_reads (lit (2 * v)) (omega (arith, le, within))) h.gates (1 + h.inputs + h.latches) (omega (arith, defined))) (λ gates.
    reads_then (numbered_reads input_at IsInputOf h.max_var (λ v within. reads_input v) h.inputs 1 (omega (arith, defined))) (λ inputs.
    reads_nothing (parts_of h.max_var inputs latches uses gates))))))
    (lists_to h) (lists_from h)

-- ---- the circuit

-- all variables are defined
abbrev is_full : Header → Bool
is_full h = eqb (h.inputs + h.latches + h.gates) h.max_var

never : false ≡ true → ⊥
never e = absurd cc

-- only where a test on what was read passes, which the law may need
reads_tested : {A : Type 0} (b : Bool) {p : List ℕ → Read A} {R : List ℕ → A → Type 0} → (b ≡ true → Reads p R) → Reads (λ bytes. cond b (p bytes) None) (λ t x. (b ≡ true) × R t x)
reads_tested true law = reads_when true (law refl)
reads_tested false law = record { sound = λ bytes x rest e. absurd cc; complete = λ front x rest r. absurd (never r.0) }

abbrev OfCircuit : List ℕ → Parts → Type 0
OfCircuit = Then (IsHeader (codes "aig ")) (λ h t c. (is_full h ≡ true) × IsLists h t c)

regroup : (w m h b o d e s j f g : List ℕ) → (w ++ m ++ h) ++ (b ++ (o ++ d ++ e ++ (s ++ j) ++ f) ++ g) ≡ w ++ m ++ h ++ b ++ o ++ d ++ e ++ s ++ j ++ f ++ g
regroup w m h b o d e s j f g = simp append_assoc

stated_are : (h : Header) (t : List ℕ) (c : Parts) → IsLists h t c → stated h ≡ counts_of c
stated_are h t c l =
    let u = l.each_use in
    rw (l.each_input.0, l.each_latch.0, l.each_gate.0, u.each_output.0, u.each_bad.0, u.each_constraint.0, u.each_justice.count, u.each_fairness.0) refl

-- the literals that define something
defining_long : (c : Parts) → length (defining c) ≡ length c.inputs + length c.latches + length c.gates
defining_long c =
    omega (
      arith,
      length-append (c.inputs ++ map (λ l. l.lit) c.latches) (map (λ g. g.lhs) c.gates),
      length-append c.inputs (map (λ l. l.lit) c.latches),
      length-map {A = Latch} {B = Lit} c.latches (λ l. l.lit),
      length-map {A = Gate} {B = Lit} c.gates (λ g. g.lhs),
    )

ordered_of : (h : Header) (t : List ℕ) (c : Parts) → is_full h ≡ true → IsLists h t c → IsOrdered c
ordered_of h t c full l =
    let defined : h.inputs + h.latches + h.gates ≡ h.max_var = eqb-true (h.inputs + h.latches + h.gates) h.max_var full in
    let gates = gates_to (1 + h.inputs + h.latches) l.gates c.gates l.each_gate.1 in
    let lits = map (λ l. l.lit) c.latches in
    record {
      all_defined = omega (arith, l.max_is, defined, defining_long c, l.each_input.0, l.each_latch.0, l.each_gate.0);
      numbered = IsNumbered-all c.inputs lits (map (λ g. g.lhs) c.gates) h.inputs h.latches (sym l.each_input.0) (sym l.each_latch.0 ∙ sym (length-map {A = Latch} {B = Lit} c.latches (λ l. l.lit)))
          (inputs_to 1 [] c.inputs l.each_input.1).1 (latches_to h.max_var (1 + h.inputs) l.latches c.latches l.each_latch.1).1 gates.1;
      descending = gates.2;
    }

circuit_of : (t a b : List ℕ) (h : Header) (c : Parts) → IsHeader (codes "aig ") a h → is_full h ≡ true → IsLists h b c → t ≡ a ++ b → SpellsOrdered t c
circuit_of t a b h c headed full l p =
    let u = l.each_use in
    let j = u.each_justice in
    record {
      head = headed.head;
      latches = l.latches;
      outputs = u.outputs;
      bad = u.bad;
      constraints = u.constraints;
      sizes = j.sizes;
      justice = j.literals;
      fairness = u.fairness;
      gates = l.gates;
      whole = rw (l.max_is, p, headed.spells, l.whole, u.whole, j.whole)
          (regroup (codes "aig ") (decimal h.max_var) headed.head l.latches u.outputs u.bad u.constraints j.sizes j.literals u.fairness l.gates);
      max_var = rw l.max_is headed.max_var;
      counts = rw (← stated_are h b c l) headed.counts;
      ordered = ordered_of h b c full l;
      each_latch = rw l.max_is (latches_to h.max_var (1 + h.inputs) l.latches c.latches l.each_latch.1).0;
      each_output = rw l.max_is u.each_output.1;
      each_bad = rw l.max_is u.each_bad.1;
      each_constraint = rw l.max_is u.each_constraint.1;
      each_size = j.each_size;
      each_justice = rw l.max_is j.each_literal;
      each_fairness = rw l.max_is u.each_fairness.1;
      each_gate = (gates_to (1 + h.inputs + h.latches) l.gates c.gates l.each_gate.1).0;
      justice_room = j.room;
    }

circuit_to : (t : List ℕ) (c : Parts) → OfCircuit t c → SpellsOrdered t c
circuit_to t c (h, a, b, headed, (full, lists), p) = circuit_of t a b h c headed full lists p

lists_of : (t : List ℕ) (c : Parts) (s : SpellsOrdered t c) → IsLists (header_for c) (s.latches ++ (s.outputs ++ s.bad ++ s.constraints ++ (s.sizes ++ s.justice) ++ s.fairness) ++ s.gates) c
lists_of t c s =
    let lits = map (λ l. l.lit) c.latches in
    let lefts = map (λ g. g.lhs) c.gates in
    let long : length c.latches ≡ length lits = sym (length-map {A = Latch} {B = Lit} c.latches (λ l. l.lit)) in
    let n = s.ordered.numbered in
    record {
      latches = s.latches;
      uses = s.outputs ++ s.bad ++ s.constraints ++ (s.sizes ++ s.justice) ++ s.fairness;
      gates = s.gates;
      whole = refl;
      max_is = refl;
      each_latch = (refl, latches_from c.max_var (1 + length c.inputs) s.latches c.latches s.each_latch (IsNumbered-second c.inputs lits lefts (length c.inputs) refl n));
      each_use = record {
        outputs = s.outputs;
        bad = s.bad;
        constraints = s.constraints;
        justice = s.sizes ++ s.justice;
        fairness = s.fairness;
        whole = refl;
        each_output = (refl, s.each_output);
        each_bad = (refl, s.each_bad);
        each_constraint = (refl, s.each_constraint);
        each_justice = record {
          sizes = s.sizes;
          literals = s.justice;
          whole = refl;
          count = refl;
          room = s.justice_room;
          each_size = s.each_size;
          each_literal = s.each_justice;
        };
        each_fairness = (refl, s.each_fairness);
      };
      each_gate = (refl, gates_from (1 + length c.inputs + length c.latches) s.gates c.gates s.each_gate (IsNumbered-third c.inputs lits lefts (length c.inputs) (length c.latches) refl long n) s.ordered.descending);
      each_input = (refl, inputs_from 1 c.inputs (IsNumbered-left 1 c.inputs lits (IsNumbered-left 1 (c.inputs ++ lits) lefts n)));
    }

circuit_from : (t : List ℕ) (c : Parts) → SpellsOrdered t c → OfCircuit t c
circuit_from t c s =
    let defined : length c.inputs + length c.latches + length c.gates ≡ c.max_var = omega (arith, s.ordered.all_defined, defining_long c) in (
      header_for c,
      codes "aig " ++ decimal c.max_var ++ s.head,
      s.latches ++ (s.outputs ++ s.bad ++ s.constraints ++ (s.sizes ++ s.justice) ++ s.fairness) ++ s.gates,
      record { head = s.head; spells = refl; max_var = s.max_var; counts = s.counts },
      (eq-eqb (length c.inputs + length c.latches + length c.gates) c.max_var defined, lists_of t c s),
      s.whole ∙ sym (regroup (codes "aig ") (decimal c.max_var) s.head s.latches s.outputs s.bad s.constraints s.sizes s.justice s.fairness s.gates),
    )

pub circuit_reads : Reads circuit_at SpellsOrdered
unfolding circuit_at
circuit_reads = reads_as SpellsOrdered
    (reads_given (header_reads (codes "aig ")) (λ h t headed. reads_tested (is_full h) (λ full. lists_reads h headed.max_var (eqb-true (h.inputs + h.latches + h.gates) h.max_var full))))
    circuit_to circuit_from

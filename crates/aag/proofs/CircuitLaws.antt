-- A circuit is read as it is spelled.
use Rattle.std.proofs.Common.{◌≡◌, ℕ, ◌+◌, ◌≤◌, Bool, false, ltb, List, [], ◌++◌, length, refl, sym, ap, ◌∙◌, arith, append_assoc}
use Rattle.std.specs.Prelude.{decimal, codes}
use Rattle.std.proofs.lemmas.Bool.{ltb-false, le-ltb}
use Rattle.std.proofs.lemmas.List.{append-nil}
use Rattle.scan.specs.Reading.{◌>>=◌, Read}
use Rattle.scan.specs.Spelling.{Nothing, Then}
use Rattle.scan.proofs.Toolbox.{Reads, bind_some, reads_as, reads_nothing, reads_then, reads_unless}
use Rattle.scan.proofs.ListLaws.{Many, many_reads}
use Rattle.graph.specs.declared.parts.Parts.{Parts}
use Rattle.aag.specs.declared.header.Header.{Header}
use Rattle.aag.specs.declared.uses.Uses.{Uses}
use Rattle.aag.specs.Lines.{greatest}
use Rattle.aag.specs.Sections.{uses_at, parts_of, lists_at, circuit_at}
use Rattle.aag.specs.Spelling.{IsInputLine, IsLiteralLine, IsLatchLine, IsGateLine, counts_of, SpellsCircuit}
use Rattle.aag.proofs.LineLaws.{input_reads, literal_reads, latch_reads, gate_reads}
use Rattle.aag.proofs.JusticeLaws.{IsJustice, justice_reads}
use Rattle.aag.proofs.HeaderLaws.{stated, IsHeader, header_reads}

-- ---- between the latches and the gates

-- the lines of these lists, as many as the header states
pub record IsUses (h : Header) (t : List ℕ) (u : Uses) : Type 0 where
  pub outputs : List ℕ
  pub bad : List ℕ
  pub constraints : List ℕ
  pub justice : List ℕ
  pub fairness : List ℕ
  pub whole : t ≡ outputs ++ bad ++ constraints ++ justice ++ fairness
  pub each_output : Many (IsLiteralLine h.max_var) h.outputs outputs u.outputs
  pub each_bad : Many (IsLiteralLine h.max_var) h.bad bad u.bad
  pub each_constraint : Many (IsLiteralLine h.max_var) h.constraints constraints u.constraints
  pub each_justice : IsJustice h.max_var h.justice justice u.justice
  pub each_fairness : Many (IsLiteralLine h.max_var) h.fairness fairness u.fairness

abbrev OfUses : Header → List ℕ → Uses → Type 0
OfUses h =
    Then (Many (IsLiteralLine h.max_var) h.outputs) (λ outputs.
    Then (Many (IsLiteralLine h.max_var) h.bad) (λ bad.
    Then (Many (IsLiteralLine h.max_var) h.constraints) (λ constraints.
    Then (IsJustice h.max_var h.justice) (λ justice.
    Then (Many (IsLiteralLine h.max_var) h.fairness) (λ fairness.
    Nothing {A = Uses} (record { outputs = outputs; bad = bad; constraints = constraints; justice = justice; fairness = fairness }))))))

uses_to : (h : Header) (t : List ℕ) (u : Uses) → OfUses h t u → IsUses h t u
uses_to h t u (os, t1, r1, l1, (bs, t2, r2, l2, (cs, t3, r3, l3, (js, t4, r4, l4, (fs, t5, r5, l5, last, p5), p4), p3), p2), p1) =
    rw last.1 (record {
      outputs = t1;
      bad = t2;
      constraints = t3;
      justice = t4;
      fairness = t5;
      whole = rw (p1, p2, p3, p4, p5, last.0) (simp (append_assoc, append-nil));
      each_output = l1;
      each_bad = l2;
      each_constraint = l3;
      each_justice = l4;
      each_fairness = l5;
    })

uses_from : (h : Header) (t : List ℕ) (u : Uses) → IsUses h t u → OfUses h t u
uses_from h t u p = (
  u.outputs,
  p.outputs,
  p.bad ++ (p.constraints ++ (p.justice ++ p.fairness)),
  p.each_output,
  (
    u.bad,
    p.bad,
    p.constraints ++ (p.justice ++ p.fairness),
    p.each_bad,
    (
      u.constraints,
      p.constraints,
      p.justice ++ p.fairness,
      p.each_constraint,
      (
        u.justice,
        p.justice,
        p.fairness,
        p.each_justice,
        (u.fairness, p.fairness, [], p.each_fairness, (refl, refl), sym (append-nil p.fairness)),
        refl,
      ),
      refl,
    ),
    refl,
  ),
  p.whole ∙ simp append_assoc,
)

pub uses_reads : (h : Header) → h.max_var ≤ greatest → Reads (uses_at h) (IsUses h)
unfolding uses_at
uses_reads h le = reads_as (IsUses h)
    (reads_then (many_reads (literal_reads h.max_var le) h.outputs) (λ outputs.
    reads_then (many_reads (literal_reads h.max_var le) h.bad) (λ bad.
    reads_then (many_reads (literal_reads h.max_var le) h.constraints) (λ constraints.
    reads_then (justice_reads h.max_var h.justice le) (λ justice.
    reads_then (many_reads (literal_reads h.max_var le) h.fairness) (λ fairness.
    reads_nothing {A = Uses} (record { outputs = outputs; bad = bad; constraints = constraints; justice = justice; fairness = fairness })))))))
    (uses_to h) (uses_from h)

-- ---- all lists

abbrev pub uses_of : Parts → Uses
uses_of c = record { outputs = c.outputs; bad = c.bad; constraints = c.constraints; justice = c.justice; fairness = c.fairness }

-- the lines of the parts, as many as the header states
record IsLists (h : Header) (t : List ℕ) (c : Parts) : Type 0 where
  inputs : List ℕ
  latches : List ℕ
  uses : List ℕ
  gates : List ℕ
  whole : t ≡ inputs ++ latches ++ uses ++ gates
  max_is : c.max_var ≡ h.max_var
  each_input : Many (IsInputLine h.max_var) h.inputs inputs c.inputs
  each_latch : Many (IsLatchLine h.max_var) h.latches latches c.latches
  each_use : IsUses h uses (uses_of c)
  each_gate : Many (IsGateLine h.max_var) h.gates gates c.gates

abbrev OfLists : Header → List ℕ → Parts → Type 0
OfLists h =
    Then (Many (IsInputLine h.max_var) h.inputs) (λ inputs.
    Then (Many (IsLatchLine h.max_var) h.latches) (λ latches.
    Then (IsUses h) (λ uses.
    Then (Many (IsGateLine h.max_var) h.gates) (λ gates.
    Nothing (parts_of h.max_var inputs latches uses gates)))))

lists_to : (h : Header) (t : List ℕ) (c : Parts) → OfLists h t c → IsLists h t c
lists_to h t c (is, t1, r1, l1, (ls, t2, r2, l2, (u, t3, r3, l3, (gs, t4, r4, l4, last, p4), p3), p2), p1) =
    rw last.1 (record {
      inputs = t1;
      latches = t2;
      uses = t3;
      gates = t4;
      whole = rw (p1, p2, p3, p4, last.0) (simp (append_assoc, append-nil));
      max_is = refl;
      each_input = l1;
      each_latch = l2;
      each_use = l3;
      each_gate = l4;
    })

lists_from : (h : Header) (t : List ℕ) (c : Parts) → IsLists h t c → OfLists h t c
lists_from h t c p = (
  c.inputs,
  p.inputs,
  p.latches ++ (p.uses ++ p.gates),
  p.each_input,
  (
    c.latches,
    p.latches,
    p.uses ++ p.gates,
    p.each_latch,
    (
      uses_of c,
      p.uses,
      p.gates,
      p.each_use,
      (c.gates, p.gates, [], p.each_gate, (refl, rw (← p.max_is) refl), sym (append-nil p.gates)),
      refl,
    ),
    refl,
  ),
  p.whole ∙ simp append_assoc,
)

lists_reads : (h : Header) → h.max_var ≤ greatest → Reads (lists_at h) (IsLists h)
unfolding lists_at
lists_reads h le = reads_as (IsLists h)
    (reads_then (many_reads (input_reads h.max_var le) h.inputs) (λ inputs.
    reads_then (many_reads (latch_reads h.max_var le) h.latches) (λ latches.
    reads_then (uses_reads h le) (λ uses.
    reads_then (many_reads (gate_reads h.max_var le) h.gates) (λ gates.
    reads_nothing (parts_of h.max_var inputs latches uses gates))))))
    (lists_to h) (lists_from h)

-- ---- the circuit

-- one after the other, where the first gives what the law of the second needs
pub reads_given : {A B : Type 0} {p : List ℕ → Read A} {q : A → List ℕ → Read B} {R : List ℕ → A → Type 0} {S : A → List ℕ → B → Type 0} → Reads p R → ((x : A) (t : List ℕ) → R t x → Reads (q x) (S x)) → Reads (λ bytes. p bytes >>= λ r. q r.0 r.1) (Then R S)
reads_given {p} {q} {R} {S} one two = record {
  sound = λ bytes y rest e.
      let b = bind_some (p bytes) (λ r. q r.0 r.1) (y, rest) e in
      let s = one.sound bytes b.0.0 b.0.1 b.1 in
      let t = (two b.0.0 s.0 s.1).sound b.0.1 y rest b.2 in
      (s.0 ++ t.0, (b.0.0, s.0, t.0, s.1, t.1, refl), s.2 ∙ ap (λ (w : List ℕ). s.0 ++ w) t.2 ∙ sym (append_assoc s.0 t.0 rest));
  complete = λ front y rest r.
      let regrouped : front ++ rest ≡ r.1 ++ (r.2 ++ rest) = ap (λ (w : List ℕ). w ++ rest) r.5 ∙ append_assoc r.1 r.2 rest in
      ap (λ (w : List ℕ). p w >>= λ s. q s.0 s.1) regrouped ∙ ap (λ o. o >>= λ s. q s.0 s.1) (one.complete r.1 r.0 (r.2 ++ rest) r.3) ∙ (two r.0 r.1 r.3).complete r.2 y rest r.4;
}

-- more is defined than the header has variables
abbrev is_crowded : Header → Bool
is_crowded h = ltb h.max_var (h.inputs + h.latches + h.gates)

abbrev OfCircuit : List ℕ → Parts → Type 0
OfCircuit = Then (IsHeader (codes "aag ")) (λ h t c. (is_crowded h ≡ false) × IsLists h t c)

regroup : (w m h a b o d e s j f g : List ℕ) → (w ++ m ++ h) ++ (a ++ b ++ (o ++ d ++ e ++ (s ++ j) ++ f) ++ g) ≡ w ++ m ++ h ++ a ++ b ++ o ++ d ++ e ++ s ++ j ++ f ++ g
regroup w m h a b o d e s j f g = simp append_assoc

stated_are : (h : Header) (t : List ℕ) (c : Parts) → IsLists h t c → stated h ≡ counts_of c
stated_are h t c l =
    let u = l.each_use in
    rw (l.each_input.0, l.each_latch.0, l.each_gate.0, u.each_output.0, u.each_bad.0, u.each_constraint.0, u.each_justice.count, u.each_fairness.0) refl

circuit_of : (t a b : List ℕ) (h : Header) (c : Parts) → IsHeader (codes "aag ") a h → is_crowded h ≡ false → IsLists h b c → t ≡ a ++ b → SpellsCircuit t c
circuit_of t a b h c headed good l p =
    let u = l.each_use in
    let j = u.each_justice in
    let room : h.inputs + h.latches + h.gates ≤ h.max_var = ltb-false h.max_var (h.inputs + h.latches + h.gates) good in
    record {
      head = headed.head;
      inputs = l.inputs;
      latches = l.latches;
      outputs = u.outputs;
      bad = u.bad;
      constraints = u.constraints;
      sizes = j.sizes;
      justice = j.literals;
      fairness = u.fairness;
      gates = l.gates;
      whole = rw (l.max_is, p, headed.spells, l.whole, u.whole, j.whole)
          (regroup (codes "aag ") (decimal h.max_var) headed.head l.inputs l.latches u.outputs u.bad u.constraints j.sizes j.literals u.fairness l.gates);
      max_var = rw l.max_is headed.max_var;
      counts = rw (← stated_are h b c l) headed.counts;
      each_input = rw l.max_is l.each_input.1;
      each_latch = rw l.max_is l.each_latch.1;
      each_output = rw l.max_is u.each_output.1;
      each_bad = rw l.max_is u.each_bad.1;
      each_constraint = rw l.max_is u.each_constraint.1;
      each_size = j.each_size;
      each_justice = rw l.max_is j.each_literal;
      each_fairness = rw l.max_is u.each_fairness.1;
      each_gate = rw l.max_is l.each_gate.1;
      room = omega (arith, l.max_is, l.each_input.0, l.each_latch.0, l.each_gate.0, room);
      justice_room = j.room;
    }

circuit_to : (t : List ℕ) (c : Parts) → OfCircuit t c → SpellsCircuit t c
circuit_to t c (h, a, b, headed, (good, lists), p) = circuit_of t a b h c headed good lists p

-- the header of these parts
abbrev pub header_for : Parts → Header
header_for c = record {
  max_var = c.max_var;
  inputs = length c.inputs;
  latches = length c.latches;
  outputs = length c.outputs;
  gates = length c.gates;
  bad = length c.bad;
  constraints = length c.constraints;
  justice = length c.justice;
  fairness = length c.fairness;
}

lists_of : (t : List ℕ) (c : Parts) (s : SpellsCircuit t c) → IsLists (header_for c) (s.inputs ++ s.latches ++ (s.outputs ++ s.bad ++ s.constraints ++ (s.sizes ++ s.justice) ++ s.fairness) ++ s.gates) c
lists_of t c s = record {
  inputs = s.inputs;
  latches = s.latches;
  uses = s.outputs ++ s.bad ++ s.constraints ++ (s.sizes ++ s.justice) ++ s.fairness;
  gates = s.gates;
  whole = refl;
  max_is = refl;
  each_input = (refl, s.each_input);
  each_latch = (refl, s.each_latch);
  each_use = record {
    outputs = s.outputs;
    bad = s.bad;
    constraints = s.constraints;
    justice = s.sizes ++ s.justice;
    fairness = s.fairness;
    whole = refl;
    each_output = (refl, s.each_output);
    each_bad = (refl, s.each_bad);
    each_constraint = (refl, s.each_constraint);
    each_justice = record {
      sizes = s.sizes;
      literals = s.justice;
      whole = refl;
      count = refl;
      room = s.justice_room;
      each_size = s.each_size;
      each_literal = s.each_justice;
    };
    each_fairness = (refl, s.each_fairness);
  };
  each_gate = (refl, s.each_gate);
}

circuit_from : (t : List ℕ) (c : Parts) → SpellsCircuit t c → OfCircuit t c
circuit_from t c s = (
  header_for c,
  codes "aag " ++ decimal c.max_var ++ s.head,
  s.inputs ++ s.latches ++ (s.outputs ++ s.bad ++ s.constraints ++ (s.sizes ++ s.justice) ++ s.fairness) ++ s.gates,
  record { head = s.head; spells = refl; max_var = s.max_var; counts = s.counts },
  (le-ltb c.max_var (length c.inputs + length c.latches + length c.gates) s.room, lists_of t c s),
  s.whole ∙ sym (regroup (codes "aag ") (decimal c.max_var) s.head s.inputs s.latches s.outputs s.bad s.constraints s.sizes s.justice s.fairness s.gates),
)

pub circuit_reads : Reads circuit_at SpellsCircuit
unfolding circuit_at
circuit_reads = reads_as SpellsCircuit
    (reads_given (header_reads (codes "aag ")) (λ h t headed. reads_unless (is_crowded h) (lists_reads h headed.max_var)))
    circuit_to circuit_from

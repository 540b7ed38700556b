-- What a part of the circuit says of values.
use Rattle.std.proofs.Common.{◌≡◌, ◌≢◌, ℕ, zero, suc, ◌+◌, inl, inr, arith, Bool, true, false, not, ◌&&◌, ◌||◌, List, [], ◌∷◌, ◌++◌, Option, map, get_or, All, ℤ, pos, refl, sym, ◌∙◌, subst}
use Rattle.std.specs.Prelude.{flat_map}
use Rattle.std.proofs.Math.Bool.{and_comm}
use Rattle.std.proofs.lemmas.Bool.{cases_eq, eq-eqb, ne_eqb, false≢true}
use Rattle.std.proofs.lemmas.List.Elements.{All-cons, All-nil, All-append, Contains-get_or, Contains-append_left, Contains-append_right}
use Rattle.graph.specs.declared.circuit.Lit.{Lit}
use Rattle.graph.specs.declared.circuit.Gate.{Gate}
use Rattle.graph.specs.declared.parts.Parts.{Parts}
use Rattle.graph.specs.Circuits.{variable, place}
use Rattle.graph.proofs.Evaluation.{All-left, All-right}
use Rattle.graph.proofs.Shape.{All-flat_map}
use Rattle.lrat.specs.Literals.{is_true, IsSatisfied}
use Rattle.lrat.specs.Shared.{unit_clauses}
use Rattle.cnf.specs.Clauses.{signed, is_negated, literal, denial, truth_clause, gate_clauses}
use Rattle.cnf.specs.Meaning.{AreSatisfied}
use Rattle.cnf.proofs.Listed.{any-satisfied, unit-satisfied, units-satisfied}
use Rattle.graph.proofs.Gates.{left}
use Rattle.cones.specs.Marks.{IsMarked}
use Rattle.cones.specs.Reach.{IsGateTable, gate_at, gates_in, IsExtended}
use Rattle.cones.specs.declared.reach.Reach.TheVariants.{Cone}
use Rattle.cones.specs.Partial.{HasGates, HasConstraints}
use Rattle.cones.proofs.Assigned.{contains_flat, contains_found}
use Rattle.solver.specs.Answers.{values, AreTrue}
use Rattle.solver.specs.declared.part.AndGate.{AndGate}
use Rattle.solver.specs.declared.part.Part.{Part}
use Rattle.solver.specs.Parts.{IsAnd, IsPartModel}
use Rattle.ic3_step.specs.Queries.{and_gate, ands_in, ArePartGates, IsPartFor}
use Rattle.ic3_step.proofs.Entered.{ands_to, ands_from}
use Rattle.ic3_step.proofs.Latched.{to_map}

twice : (b : Bool) → b ≡ not (not b)
twice true = refl
twice false = refl

signed_not : (v : ℕ → Bool) (b : Bool) (k : ℕ) → k ≢ 0 → is_true v (signed b k) ≡ not (is_true v (signed (not b) k))
signed_not v b zero ne = absurd (ne refl)
signed_not v true (suc k) ne = refl
signed_not v false (suc k) ne = twice (v (suc k))

not_signed : (v : ℕ → Bool) (b : Bool) (k : ℕ) → k ≢ 0 → is_true v (signed (not b) k) ≡ not (is_true v (signed b k))
not_signed v b zero ne = absurd (ne refl)
not_signed v true (suc k) ne = twice (v (suc k))
not_signed v false (suc k) ne = refl

denial_not : (v : ℕ → Bool) (n : ℕ) (a : Lit) → is_true v (denial n 0 a) ≡ not (is_true v (literal n 0 a))
denial_not v n a = elim (cases_eq (variable a) 0) [
  | inl none ↦ rw (eq-eqb (variable a) 0 none) (signed_not v (is_negated a) (0 + n + 1) (λ e. omega (arith, e)))
  | inr some ↦ rw (ne_eqb (variable a) 0 some) (not_signed v (is_negated a) (0 + variable a) (λ e. some (omega (arith, e))))
]

first_holds : (x y z : Bool) → x ≡ (y && z) → (not x || (y || false)) ≡ true
first_holds true true z e = refl
first_holds true false z e = absurd (false≢true (sym e))
first_holds false y z e = refl

second_holds : (x y z : Bool) → x ≡ (y && z) → (not x || (z || false)) ≡ true
second_holds true true true e = refl
second_holds true true false e = absurd (false≢true (sym e))
second_holds true false z e = absurd (false≢true (sym e))
second_holds false y z e = refl

third_holds : (x y z : Bool) → x ≡ (y && z) → (x || (not y || (not z || false))) ≡ true
third_holds true y z e = refl
third_holds false true true e = e
third_holds false true false e = refl
third_holds false false z e = refl

-- a gate that has its value by its right sides satisfies its clauses
gate_satisfied : (v : ℕ → Bool) (n : ℕ) (g : Gate) → IsAnd v (and_gate n g) → AreSatisfied v (gate_clauses n 0 g)
gate_satisfied v n g is =
    let x : Bool = is_true v (literal n 0 g.lhs) in
    let y : Bool = is_true v (literal n 0 g.rhs0) in
    let z : Bool = is_true v (literal n 0 g.rhs1) in
    let c1 : List ℤ = denial n 0 g.lhs ∷ literal n 0 g.rhs0 ∷ [] in
    let c2 : List ℤ = denial n 0 g.lhs ∷ literal n 0 g.rhs1 ∷ [] in
    let c3 : List ℤ = literal n 0 g.lhs ∷ denial n 0 g.rhs0 ∷ denial n 0 g.rhs1 ∷ [] in
    All-cons (IsSatisfied v) c1 (c2 ∷ c3 ∷ []) (any-satisfied v c1 (rw (denial_not v n g.lhs) (first_holds x y z is)))
    (All-cons (IsSatisfied v) c2 (c3 ∷ []) (any-satisfied v c2 (rw (denial_not v n g.lhs) (second_holds x y z is)))
    (All-cons (IsSatisfied v) c3 [] (any-satisfied v c3 (rw (denial_not v n g.rhs0, denial_not v n g.rhs1) (third_holds x y z is))) (All-nil (IsSatisfied v))))

-- the clauses of a part: what is true, the constraints, and the gates
abbrev pub part_clauses : Parts → List Gate → List (List ℤ)
part_clauses m gates = truth_clause m.max_var 0 ∷ (unit_clauses (map (literal m.max_var 0) m.constraints) ++ flat_map (gate_clauses m.max_var 0) gates)

pub part_satisfied : (m : Parts) (n : ℕ) (lits : List Lit) (part : Part) (assume : List ℤ) (b : List Bool) → (own : IsPartFor m lits part) → IsPartModel n part assume b →
    AreSatisfied (values b) (part_clauses m own.listed)
part_satisfied m n lits part assume b own model =
    let v : ℕ → Bool = values b in
    let consts : List ℤ = map (literal m.max_var 0) m.constraints in
    let all : All (λ l. is_true v l ≡ true) (truth_clause m.max_var 0 ++ consts) = subst (λ ls. AreTrue v ls) own.wanted model.wanted in
    let gates : All (λ (g : Gate). IsAnd v (and_gate m.max_var g)) own.listed = own.gates v model.gates in
    All-cons (IsSatisfied v) (truth_clause m.max_var 0) (unit_clauses consts ++ flat_map (gate_clauses m.max_var 0) own.listed)
    (unit-satisfied v (pos (0 + m.max_var + 1)) (All-left (λ l. is_true v l ≡ true) (truth_clause m.max_var 0) consts all 0 (pos 0) (omega arith)))
    (All-append (IsSatisfied v) (unit_clauses consts) (flat_map (gate_clauses m.max_var 0) own.listed)
    (units-satisfied v consts (All-right (λ l. is_true v l ≡ true) (truth_clause m.max_var 0) consts all))
    (All-flat_map (IsSatisfied v) (gate_clauses m.max_var 0) own.listed (λ k d k_in. gate_satisfied v m.max_var (get_or own.listed k d) (gates k d k_in))))

pub part_gates : (m : Parts) (lits : List Lit) (part : Part) → (own : IsPartFor m lits part) → HasGates m (IsMarked own.cone) (part_clauses m own.listed)
part_gates m lits part own =
    let units : List (List ℤ) = unit_clauses (map (literal m.max_var 0) m.constraints) in
    let gates : List (List ℤ) = flat_map (gate_clauses m.max_var 0) own.listed in
    record {
      truth = (0, omega arith, refl);
      gates = λ k d k_in on i e i_in.
          let g : Gate = get_or m.gates k d in
          let c : List ℤ = get_or (gate_clauses m.max_var 0 g) i e in
          Contains-append_right (truth_clause m.max_var 0 ∷ []) (units ++ gates) c
          (Contains-append_right units gates c (contains_flat (gate_clauses m.max_var 0) own.listed g c (own.marked k d k_in on) (Contains-get_or (gate_clauses m.max_var 0 g) i e i_in)));
    }

pub part_constraints : (m : Parts) (lits : List Lit) (part : Part) → (own : IsPartFor m lits part) → HasConstraints m (IsMarked own.cone) (part_clauses m own.listed)
part_constraints m lits part own k d k_in =
    let a : Lit = get_or m.constraints k d in
    let units : List (List ℤ) = unit_clauses (map (literal m.max_var 0) m.constraints) in
    let gates : List (List ℤ) = flat_map (gate_clauses m.max_var 0) own.listed in (
      All-right (λ (x : Lit). IsMarked own.cone (variable x)) lits m.constraints own.asked k d k_in,
      Contains-append_right (truth_clause m.max_var 0 ∷ []) (units ++ gates) (literal m.max_var 0 a ∷ [])
          (Contains-append_left units gates (literal m.max_var 0 a ∷ [])
          (to_map (λ (l : ℤ). l ∷ []) (map (literal m.max_var 0) m.constraints) (literal m.max_var 0 a) (to_map (literal m.max_var 0) m.constraints a (Contains-get_or m.constraints k d k_in)))),
    )

-- a gate's literals, one by one
pub gate_made : (g : Gate) (n o : ℕ) (x y z : ℤ) → o ≡ 0 → x ≡ literal n o g.lhs → y ≡ literal n o g.rhs0 → z ≡ literal n o g.rhs1 →
    (let and : AndGate = record { lhs = x; rhs0 = y; rhs1 = z } in and ≡ and_gate n g)
gate_made g n o x y z first e1 e2 e3 = rw (e1, e2, e3, first) refl

-- what is listed where marks are extended from none is a part
pub part_from : (m : Parts) (table : List (Option Gate)) (ands : List (Option AndGate)) (t u w : List Bool) (wanted lits : List Lit) (list : List ℕ) (part : Part) → IsGateTable m table → ArePartGates m ands →
    ((v : ℕ) → place t v ≡ false) → wanted ≡ lits ++ m.constraints → IsExtended m Cone w wanted t u list → part.gates.items ≡ ands_in ands list →
    part.literals.items ≡ truth_clause m.max_var 0 ++ map (literal m.max_var 0) m.constraints → IsPartFor m lits part
part_from m table ands t u w wanted lits list part is have clear are ext gates literals = record {
  cone = u;
  closed = ext.closed;
  asked = subst (All (λ (a : Lit). IsMarked u (variable a))) are ext.marked;
  listed = gates_in table list;
  marked = λ k d k_in on.
      let g : Gate = get_or m.gates k d in
      elim (ext.listed (left g) on) [
        | inl before ↦ absurd (false≢true (sym (clear (left g)) ∙ before))
        | inr found ↦ contains_found (gate_at table) list (left g) g found (is.gates k d k_in)
      ];
  gates = λ v all. ands_to m table ands list v is have (subst (All (IsAnd v)) gates all);
  same = λ v all. subst (All (IsAnd v)) (sym gates) (ands_from m table ands list v is have all);
  wanted = literals;
}

-- a gate whose sides change places
pub and_turned : (v : ℕ → Bool) (a : AndGate) → IsAnd v (record { lhs = a.lhs; rhs0 = a.rhs1; rhs1 = a.rhs0 }) → IsAnd v a
and_turned v a turned = turned ∙ and_comm (is_true v a.rhs1) (is_true v a.rhs0)

-- What a well-formed circuit says of the variables of its literals.
use Rattle.std.proofs.Common.{ℕ, zero, suc, ◌+◌, ◌*◌, ◌≤◌, List, [], ◌∷◌, ◌++◌, map, get_or, arith, All}
use Rattle.std.proofs.lemmas.List.Elements.{All-append, All-nil}
use Rattle.graph.specs.declared.circuit.Lit.{Lit}
use Rattle.graph.specs.declared.parts.Parts.{Parts}
use Rattle.graph.specs.Circuits.{variable, justice_literals, wanted_of}
use Rattle.graph.specs.WellFormed.{IsWellFormed, used}
use Rattle.graph.proofs.Evaluation.{All-left, All-right, All-unmap, latches_in_range, lefts_in_range, rights0, rights1}

abbrev pub IsIn : ℕ → Lit → Type 0
IsIn n a = variable a ≤ n

pub record AreIn (m : Parts) (j : ℕ) : Type 0 where
  pub inputs : All (IsIn m.max_var) m.inputs
  pub latches : All (λ l. IsIn m.max_var l.lit) m.latches
  pub nexts : All (λ l. IsIn m.max_var l.next) m.latches
  pub constraints : All (IsIn m.max_var) m.constraints
  pub wanted : All (IsIn m.max_var) (wanted_of m j)
  pub lefts : All (λ g. IsIn m.max_var g.lhs) m.gates
  pub rights0 : All (λ g. IsIn m.max_var g.rhs0) m.gates
  pub rights1 : All (λ g. IsIn m.max_var g.rhs1) m.gates

-- what holds of all literals of the properties holds of those of one
pub one_property : (P : Lit → Type 0) (properties : List (List Lit)) (j : ℕ) → All P (justice_literals properties) → All P (get_or properties j [])
one_property P [] j h = All-nil P
one_property P (lits ∷ rest) zero h = All-left P lits (justice_literals rest) h
one_property P (lits ∷ rest) (suc j) h = one_property P rest j (All-right P lits (justice_literals rest) h)

small : (n : ℕ) (a : Lit) → a.0 ≤ 2 * n + 1 → IsIn n a
small n a h = omega arith

pub are_in : (m : Parts) (j : ℕ) → IsWellFormed m → AreIn m j
are_in m j h =
    let P : Lit → Type 0 = IsIn m.max_var in
    let used_in : All P (used m) = λ k d k_in. small m.max_var (get_or (used m) k d) (h.used_in_range k d k_in) in
    let nexts : List Lit = map (λ l. l.next) m.latches in
    let before_gates : All P (nexts ++ m.outputs ++ m.bad ++ m.constraints ++ justice_literals m.justice ++ m.fairness) =
    All-left P _ (map (λ g. g.rhs0) m.gates) (All-left P _ (map (λ g. g.rhs1) m.gates) used_in) in
    let to_justice : All P (nexts ++ m.outputs ++ m.bad ++ m.constraints ++ justice_literals m.justice) = All-left P _ m.fairness before_gates in
    let to_constraints : All P (nexts ++ m.outputs ++ m.bad ++ m.constraints) = All-left P _ (justice_literals m.justice) to_justice in
    record {
      inputs = λ k d k_in. small m.max_var (get_or m.inputs k d)
          (All-left (λ a. a.0 ≤ 2 * m.max_var + 1) m.inputs (map (λ l. l.lit) m.latches)
          (All-left (λ a. a.0 ≤ 2 * m.max_var + 1) (m.inputs ++ map (λ l. l.lit) m.latches) (map (λ g. g.lhs) m.gates) h.defining_in_range) k d k_in);
      latches = λ k d k_in. small m.max_var (get_or m.latches k d).lit (latches_in_range m h k d k_in);
      nexts = All-unmap P (λ l. l.next) m.latches (All-left P nexts m.outputs (All-left P (nexts ++ m.outputs) m.bad (All-left P (nexts ++ m.outputs ++ m.bad) m.constraints to_constraints)));
      constraints = All-right P (nexts ++ m.outputs ++ m.bad) m.constraints to_constraints;
      wanted = All-append P (get_or m.justice j []) m.fairness
          (one_property P m.justice j (All-right P (nexts ++ m.outputs ++ m.bad ++ m.constraints) (justice_literals m.justice) to_justice))
          (All-right P (nexts ++ m.outputs ++ m.bad ++ m.constraints ++ justice_literals m.justice) m.fairness before_gates);
      lefts = λ k d k_in. small m.max_var (get_or m.gates k d).lhs (lefts_in_range m h k d k_in);
      rights0 = rights0 P m used_in;
      rights1 = rights1 P m used_in;
    }

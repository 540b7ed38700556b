-- What the step cases and the bad case share.
use Rattle.std.proofs.Common.{◌≡◌, ℕ, ◌+◌, Bool, List, Option, None, Some, ◌∙◌, ap, subst, sym}
use Rattle.std.specs.FinMap as fin
use Rattle.graph.specs.declared.circuit.Lit.{Lit}
use Rattle.graph.specs.declared.parts.Parts.{Parts}
use Rattle.lrat.specs.declared.formula.Formula.{Formula}
use Rattle.lrat.specs.declared.line.Line.{Line}
use Rattle.lrat.specs.Lemmas.{base_at}
use Rattle.lrat.specs.Literals.{Satisfies}
use Rattle.lrat.specs.Proofs.{first_stage, Solves}
use Rattle.lrat.specs.Shared.{Base, base_of}
use Rattle.lrat.proofs.Exact.{along_unique}
use Rattle.lrat.proofs.Extending.{extended_true}
use Rattle.lrat.proofs.Refuted.{empty_true, numbered_true}
use Rattle.cnf.specs.Formulas.{shared_formula}
use Rattle.checker2.specs.Accepted.{IsShared}

-- whatever satisfies a formula satisfies its base
pub base_true : (f : Formula) (v : ℕ → Bool) → Solves v f → Satisfies v (fin.get (base_of f).present)
base_true f v solves = numbered_true v 1 f.clauses fin.empty (empty_true v) solves

-- whatever satisfies the circuit and the invariant satisfies what is shared
pub shared_true : (m : Parts) (inv : List (List Lit)) (lemmas : Option (List Line)) (b : Base) → IsShared m inv lemmas b →
    (v : ℕ → Bool) → Solves v (shared_formula m inv) → Satisfies v (fin.get b.present)
shared_true m inv None b is v solves = subst (λ (c : Base). Satisfies v (fin.get c.present)) (sym is) (base_true (shared_formula m inv) v solves)
shared_true m inv (Some lemmas) b is v solves =
    subst (λ (c : Base). Satisfies v (fin.get c.present)) (sym is.3) (extended_true (shared_formula m inv) lemmas is.0 is.1 is.2 v solves)

-- it is over the variables of one time
pub shared_vars : (m : Parts) (inv : List (List Lit)) (lemmas : Option (List Line)) (b : Base) → IsShared m inv lemmas b → b.vars ≡ m.max_var + 1
shared_vars m inv None b is = ap (λ (c : Base). c.vars) is
shared_vars m inv (Some lemmas) b is = ap (λ (c : Base). c.vars) is.3

-- and there is only one
pub shared_unique : (m : Parts) (inv : List (List Lit)) (lemmas : Option (List Line)) (b c : Base) → IsShared m inv lemmas b → IsShared m inv lemmas c → b ≡ c
shared_unique m inv None b c p q = p ∙ sym q
shared_unique m inv (Some lemmas) b c p q =
    p.3 ∙ ap (base_at (m.max_var + 1)) (along_unique (m.max_var + 1) lemmas (first_stage (shared_formula m inv)) p.0 q.0 p.2.along q.2.along) ∙ sym q.3

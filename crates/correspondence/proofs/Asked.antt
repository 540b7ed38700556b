-- What the core of a case says.
use Rattle.std.proofs.Common.{◌≡◌, ◌∙◌, Bool, true, false, ℕ, ◌+◌, ◌<◌, inl, inr, List, ◌++◌, get_or, ℤ, ap, subst, arith, SFits, w32, to_z, of_z}
use Rattle.std.proofs.lemmas.Bool.{cases_lt, false≢true}
use Rattle.lrat.proofs.Fit.{read32}
use Rattle.correspondence.specs.declared.rounds.Reply.{Reply}
use Rattle.correspondence.specs.declared.rounds.Reply.TheVariants.{Holds, Split, Spent}
use Rattle.std.proofs.lemmas.List.Elements.{All-contains}
use Rattle.graph.proofs.Evaluation.{All-left, All-right}
use Rattle.lrat.specs.Literals.{is_true, IsSatisfied}
use Rattle.lrat.specs.Shared.{unit_clauses}
use Rattle.cnf.specs.Invariants.{AreContradictory}
use Rattle.cnf.proofs.Listed.{satisfied-units}
use Rattle.solver.specs.Answers.{IsCore}

-- nothing satisfies the clauses with the units, of which there is a core
pub core_contradicts : (cs : List (List ℤ)) (units core : List ℤ) → IsCore cs units core → AreContradictory (cs ++ unit_clauses units)
core_contradicts cs units core is = λ v all.
    let set = satisfied-units v units (All-right (IsSatisfied v) cs (unit_clauses units) all) in
    is.refuted v (All-left (IsSatisfied v) cs (unit_clauses units) all)
    (λ k d k_in. All-contains (λ (l : ℤ). is_true v l ≡ true) units (get_or core k d) set (is.among k d k_in))

-- what holds of all before and here holds of one more
pub one_more : (P : ℕ → Type 0) (n : ℕ) → ((k : ℕ) → k < n → P k) → P n → (k : ℕ) → k < n + 1 → P k
one_more P n before here k lt = elim (cases_lt k n) [
  | inl inside ↦ before k inside
  | inr past ↦ let same : n ≡ k = omega (arith, lt, past) in subst P same here
]

-- what is read back of a number that is another one
pub read_as : (x y : ℤ) → SFits w32 x → x ≡ y → to_z w32 (of_z w32 x) ≡ y
read_as x y fits is = read32 x fits ∙ is

abbrev is_holds : Reply → Bool
is_holds Holds = true
is_holds Split = false
is_holds Spent = false

pub split_holds_not : Split ≡ Holds → ⊥
split_holds_not e = false≢true (ap is_holds e)

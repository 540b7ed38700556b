-- A core excludes the times that were asked for.
use Rattle.std.proofs.Common.{◌≡◌, ℕ, ◌+◌, ◌-◌, ◌==◌, if◌then◌else◌, Bool, true, false, not, inl, inr, List, ◌++◌, map, get_or, All, Contains, ℤ, refl, ◌∙◌, ap, arith}
use Rattle.std.specs.Prelude.{nat_lt}
use Rattle.std.proofs.lemmas.Bool.{cases_Bool, lt-ltb, le-ltb, eq-eqb, ne_eqb}
use Rattle.std.proofs.lemmas.List.Elements.{All-append, All-map, All-contains}
use Rattle.base.specs.Budget.{Steps}
use Rattle.graph.specs.declared.circuit.Lit.{Lit}
use Rattle.graph.specs.declared.parts.Parts.{Parts}
use Rattle.graph.specs.Circuits.{place, state_of}
use Rattle.graph.specs.WellFormed.{IsWellFormed}
use Rattle.lrat.specs.Literals.{IsSatisfied}
use Rattle.cnf.specs.Clauses.{time_clauses}
use Rattle.cnf.specs.Formulas.{IsInRange}
use Rattle.cnf.specs.Meaning.{AreSatisfied}
use Rattle.cnf.proofs.CaseLaws.{time_satisfied}
use Rattle.cnf.proofs.Formed.{IsKnown}
use Rattle.cnf.proofs.Values.{IsLaid, literal_true, denial_true}
use Rattle.cones.proofs.Assigned.{part_law}
use Rattle.solver.specs.Answers.{IsCore}
use Rattle.ic3_step.specs.declared.reply.Reply.TheVariants.{Core}
use Rattle.states.specs.States.{IsTime}
use Rattle.ic3_step.specs.States.{Guarded, HoldsGuarded}
use Rattle.ic3_step.specs.Replies.{IsReply}
use Rattle.ic3_step.specs.Contents.{Contents, latch_literal, guarded_clause, IsLoaded}
use Rattle.ic3_step.specs.Readings.{assumptions_of, core_lits}
use Rattle.states.proofs.Valued.{is_among, among_contains, contains_among, known_range, known_in_range}
use Rattle.ic3_step.proofs.Latched.{latch_literal_known, value_latch, HasState, guard_true, holds_clause, unguarded_clause}
use Rattle.ic3_step.proofs.Cores.{IsAssumed, assumed, core_among, core_true}

-- the valuation, with these guards
abbrev switched : Parts → List ℕ → List Bool → ℕ → Bool
switched m guards w k = if nat_lt k (m.max_var + 1) then place w k else (if k == m.max_var + 1 then true else is_among guards (k - (m.max_var + 2)))

switched_laid : (m : Parts) (guards : List ℕ) (w : List Bool) → place w 0 ≡ false → IsLaid (switched m guards w) 0 m.max_var w
switched_laid m guards w constant = record {
  inside = λ k nz k_in. rw (lt-ltb (0 + k) (m.max_var + 1) (omega (arith, k_in))) (let here : 0 + k ≡ k = omega arith in ap (place w) here);
  top = rw (le-ltb (0 + m.max_var + 1) (m.max_var + 1) (omega arith), eq-eqb (0 + m.max_var + 1) (m.max_var + 1) (omega arith)) refl;
  constant = constant;
}

switched_guard : (m : Parts) (guards : List ℕ) (w : List Bool) (g : ℕ) → switched m guards w (m.max_var + 2 + g) ≡ is_among guards g
switched_guard m guards w g =
    rw (le-ltb (m.max_var + 2 + g) (m.max_var + 1) (omega arith), ne_eqb (m.max_var + 2 + g) (m.max_var + 1) (λ e. omega (arith, e)))
    (let here : m.max_var + 2 + g - (m.max_var + 2) ≡ g = omega arith in ap (is_among guards) here)

laid_state : (m : Parts) (v : ℕ → Bool) (w : List Bool) → IsWellFormed m → IsLaid v 0 m.max_var w → HasState m v (state_of m w)
laid_state m v w well at =
    let ranges : (i : ℕ) → IsInRange m.max_var (latch_literal m i) = λ i. known_range m (latch_literal m i) well (latch_literal_known m i) in
    record {
      on = λ i. literal_true v 0 m.max_var w (latch_literal m i) at (ranges i) ∙ value_latch m w i at.constant;
      off = λ i. denial_true v 0 m.max_var w (latch_literal m i) at (ranges i) ∙ ap not (value_latch m w i at.constant);
    }

-- a time in whose state the guards' clauses hold satisfies the clauses
switched_satisfied : (m : Parts) (gs : List Guarded) (guards : List ℕ) (w : List Bool) → IsWellFormed m → IsTime m w → HoldsGuarded gs guards (state_of m w) →
    AreSatisfied (switched m guards w) (time_clauses m 0 ++ map (guarded_clause m) gs)
switched_satisfied m gs guards w well time holds =
    let v : ℕ → Bool = switched m guards w in
    let at : IsLaid v 0 m.max_var w = switched_laid m guards w time.agrees.valuation.constant in
    All-append (IsSatisfied v) (time_clauses m 0) (map (guarded_clause m) gs) (time_satisfied v 0 m w well at time.agrees time.keeps)
    (All-map (IsSatisfied v) (guarded_clause m) gs (λ k d k_in.
    let g : Guarded = get_or gs k d in
    elim (cases_Bool (is_among guards g.guard)) [
      | inl on ↦ holds_clause m v (state_of m w) g (laid_state m v w well at) (holds k d k_in (among_contains guards g.guard on))
      | inr off ↦ unguarded_clause m v g (switched_guard m guards w g.guard ∙ off)
    ]))

-- a core of the solver, as one of literals of the circuit
pub refused : (m : Parts) (room : ℕ) (gs : List Guarded) (t : Contents) (guards : List ℕ) (lits : List Lit) (core : List ℤ) (after : Steps) → IsWellFormed m → IsLoaded m room gs t →
    All (IsKnown m) lits → IsCore t.clauses (assumptions_of m guards lits) core → IsReply m gs guards lits after (Core (core_lits m.max_var core))
refused m room gs t guards lits core after well loaded known is =
    let ranges : (a : Lit) → Contains lits a → IsInRange m.max_var a = λ a found. All-contains (IsInRange m.max_var) lits a (known_in_range m lits well known) found in
    let all : All (IsAssumed m guards lits) core = λ k d k_in. assumed m guards lits (get_or core k d) (is.among k d k_in) in (
      core_among m guards lits core ranges all,
      λ w time holds set.
          let v : ℕ → Bool = switched m guards w in
          let at : IsLaid v 0 m.max_var w = switched_laid m guards w time.agrees.valuation.constant in
          is.refuted v (part_law t.clauses (time_clauses m 0 ++ map (guarded_clause m) gs) loaded.only v (switched_satisfied m gs guards w well time holds))
          (core_true m guards lits v w core ranges (λ g found. guard_true m v g ∙ switched_guard m guards w g ∙ contains_among guards g found)
          (λ a range. literal_true v 0 m.max_var w a at range) all set),
    )

-- An assignment to which guards are added: it satisfies the guarded clauses wherever the marked ones are satisfied.
use Rattle.std.proofs.Common.{◌≡◌, ◌≢◌, ℕ, zero, suc, ◌+◌, ◌-◌, ◌<◌, ◌≤◌, if◌then◌else◌, Bool, false, not, inl, inr, List, [], ◌∷◌, map, length, get_or, All, ℤ, pos, negsuc, neg_ℤ, unsigned_abs, refl, sym, ◌∙◌, ap, subst, arith}
use Rattle.std.specs.Prelude.{nat_lt, slice_index_or}
use Rattle.std.proofs.lemmas.Bool.{cases_Bool, lt-ltb, le-ltb}
use Rattle.std.proofs.lemmas.List.Elements.{All-cons, All-map, All-contains, Contains-append_right}
use Rattle.graph.specs.declared.circuit.Lit.{Lit}
use Rattle.graph.specs.declared.parts.Parts.{Parts}
use Rattle.graph.specs.WellFormed.{IsWellFormed}
use Rattle.lrat.specs.Literals.{is_true, IsSatisfied, IsLiteral}
use Rattle.cnf.specs.Clauses.{literal, time_clauses}
use Rattle.cnf.specs.Formulas.{IsOverLatches, clause_at}
use Rattle.cnf.specs.Meaning.{AreSatisfied}
use Rattle.cnf.proofs.Formed.{IsFrom, IsClauseFrom, AreFrom, literal_from, clause_known, allows_to, time_from}
use Rattle.solver.specs.Answers.{AreTrue}
use Rattle.inductive_subset.specs.Guards.{guard_of, guarded_clause, IsOfCase, IsMarked}

-- the assignment, in which exactly the guards of the marked clauses are true
abbrev pub guarded_by : ℕ → List Bool → (ℕ → Bool) → ℕ → Bool
guarded_by n marks v k = if nat_lt k (n + 2) then v k else slice_index_or marks (k - (n + 2)) false

same_below : (n : ℕ) (marks : List Bool) (v : ℕ → Bool) (k : ℕ) → k ≤ n + 1 → guarded_by n marks v k ≡ v k
same_below n marks v k le = rw (lt-ltb k (n + 2) (omega (arith, le))) refl

same_guard : (n : ℕ) (marks : List Bool) (v : ℕ → Bool) (i : ℕ) → guarded_by n marks v (n + 2 + i) ≡ slice_index_or marks i false
same_guard n marks v i =
    let here : n + 2 + i - (n + 2) ≡ i = omega arith in
    rw (le-ltb (n + 2 + i) (n + 2) (omega arith)) (ap (λ k. slice_index_or marks k false) here)

-- literals of the circuit at one time
same_true : (u v : ℕ → Bool) (l : ℤ) → u (unsigned_abs l) ≡ v (unsigned_abs l) → is_true u l ≡ is_true v l
same_true u v (pos zero) e = refl
same_true u v (pos (suc n)) e = e
same_true u v (negsuc n) e = ap not e

literal_same : (n : ℕ) (marks : List Bool) (v : ℕ → Bool) (l : ℤ) → unsigned_abs l ≤ n + 1 → is_true (guarded_by n marks v) l ≡ is_true v l
literal_same n marks v l le = same_true (guarded_by n marks v) v l (same_below n marks v (unsigned_abs l) le)

clause_same : (n : ℕ) (marks : List Bool) (v : ℕ → Bool) (c : List ℤ) → IsClauseFrom (λ u. u ≤ n + 1) c → IsSatisfied v c → IsSatisfied (guarded_by n marks v) c
clause_same n marks v c from (l, found, set) =
    (l, found, literal_same n marks v l ((All-contains (IsFrom (λ u. u ≤ n + 1)) c l from found).1) ∙ set)

clauses_same : (n : ℕ) (marks : List Bool) (v : ℕ → Bool) (cs : List (List ℤ)) → AreFrom (λ u. u ≤ n + 1) cs → AreSatisfied v cs → AreSatisfied (guarded_by n marks v) cs
clauses_same n marks v cs from all k d k_in = clause_same n marks v (get_or cs k d) (from k d k_in) (all k d k_in)

pub units_same : (n : ℕ) (marks : List Bool) (v : ℕ → Bool) (ls : List ℤ) → All (IsLiteral (n + 1)) ls → AreTrue v ls → AreTrue (guarded_by n marks v) ls
units_same n marks v ls range all k d k_in = literal_same n marks v (get_or ls k d) ((range k d k_in).1) ∙ all k d k_in

-- guards
pos_true : (v : ℕ → Bool) (k : ℕ) → k ≢ 0 → is_true v (pos k) ≡ v k
pos_true v zero ne = absurd (ne refl)
pos_true v (suc k) ne = refl

neg_true : (v : ℕ → Bool) (k : ℕ) → k ≢ 0 → is_true v (neg_ℤ (pos k)) ≡ not (v k)
neg_true v zero ne = absurd (ne refl)
neg_true v (suc k) ne = refl

pub guard_true : (m : Parts) (marks : List Bool) (v : ℕ → Bool) (i : ℕ) → is_true (guarded_by m.max_var marks v) (guard_of m i) ≡ slice_index_or marks i false
guard_true m marks v i = pos_true (guarded_by m.max_var marks v) (m.max_var + 2 + i) (λ e. omega (arith, e)) ∙ same_guard m.max_var marks v i

guard_false : (m : Parts) (marks : List Bool) (v : ℕ → Bool) (i : ℕ) → is_true (guarded_by m.max_var marks v) (neg_ℤ (guard_of m i)) ≡ not (slice_index_or marks i false)
guard_false m marks v i = neg_true (guarded_by m.max_var marks v) (m.max_var + 2 + i) (λ e. omega (arith, e)) ∙ ap not (same_guard m.max_var marks v i)

-- the literals of clauses over the latches
pub clause_from : (m : Parts) (k : ℕ) (c : List Lit) → IsWellFormed m → m.max_var + 1 ≤ k → IsOverLatches m c → IsClauseFrom (λ u. u ≤ k) (map (literal m.max_var 0) c)
clause_from m k c well le over = All-map (IsFrom (λ u. u ≤ k)) (literal m.max_var 0) c
    (λ j d j_in. literal_from (λ u. u ≤ k) m 0 (get_or c j d) (allows_to m 0 k well (omega (arith, le))) (clause_known m c over j d j_in))

neg_is : (n k : ℕ) → k ≢ 0 → k ≤ n → IsLiteral n (neg_ℤ (pos k))
neg_is n zero ne le = absurd (ne refl)
neg_is n (suc k) ne le = (λ e. cc, le)

pos_is : (n k : ℕ) → k ≢ 0 → k ≤ n → IsLiteral n (pos k)
pos_is n zero ne le = absurd (ne refl)
pos_is n (suc k) ne le = (λ e. let z : suc k ≡ 0 = cc in ne z, le)

pub guard_is : (m : Parts) (k i : ℕ) → m.max_var + 2 + i ≤ k → IsLiteral k (guard_of m i)
guard_is m k i le = pos_is k (m.max_var + 2 + i) (λ e. omega (arith, e)) le

-- a guarded clause is the solver's
pub guarded_is : (m : Parts) (k : ℕ) (inv : List (List Lit)) (i : ℕ) → IsWellFormed m → All (IsOverLatches m) inv → i < length inv → m.max_var + 2 + i ≤ k → All (IsLiteral k) (guarded_clause m inv i)
guarded_is m k inv i well over i_in le =
    All-cons (IsLiteral k) (neg_ℤ (guard_of m i)) (map (literal m.max_var 0) (clause_at inv i)) (neg_is k (m.max_var + 2 + i) (λ e. omega (arith, e)) le)
    (clause_from m k (clause_at inv i) well (omega (arith, le)) (over i [] i_in))

-- each clause of the solver is satisfied
pub case_satisfied : (m : Parts) (inv : List (List Lit)) (marks : List Bool) (v : ℕ → Bool) (c : List ℤ) → IsWellFormed m → All (IsOverLatches m) inv → AreSatisfied v (time_clauses m 0) →
    ((i : ℕ) → IsMarked marks i → IsSatisfied v (map (literal m.max_var 0) (clause_at inv i))) → IsOfCase m inv c → IsSatisfied (guarded_by m.max_var marks v) c
case_satisfied m inv marks v c well over time holds is = elim is [
  | inl found ↦
      All-contains (IsSatisfied (guarded_by m.max_var marks v)) (time_clauses m 0) c
      (clauses_same m.max_var marks v (time_clauses m 0) (time_from (λ u. u ≤ m.max_var + 1) m 0 well (allows_to m 0 (m.max_var + 1) well (omega arith))) time) found
  | inr (i, i_in, e) ↦
      let body : List ℤ = map (literal m.max_var 0) (clause_at inv i) in
      let w : ℕ → Bool = guarded_by m.max_var marks v in
      subst (IsSatisfied w) (sym e) (elim (cases_Bool (slice_index_or marks i false)) [
        | inl on ↦
            let same : IsSatisfied w body = clause_same m.max_var marks v body (clause_from m (m.max_var + 1) (clause_at inv i) well (omega arith) (over i [] i_in)) (holds i on) in
            (same.0, Contains-append_right (neg_ℤ (guard_of m i) ∷ []) body same.0 same.1, same.2)
        | inr off ↦ (neg_ℤ (guard_of m i), (0, omega arith, refl), guard_false m marks v i ∙ ap not off)
      ])
]

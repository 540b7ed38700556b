-- Clauses over states and their translations into the circuit's literals.
use Rattle.std.proofs.Common.{◌≡◌, ◌≢◌, ℕ, zero, suc, ◌+◌, ◌-◌, ◌/◌, ◌%◌, ◌<◌, ◌≤◌, ◌==◌, Bool, true, false, not, if◌then◌else◌, inl, inr, List, [], ◌∷◌, ◌++◌, length, map, get_or, refl, sym, ◌∙◌, ap, subst, arith, All, AllPairs, Contains}
use Rattle.std.proofs.lemmas.Bool.{cases_lt, cases_eq, eq-eqb, ne_eqb}
use Rattle.std.proofs.lemmas.List.{get_or-map, length-map}
use Rattle.std.proofs.lemmas.List.Elements.{All-map, All-contains, Contains-get_or}
use Rattle.graph.specs.declared.circuit.Lit.{Lit}
use Rattle.graph.specs.declared.circuit.Latch.{Latch}
use Rattle.graph.specs.declared.parts.Parts.{Parts}
use Rattle.graph.specs.Circuits.{variable, place, value_of, state_of, next_state}
use Rattle.graph.specs.WellFormed.{IsWellFormed}
use Rattle.graph.proofs.Evaluation.{held, Contains-map, once-left, once-right, latches_even, latches_in_range}
use Rattle.graph.proofs.Gates.{left, value_of-even, apart_at}
use Rattle.cnf.specs.Clauses.{is_negated, along, next_of}
use Rattle.cnf.specs.Formulas.{IsOverLatches, IsClause}
use Rattle.cnf.specs.Meaning.{HoldsClause, Denies, DeniesNext}
use Rattle.cnf.proofs.Values.{turned}
use Rattle.cnf.specs.Invariants.{IsProper}
use Rattle.states.specs.declared.state_lit.StateLit.{StateLit}
use Rattle.states.specs.States.{latch_at, Holds}
use Rattle.states.proofs.Defaults.{no_latch, no_state_lit}
use Rattle.ic3_frames.specs.Frames.{IsStateClause, IsRising}
use Rattle.ic3_frames.specs.Clauses.{latch_lit, circuit_lit}

abbrev no_lit : Lit
no_lit = record { 0 = 0 }

-- the latch at a position
abbrev latch_of : Parts → ℕ → Latch
latch_of m i = get_or m.latches i no_latch

-- the literal is that of the latch at the position, or its negation
record IsOf (m : Parts) (i : ℕ) (negated : Bool) (a : Lit) : Type 0 where
  is_variable : variable a ≡ variable (latch_of m i).lit
  negation : is_negated a ≡ negated

even_negated : (n : ℕ) → n % 2 ≡ 0 → (n % 2 == 1) ≡ false
even_negated n even = ne_eqb (n % 2) 1 (λ e. omega (arith, even, e))

odd_negated : (n : ℕ) → n % 2 ≡ 0 → ((n + 1) % 2 == 1) ≡ true
odd_negated n even = eq-eqb ((n + 1) % 2) 1 (omega (arith, even))

next_half : (n : ℕ) → n % 2 ≡ 0 → (n + 1) / 2 ≡ n / 2
next_half n even = omega (arith, even)

chosen_of : (m : Parts) (i : ℕ) (b : Bool) (l : Lit) → l.0 % 2 ≡ 0 → variable l ≡ variable (latch_of m i).lit → IsOf m i (not b) (if b then l else record { 0 = l.0 + 1 })
chosen_of m i true l even is = record { is_variable = is; negation = even_negated l.0 even }
chosen_of m i false l even is = record { is_variable = next_half l.0 even ∙ is; negation = odd_negated l.0 even }

lit_even : (m : Parts) (i : ℕ) → IsWellFormed m → i < length m.latches → (latch_of m i).lit.0 % 2 ≡ 0
lit_even m i well i_in = (latches_even m well i no_latch i_in).1

circuit_lit_of : (m : Parts) (a : StateLit) → IsWellFormed m → a.latch < length m.latches → IsOf m a.latch (not a.value) (circuit_lit m.latches a)
circuit_lit_of m a well a_in =
    let at : latch_lit m.latches a.latch ≡ (latch_of m a.latch).lit = get_or-map (λ (l : Latch). l.lit) m.latches a.latch no_latch no_lit a_in in
    let even : (latch_lit m.latches a.latch).0 % 2 ≡ 0 = ap (λ (l : Lit). l.0 % 2) at ∙ lit_even m a.latch well a_in in
    chosen_of m a.latch a.value (latch_lit m.latches a.latch) even (ap variable at)

-- its value in a state
value_now : (m : Parts) (w : List Bool) (i : ℕ) (b : Bool) (a : Lit) → IsWellFormed m → i < length m.latches → IsOf m i b a → value_of w a ≡ turned b (latch_at (state_of m w) i)
value_now m w i b a well i_in is =
    let l : Lit = (latch_of m i).lit in
    let at : place w (variable a) ≡ latch_at (state_of m w) i = ap (place w) is.is_variable ∙ sym (value_of-even w l (lit_even m i well i_in))
    ∙ sym (get_or-map (λ (x : Latch). value_of w x.lit) m.latches i no_latch false i_in) in
    ap (λ c. turned c (place w (variable a))) is.negation ∙ ap (turned b) at

twice : (b : Bool) → b ≡ not (not b)
twice true = refl
twice false = refl

-- the value of a negated literal
value_along : (w : List Bool) (b : Bool) (a : Lit) → value_of w (along b a) ≡ turned b (value_of w a)
value_along w false a = refl
value_along w true a = elim (cases_eq (a.0 % 2) 1) [
  | inl odd ↦
      let half : (a.0 - 1) / 2 ≡ a.0 / 2 = omega arith in
      let even : (a.0 - 1) % 2 ≡ 0 = omega arith in
      rw (eq-eqb (a.0 % 2) 1 odd, even, half) (twice (place w (a.0 / 2)))
  | inr not_odd ↦
      let half : (a.0 + 1) / 2 ≡ a.0 / 2 = omega arith in
      let odd : (a.0 + 1) % 2 ≡ 1 = omega arith in
      rw (ne_eqb (a.0 % 2) 1 not_odd, odd, half) refl
]

-- latches have variables of their own
latches_once : (m : Parts) → IsWellFormed m → AllPairs (λ u v. u ≢ v) (map held m.latches)
latches_once m well =
    once-right (map variable m.inputs) (map held m.latches) (once-left (map variable m.inputs ++ map held m.latches) (map left m.gates) well.defined_once)

-- the next literal of a latch is found by its variable
next_found : (ls : List Latch) (i : ℕ) (a : Lit) → i < length ls → variable (get_or ls i no_latch).lit ≡ variable a →
    ((j : ℕ) → j < i → variable (get_or ls j no_latch).lit ≢ variable a) → next_of ls a ≡ along (is_negated a) (get_or ls i no_latch).next
next_found [] i a i_in same before = absurd (omega arith)
next_found (l ∷ ls) zero a i_in same before = rw (eq-eqb (variable l.lit) (variable a) same) refl
next_found (l ∷ ls) (suc i) a i_in same before =
    rw (ne_eqb (variable l.lit) (variable a) (before 0 (omega arith)))
    (next_found ls i a (omega arith) same (λ j j_in. before (suc j) (omega arith)))

value_after : (m : Parts) (w : List Bool) (i : ℕ) (b : Bool) (a : Lit) → IsWellFormed m → i < length m.latches → IsOf m i b a →
    value_of w (next_of m.latches a) ≡ turned b (latch_at (next_state m w) i)
value_after m w i b a well i_in is =
    let next : Lit = (latch_of m i).next in
    let found : next_of m.latches a ≡ along (is_negated a) next = next_found m.latches i a i_in (sym is.is_variable)
    (λ j j_in e. apart_at held m.latches j i no_latch (latches_once m well) (omega arith) i_in (λ s. omega (arith, s)) (e ∙ is.is_variable)) in
    ap (value_of w) found ∙ value_along w (is_negated a) next ∙ ap (λ c. turned c (value_of w next)) is.negation
    ∙ ap (turned b) (sym (get_or-map (λ (x : Latch). value_of w x.next) m.latches i no_latch false i_in))

set_from : (x b : Bool) → turned (not b) x ≡ true → x ≡ b
set_from x true e = e
set_from true false e = sym e
set_from false false e = refl

unset_from : (x b : Bool) → turned (not b) x ≡ false → x ≡ b → ⊥
unset_from true true e s = cc
unset_from false true e s = cc
unset_from true false e s = cc
unset_from false false e s = cc

-- the translation
abbrev pub translated : Parts → List StateLit → List Lit
translated m c = map (circuit_lit m.latches) c

of_at : (m : Parts) (c : List StateLit) (k : ℕ) (d : StateLit) → IsWellFormed m → IsStateClause m c → k < length c →
    IsOf m (get_or c k d).latch (not (get_or c k d).value) (circuit_lit m.latches (get_or c k d))
of_at m c k d well clause k_in = circuit_lit_of m (get_or c k d) well (clause.inside k d k_in)

pub over_latches : (m : Parts) (c : List StateLit) → IsWellFormed m → IsStateClause m c → IsOverLatches m (translated m c)
over_latches m c well clause = All-map (λ a. Contains (map held m.latches) (variable a)) (circuit_lit m.latches) c
    (λ k d k_in. subst (Contains (map held m.latches)) (sym ((of_at m c k d well clause k_in).is_variable))
    (Contains-map held m.latches (get_or c k d).latch no_latch (clause.inside k d k_in)))

-- where the translation holds, so does the clause
pub holds_from : (m : Parts) (w : List Bool) (c : List StateLit) → IsWellFormed m → IsStateClause m c → HoldsClause w (translated m c) → Holds (state_of m w) c
holds_from m w c well clause (k, x, lt, is, on) =
    let k_in : k < length c = omega (arith, lt, length-map c (circuit_lit m.latches)) in
    let a : StateLit = get_or c k no_state_lit in
    let at : circuit_lit m.latches a ≡ x = sym (get_or-map (circuit_lit m.latches) c k no_state_lit x k_in) ∙ is in (
      a,
      Contains-get_or c k no_state_lit k_in,
      set_from (latch_at (state_of m w) a.latch) a.value
          (sym (value_now m w a.latch (not a.value) (circuit_lit m.latches a) well (clause.inside k no_state_lit k_in) (of_at m c k no_state_lit well clause k_in)) ∙ ap (value_of w) at ∙ on),
    )

-- a literal that is false does not hold
denied_at : (c : List StateLit) (f : StateLit → Lit) (P : Lit → Type 0) (a : StateLit) → All P (map f c) → Contains c a → P (f a)
denied_at c f P a all (k, k_in, is) =
    subst (λ b. P (f b)) is (subst P (get_or-map f c k a (f a) k_in) (all k (f a) (omega (arith, k_in, length-map c f))))

of_found : (m : Parts) (c : List StateLit) (a : StateLit) → IsWellFormed m → IsStateClause m c → Contains c a → IsOf m a.latch (not a.value) (circuit_lit m.latches a)
of_found m c a well clause found = circuit_lit_of m a well (All-contains (λ (b : StateLit). b.latch < length m.latches) c a clause.inside found)

pub denies_now : (m : Parts) (w : List Bool) (c : List StateLit) → IsWellFormed m → IsStateClause m c → Denies w (translated m c) → Holds (state_of m w) c → ⊥
denies_now m w c well clause denies (a, found, set) =
    let a_in : a.latch < length m.latches = All-contains (λ (b : StateLit). b.latch < length m.latches) c a clause.inside found in
    unset_from (latch_at (state_of m w) a.latch) a.value
    (sym (value_now m w a.latch (not a.value) (circuit_lit m.latches a) well a_in (of_found m c a well clause found))
    ∙ denied_at c (circuit_lit m.latches) (λ b. value_of w b ≡ false) a denies found)
    set

pub denies_after : (m : Parts) (w : List Bool) (c : List StateLit) → IsWellFormed m → IsStateClause m c → DeniesNext m w (translated m c) → Holds (next_state m w) c → ⊥
denies_after m w c well clause denies (a, found, set) =
    let a_in : a.latch < length m.latches = All-contains (λ (b : StateLit). b.latch < length m.latches) c a clause.inside found in
    unset_from (latch_at (next_state m w) a.latch) a.value
    (sym (value_after m w a.latch (not a.value) (circuit_lit m.latches a) well a_in (of_found m c a well clause found))
    ∙ denied_at c (circuit_lit m.latches) (λ b. value_of w (next_of m.latches b) ≡ false) a denies found)
    set

-- no literal of the translation is repeated or opposed
apart : (m : Parts) (c : List StateLit) → IsWellFormed m → IsStateClause m c → AllPairs (λ u v. u ≢ v) (map variable (translated m c))
apart m c well clause i j d i_j j_lt same =
    let lits : List Lit = translated m c in
    let j_in : j < length c = omega (arith, j_lt, length-map lits variable, length-map c (circuit_lit m.latches)) in
    let i_in : i < length c = omega arith in
    let is : (k : ℕ) → k < length c → get_or (map variable lits) k d ≡ variable (latch_of m (get_or c k no_state_lit).latch).lit = λ k k_in.
    get_or-map variable lits k no_lit d (omega (arith, k_in, length-map c (circuit_lit m.latches)))
    ∙ ap variable (get_or-map (circuit_lit m.latches) c k no_state_lit no_lit k_in) ∙ (of_at m c k no_state_lit well clause k_in).is_variable in
    let order = clause.rising i j no_state_lit i_j j_in in
    apart_at held m.latches (get_or c i no_state_lit).latch (get_or c j no_state_lit).latch no_latch (latches_once m well) (clause.inside i no_state_lit i_in)
    (clause.inside j no_state_lit j_in) (λ e. omega (arith, e, order)) (sym (is i i_in) ∙ same ∙ is j j_in)

pub proper : (m : Parts) (c : List StateLit) → IsWellFormed m → IsStateClause m c → IsProper m (translated m c)
proper m c well clause = record { over = over_latches m c well clause; apart = apart m c well clause }

-- a rising clause is no longer than there are latches
rising_at : (c : List StateLit) (k : ℕ) (d : StateLit) → IsRising c → k < length c → k ≤ (get_or c k d).latch
rising_at c zero d rising k_in = omega arith
rising_at c (suc k) d rising k_in =
    let before = rising_at c k d rising (omega arith) in
    let order = rising k (suc k) d (omega arith) k_in in
    omega (arith, before, order)

clause_length : (m : Parts) (c : List StateLit) → IsStateClause m c → length c ≤ length m.latches
clause_length m c clause = elim (cases_lt 0 (length c)) [
  | inl some ↦
      let last_in : length c - 1 < length c = omega arith in
      let last = rising_at c (length c - 1) no_state_lit clause.rising last_in in
      let inside = clause.inside (length c - 1) no_state_lit last_in in
      omega (arith, last, inside)
  | inr none ↦ omega arith
]

pub is_clause : (m : Parts) (c : List StateLit) → IsWellFormed m → IsStateClause m c → IsClause m (translated m c)
is_clause m c well clause =
    let limit = well.limits.latches in
    record { over = over_latches m c well clause; short = omega (arith, limit, clause_length m c clause, length-map c (circuit_lit m.latches)) }

-- latches' literals are small enough to be negated
pub lits_small : (m : Parts) (latches : List Latch) → IsWellFormed m → latches ≡ m.latches → All (λ l. l.lit.0 < 4294967295) latches
lits_small m latches well are = subst (All (λ (l : Latch). l.lit.0 < 4294967295)) (sym are)
    (λ k d k_in. let small = well.limits.max_var in let range = latches_in_range m well k d k_in in omega (arith, small, range))

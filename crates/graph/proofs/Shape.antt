-- What fine literals say of the lists, and what is well formed.
use Rattle.std.proofs.Common.{◌≡◌, ◌≢◌, ℕ, ◌+◌, ◌*◌, ◌%◌, ◌≤◌, ◌⊎◌, List, [], ◌∷◌, ◌++◌, map, get_or, All, Contains, inl, inr, refl, sym, ◌∙◌, ap, subst, arith, Result, Ok, Err}
use Rattle.std.specs.Prelude.{flat_map, slice_index, IsErrAnd, IfErr, MatchResult, slice_get, Some, unwrap_or}
use Rattle.std.proofs.lemmas.Option.{slice_get_within, unwrap_or-slice_get}
use Rattle.std.proofs.lemmas.List.{get_or-map, length-map, get_or_default}
use Rattle.std.proofs.lemmas.List.Elements.{All-nil, All-cons, All-head, All-tail, All-append, All-map, All-contains, All-from_recursion, Contains-get_or}
use Rattle.base.specs.Witness.{witness}
use Rattle.graph.specs.declared.circuit.Lit.{Lit}
use Rattle.graph.specs.declared.circuit.Latch.{Latch}
use Rattle.graph.specs.declared.circuit.Gate.{Gate}
use Rattle.graph.specs.declared.circuit.Use.{Use}
use Rattle.graph.specs.declared.circuit.Use.TheVariants.{Defines, Mentions, Resets}
use Rattle.graph.specs.declared.circuit.Property.{Property}
use Rattle.graph.specs.declared.circuit.Property.TheVariants.{Bad, Justice, Output}
use Rattle.graph.specs.declared.parts.Parts.{Parts}
use Rattle.graph.specs.Circuits.{IsWatched, variable, defined, HasReset, defining, justice_literals}
use Rattle.graph.specs.declared.error.ReadError.{ReadError}
use Rattle.graph.specs.declared.error.ReadError.TheVariants.{TooLong, Header, Number, Limit, Byte, Truncated, LiteralRange, Defining, DefinedTwice, Undefined, Cyclic, Reset, Delta, Symbol, Counts, NoProperty, OutOfMemory}
use Rattle.graph.specs.WellFormed.{IsWellFormed, IsInLimits, HasNoCycle, used, IsOrder, IsModel, only_bad}
use Rattle.graph.specs.Uses.{uses_of, latch_uses, gate_uses, IsFine, IsFirst, IsOutOfRange, IsNotDefining, IsWrongReset}
use Rattle.graph.specs.Faults.{HasCause, HasFineLiterals, HasDefined, IsFirstFault, IsUndefined, IsLeast, LeadsIntoCycle, counts_of}
use Rattle.graph.specs.declared.definitions.Times.{Times}
use Rattle.graph.specs.declared.definitions.Times.TheVariants.{Never, Once, Again}
use Rattle.graph.specs.Tables.{Stands, IsCounted}
use Rattle.graph.proofs.Filled.{same_or_not}
use Rattle.graph.proofs.Evaluation.{held, IsOnce, once-right, All-left, All-right, All-unmap}
use Rattle.graph.proofs.Gates.{left}
use Rattle.graph.proofs.Ended.{order_no_cycle}
use Rattle.graph.proofs.Tabled.{HoldsOfUsed, holds_of_used}

pub All-flat_map : {X A : Type 0} (P : A → Type 0) (f : X → List A) (xs : List X) → All (λ x. All P (f x)) xs → All P (flat_map f xs)
All-flat_map P f [] all = All-nil P
All-flat_map P f (x ∷ xs) all = All-append P (f x) (flat_map f xs) (All-head (λ y. All P (f y)) x xs all) (All-flat_map P f xs (All-tail (λ y. All P (f y)) x xs all))

pub All-unflat_map : {X A : Type 0} (P : A → Type 0) (f : X → List A) (xs : List X) → All P (flat_map f xs) → All (λ x. All P (f x)) xs
All-unflat_map P f [] all = All-nil (λ y. All P (f y))
All-unflat_map P f (x ∷ xs) all =
    All-cons (λ y. All P (f y)) x xs (All-left P (f x) (flat_map f xs) all) (All-unflat_map P f xs (All-right P (f x) (flat_map f xs) all))

All-three : {X : Type 0} (P : X → Type 0) (a b c : X) → P a → P b → P c → All P (a ∷ b ∷ c ∷ [])
All-three P a b c p q r = All-cons P a (b ∷ c ∷ []) p (All-cons P b (c ∷ []) q (All-cons P c [] r (All-nil P)))

-- what holds of all literals, list by list
pub record UsesHold (P : Use → Type 0) (m : Parts) : Type 0 where
  pub inputs : All (λ a. P (Defines a)) m.inputs
  pub latches : All (λ l. All P (latch_uses l)) m.latches
  pub outputs : All (λ a. P (Mentions a)) m.outputs
  pub bad : All (λ a. P (Mentions a)) m.bad
  pub constraints : All (λ a. P (Mentions a)) m.constraints
  pub justice : All (λ a. P (Mentions a)) (justice_literals m.justice)
  pub fairness : All (λ a. P (Mentions a)) m.fairness
  pub gates : All (λ g. All P (gate_uses g)) m.gates

pub uses_hold : (P : Use → Type 0) (m : Parts) → All P (uses_of m) → UsesHold P m
uses_hold P m h =
    let seven = All-left P _ (flat_map gate_uses m.gates) h in
    let six = All-left P _ (map (λ a. Mentions a) m.fairness) seven in
    let five = All-left P _ (map (λ a. Mentions a) (justice_literals m.justice)) six in
    let four = All-left P _ (map (λ a. Mentions a) m.constraints) five in
    let three = All-left P _ (map (λ a. Mentions a) m.bad) four in
    let two = All-left P _ (map (λ a. Mentions a) m.outputs) three in
    record {
      inputs = All-unmap P (λ a. Defines a) m.inputs (All-left P _ (flat_map latch_uses m.latches) two);
      latches = All-unflat_map P latch_uses m.latches (All-right P (map (λ a. Defines a) m.inputs) (flat_map latch_uses m.latches) two);
      outputs = All-unmap P (λ a. Mentions a) m.outputs (All-right P _ (map (λ a. Mentions a) m.outputs) three);
      bad = All-unmap P (λ a. Mentions a) m.bad (All-right P _ (map (λ a. Mentions a) m.bad) four);
      constraints = All-unmap P (λ a. Mentions a) m.constraints (All-right P _ (map (λ a. Mentions a) m.constraints) five);
      justice = All-unmap P (λ a. Mentions a) (justice_literals m.justice) (All-right P _ (map (λ a. Mentions a) (justice_literals m.justice)) six);
      fairness = All-unmap P (λ a. Mentions a) m.fairness (All-right P _ (map (λ a. Mentions a) m.fairness) seven);
      gates = All-unflat_map P gate_uses m.gates (All-right P _ (flat_map gate_uses m.gates) h);
    }

pub hold_uses : (P : Use → Type 0) (m : Parts) → UsesHold P m → All P (uses_of m)
hold_uses P m h =
    All-append P _ (flat_map gate_uses m.gates)
    (All-append P _ (map (λ a. Mentions a) m.fairness)
    (All-append P _ (map (λ a. Mentions a) (justice_literals m.justice))
    (All-append P _ (map (λ a. Mentions a) m.constraints)
    (All-append P _ (map (λ a. Mentions a) m.bad)
    (All-append P _ (map (λ a. Mentions a) m.outputs)
    (All-append P (map (λ a. Defines a) m.inputs) (flat_map latch_uses m.latches) (All-map P (λ a. Defines a) m.inputs h.inputs) (All-flat_map P latch_uses m.latches h.latches))
    (All-map P (λ a. Mentions a) m.outputs h.outputs))
    (All-map P (λ a. Mentions a) m.bad h.bad))
    (All-map P (λ a. Mentions a) m.constraints h.constraints))
    (All-map P (λ a. Mentions a) (justice_literals m.justice) h.justice))
    (All-map P (λ a. Mentions a) m.fairness h.fairness))
    (All-flat_map P gate_uses m.gates h.gates)

abbrev pub IsDefining : ℕ → Lit → Type 0
IsDefining max a = (2 ≤ a.0) × (a.0 % 2 ≡ 0) × (a.0 ≤ 2 * max + 1)

-- what fine literals say in the words of a well-formed circuit
pub record FineLists (m : Parts) : Type 0 where
  pub defines : All (IsDefining m.max_var) (defining m)
  pub mentions : All (λ a. a.0 ≤ 2 * m.max_var + 1) (used m)
  pub resets : All HasReset m.latches

pub fine_lists : (m : Parts) → All (IsFine m.max_var) (uses_of m) → FineLists m
fine_lists m fine =
    let h : UsesHold (IsFine m.max_var) m = uses_hold (IsFine m.max_var) m fine in
    let R : Lit → Type 0 = λ a. a.0 ≤ 2 * m.max_var + 1 in
    record {
      defines =
          All-append (IsDefining m.max_var) (m.inputs ++ map (λ l. l.lit) m.latches) (map (λ g. g.lhs) m.gates)
          (All-append (IsDefining m.max_var) m.inputs (map (λ l. l.lit) m.latches) h.inputs
          (All-map (IsDefining m.max_var) (λ l. l.lit) m.latches (λ k d k_in. h.latches k d k_in 0 (Resets d) (omega arith))))
          (All-map (IsDefining m.max_var) (λ g. g.lhs) m.gates (λ k d k_in. h.gates k d k_in 0 (Defines d.lhs) (omega arith)));
      mentions =
          All-append R _ (map (λ g. g.rhs1) m.gates)
          (All-append R _ (map (λ g. g.rhs0) m.gates)
          (All-append R _ m.fairness
          (All-append R _ (justice_literals m.justice)
          (All-append R _ m.constraints
          (All-append R _ m.bad
          (All-append R (map (λ l. l.next) m.latches) m.outputs
          (All-map R (λ l. l.next) m.latches (λ k d k_in. h.latches k d k_in 1 (Resets d) (omega arith)))
          h.outputs)
          h.bad)
          h.constraints)
          h.justice)
          h.fairness)
          (All-map R (λ g. g.rhs0) m.gates (λ k d k_in. h.gates k d k_in 1 (Defines d.lhs) (omega arith))))
          (All-map R (λ g. g.rhs1) m.gates (λ k d k_in. h.gates k d k_in 2 (Defines d.lhs) (omega arith)));
      resets = λ k d k_in. h.latches k d k_in 2 (Resets d) (omega arith);
    }

-- the variables of fine literals
pub defining_small : (m : Parts) → All (IsFine m.max_var) (uses_of m) → All (λ a. variable a ≤ m.max_var) (defining m)
defining_small m fine k d k_in = let h = (fine_lists m fine).defines k d k_in in let most : (get_or (defining m) k d).0 ≤ 2 * m.max_var + 1 = h.2 in omega (arith, most)

pub used_small : (m : Parts) → All (IsFine m.max_var) (uses_of m) → All (λ a. variable a ≤ m.max_var) (used m)
used_small m fine k d k_in = let most : (get_or (used m) k d).0 ≤ 2 * m.max_var + 1 = (fine_lists m fine).mentions k d k_in in omega (arith, most)

pub gates_small : (m : Parts) → All (IsFine m.max_var) (uses_of m) → All (λ g. (variable g.lhs ≤ m.max_var) × (variable g.rhs0 ≤ m.max_var) × (variable g.rhs1 ≤ m.max_var)) m.gates
gates_small m fine k d k_in =
    let h = (uses_hold (IsFine m.max_var) m fine).gates k d k_in in
    let a : (get_or m.gates k d).lhs.0 ≤ 2 * m.max_var + 1 = (h 0 (Defines d.lhs) (omega arith)).2 in
    let b : (get_or m.gates k d).rhs0.0 ≤ 2 * m.max_var + 1 = h 1 (Defines d.lhs) (omega arith) in
    let e : (get_or m.gates k d).rhs1.0 ≤ 2 * m.max_var + 1 = h 2 (Defines d.lhs) (omega arith) in
    (omega (arith, a), omega (arith, b), omega (arith, e))

-- a literal is the constant's or defined, unless its variable is used and not defined
pub all_defined : (m : Parts) → ((v : ℕ) → Contains (defined m) v ⊎ (Contains (defined m) v → ⊥)) → ((v : ℕ) → IsUndefined (used m) (defined m) v → ⊥) →
    All (λ a. (variable a ≡ 0) ⊎ Contains (defined m) (variable a)) (used m)
all_defined m decided known k d k_in = elim (same_or_not (variable (get_or (used m) k d)) 0) [
  | inl constant ↦ inl constant
  | inr proper ↦ elim (decided (variable (get_or (used m) k d))) [
    | inl found ↦ inr found
    | inr missing ↦ absurd (known (variable (get_or (used m) k d)) (
      proper,
      subst (Contains (map variable (used m))) (get_or-map variable (used m) k d 0 k_in) (Contains-get_or (map variable (used m)) k 0 (omega (arith, length-map (used m) variable))),
      missing,
    ))
  ]
]

-- a table that counts decides what is defined
decides : (vs : List ℕ) (v : ℕ) (t : Times) → Stands vs v t → Contains vs v ⊎ (Contains vs v → ⊥)
decides vs v Never h = inr h
decides vs v Once h = inl h.0
decides vs v Again (i, j, i_j, j_in, at_i, at_j) = inl (j, j_in, get_or_default vs j v 0 j_in ∙ at_j)

pub counted_decides : (table : List Times) (vs : List ℕ) → IsCounted table vs → (v : ℕ) → Contains vs v ⊎ (Contains vs v → ⊥)
counted_decides table vs h v = decides vs v (get_or table v Never) (h v)

-- the tests passed so far
pub fine_so_far : (m : Parts) → IsInLimits m → All (IsFine m.max_var) (uses_of m) → HasFineLiterals m
fine_so_far m limits fine = record { limits = limits; fine = fine }

pub well_formed_from : (m : Parts) → HasDefined m → HasNoCycle m.gates → IsWellFormed m
well_formed_from m h no_cycle =
    let literals : HasFineLiterals m = h.distinct.literals in
    let lists : FineLists m = fine_lists m literals.fine in
    record {
      limits = literals.limits;
      defining_even = λ k d k_in. let p = lists.defines k d k_in in (p.0, p.1);
      defining_in_range = λ k d k_in. let p = lists.defines k d k_in in p.2;
      used_in_range = lists.mentions;
      resets = lists.resets;
      defined_once = h.distinct.once;
      used_defined = h.used_defined;
      no_cycle = no_cycle;
    }

-- the first fault of a literal is a cause
pub literal_cause : (m : Parts) (e : ReadError) → IsInLimits m → IsFirstFault m.max_var (uses_of m) e → HasCause m e
literal_cause m (LiteralRange k) limits h = (limits, h)
literal_cause m (Defining k) limits h = (limits, h)
literal_cause m (Reset k) limits h = (limits, h)
literal_cause m TooLong limits h = absurd h
literal_cause m (Header p) limits h = absurd h
literal_cause m (Number p) limits h = absurd h
literal_cause m (Limit p) limits h = absurd h
literal_cause m (Byte p) limits h = absurd h
literal_cause m (Truncated p) limits h = absurd h
literal_cause m (DefinedTwice v) limits h = absurd h
literal_cause m (Undefined v) limits h = absurd h
literal_cause m (Cyclic v) limits h = absurd h
literal_cause m (Delta p) limits h = absurd h
literal_cause m (Symbol p) limits h = absurd h
literal_cause m (Counts p) limits h = absurd h
literal_cause m (NoProperty n) limits h = absurd h
literal_cause m (OutOfMemory refused) limits h = absurd h

pub cause_told : {X : Type 0} (m : Parts) (r : Result X ReadError) (e : ReadError) → IsErrAnd r (λ x. x ≡ e) → HasCause m e → IfErr r (HasCause m)
cause_told m (Ok x) e same h = absurd same
cause_told m (Err x) e same h = subst (HasCause m) (sym same) h

-- an element of a list of which all is well
mid : {X : Type 0} (P : X → Type 0) (before after : List X) (x : X) → All P (before ++ x ∷ after) → P x
mid P before after x h = All-head P x after (All-right P before (x ∷ after) h)

-- a literal that is not fine
not_fine : (m : Parts) (k : ℕ) (F : Use → Type 0) → ((u : Use) → IsFine m.max_var u → F u → ⊥) → IsFirst m.max_var (uses_of m) k F → All (IsFine m.max_var) (uses_of m) → ⊥
not_fine m k F apart h fine =
    apart h.use_here (mid (IsFine m.max_var) h.before h.after h.use_here (subst (All (IsFine m.max_var)) h.whole fine)) h.fault

fine_in_range : (max : ℕ) (u : Use) → IsFine max u → IsOutOfRange max u → ⊥
fine_in_range max (Defines a) fine out = let most : a.0 ≤ 2 * max + 1 = fine.2 in omega (arith, most, out)
fine_in_range max (Mentions a) fine out = omega (arith, fine, out)
fine_in_range max (Resets l) fine out = out

fine_defining : (max : ℕ) (u : Use) → IsFine max u → IsNotDefining max u → ⊥
fine_defining max (Defines a) fine (in_range, odd) = let even : a.0 % 2 ≡ 0 = fine.1 in let least : 2 ≤ a.0 = fine.0 in
    elim odd [ inl is_odd ↦ omega (arith, even, is_odd) | inr low ↦ omega (arith, least, low) ]
fine_defining max (Mentions a) fine not = not
fine_defining max (Resets l) fine not = not

fine_reset : (max : ℕ) (u : Use) → IsFine max u → IsWrongReset u → ⊥
fine_reset max (Defines a) fine wrong = wrong
fine_reset max (Mentions a) fine wrong = wrong
fine_reset max (Resets l) fine wrong = wrong fine

-- the literals of a well-formed circuit are fine
pub well_formed_fine : (m : Parts) → IsWellFormed m → All (IsFine m.max_var) (uses_of m)
well_formed_fine m h =
    let D : Lit → Type 0 = IsDefining m.max_var in
    let R : Lit → Type 0 = λ a. a.0 ≤ 2 * m.max_var + 1 in
    let defines : All D (defining m) = λ k d k_in. let p = h.defining_even k d k_in in (p.0, p.1, h.defining_in_range k d k_in) in
    let front : All D (m.inputs ++ map (λ l. l.lit) m.latches) = All-left D (m.inputs ++ map (λ l. l.lit) m.latches) (map (λ g. g.lhs) m.gates) defines in
    let latches = All-unmap D (λ l. l.lit) m.latches (All-right D m.inputs (map (λ l. l.lit) m.latches) front) in
    let lefts = All-unmap D (λ g. g.lhs) m.gates (All-right D (m.inputs ++ map (λ l. l.lit) m.latches) (map (λ g. g.lhs) m.gates) defines) in
    let used_here : HoldsOfUsed R m = holds_of_used R m h.used_in_range in
    hold_uses (IsFine m.max_var) m (record {
      inputs = All-left D m.inputs (map (λ l. l.lit) m.latches) front;
      latches = λ k d k_in. let l : Latch = get_or m.latches k d in All-three (IsFine m.max_var) (Defines l.lit) (Mentions l.next) (Resets l) (latches k d k_in) (used_here.next k d k_in) (h.resets k d k_in);
      outputs = used_here.outputs;
      bad = used_here.bad;
      constraints = used_here.constraints;
      justice = used_here.justice;
      fairness = used_here.fairness;
      gates = λ k d k_in. let g : Gate = get_or m.gates k d in All-three (IsFine m.max_var) (Defines g.lhs) (Mentions g.rhs0) (Mentions g.rhs1) (lefts k d k_in) (used_here.left k d k_in) (used_here.right k d k_in);
    })

counts_in_limits : (m : Parts) → IsInLimits m → All (λ n. n ≤ 4194303) (counts_of m)
counts_in_limits m h =
    let P : ℕ → Type 0 = λ n. n ≤ 4194303 in
    All-from_recursion P (counts_of m) (h.max_var, (h.inputs, (h.latches, (h.outputs, (h.gates, (h.bad, (h.constraints, (h.justice, (h.fairness, (h.justice_sum, tt))))))))))

-- a cause refuses the parts
pub cause_refuses : (m : Parts) (e : ReadError) → HasCause m e → e ≢ OutOfMemory witness → IsWellFormed m → ⊥
cause_refuses m (Limit k) h not well = let fits : slice_index (counts_of m) k ≤ 4194303 = counts_in_limits m well.limits k 0 h.inside in let over = h.over in omega (arith, fits, over)
cause_refuses m (LiteralRange k) h not well = not_fine m k (IsOutOfRange m.max_var) (fine_in_range m.max_var) h.1 (well_formed_fine m well)
cause_refuses m (Defining k) h not well = not_fine m k (IsNotDefining m.max_var) (fine_defining m.max_var) h.1 (well_formed_fine m well)
cause_refuses m (Reset k) h not well = not_fine m k IsWrongReset (fine_reset m.max_var) h.1 (well_formed_fine m well)
cause_refuses m (DefinedTwice v) (fine, ((i, j, i_j, j_in, at_i, at_j), least)) not well = well.defined_once i j 0 i_j j_in (at_i ∙ sym at_j)
cause_refuses m (Undefined v) (fine, ((proper, mentioned, missing), least)) not well =
    elim (All-contains (λ u. (u ≡ 0) ⊎ Contains (defined m) u) (map variable (used m)) v (All-map (λ u. (u ≡ 0) ⊎ Contains (defined m) u) variable (used m) well.used_defined) mentioned) [
      | inl constant ↦ proper constant
      | inr found ↦ missing found
    ]
cause_refuses m (Cyclic v) (fine, ((u, leads, cycle), least)) not well = well.no_cycle u cycle
cause_refuses m (OutOfMemory refused) h not well = not refl
cause_refuses m TooLong h not well = h
cause_refuses m (Header p) h not well = h
cause_refuses m (Number p) h not well = h
cause_refuses m (Byte p) h not well = h
cause_refuses m (Truncated p) h not well = h
cause_refuses m (Delta p) h not well = h
cause_refuses m (Symbol p) h not well = h
cause_refuses m (Counts p) h not well = h
cause_refuses m (NoProperty n) h not well = h

pub refused_exact : {X : Type 0} (m : Parts) (r : Result X ReadError) → IfErr r (HasCause m) → IfErr r (λ e. e ≢ OutOfMemory witness → IsWellFormed m → ⊥)
refused_exact m (Ok x) h = h
refused_exact m (Err e) h = cause_refuses m e h

-- what the search for an order found
pub model_found : {V : Type 0} (items : V → List ℕ) (m : Parts) (r : Result V ℕ) (order : V) → HasDefined m →
    MatchResult r (λ v. IsOrder m.gates (items v)) (IsLeast (LeadsIntoCycle m.gates)) → r ≡ Ok order → IsModel m (items order)
model_found items m r order checked found same =
    let ordered : IsOrder m.gates (items order) = subst (λ q. MatchResult q (λ v. IsOrder m.gates (items v)) (IsLeast (LeadsIntoCycle m.gates))) same found in
    let once : IsOnce (map left m.gates) = once-right (map variable m.inputs ++ map held m.latches) (map left m.gates) checked.distinct.once in
    record { well_formed = well_formed_from m checked (λ v cycle. order_no_cycle m.gates (items order) once ordered v (v, cycle, cycle)); ordered = ordered }

pub cycle_told : {V : Type 0} (items : V → List ℕ) (m : Parts) (r : Result V ℕ) (v : ℕ) → HasDefined m →
    MatchResult r (λ w. IsOrder m.gates (items w)) (IsLeast (LeadsIntoCycle m.gates)) → r ≡ Err v → HasCause m (Cyclic v)
cycle_told items m r v checked found same =
    (checked, subst (λ q. MatchResult q (λ w. IsOrder m.gates (items w)) (IsLeast (LeadsIntoCycle m.gates))) same found)

pub exact_told : {X : Type 0} (m : Parts) (r : Result X ReadError) (e : ReadError) → IsErrAnd r (λ x. x ≡ e) → HasCause m e → IfErr r (λ x. x ≢ OutOfMemory witness → IsWellFormed m → ⊥)
exact_told m r e same h = refused_exact m r (cause_told m r e same h)

get_or_at : (xs : List Lit) (n : ℕ) (a : Lit) → slice_get xs n ≡ Some a → get_or xs n a ≡ a
get_or_at xs n a found = sym (unwrap_or-slice_get xs n a) ∙ ap (λ o. unwrap_or o a) found

-- what holds of all used literals holds of them where one bad literal is alone
-- what holds of all literals that are used holds of the one that is watched
watched_holds : (P : Lit → Type 0) (m : Parts) (p : Property) (a : Lit) → IsWatched m p a → HoldsOfUsed P m → P a
watched_holds P m (Bad n) a watched u = subst P (get_or_at m.bad n a watched) (u.bad n a (slice_get_within m.bad n a watched))
watched_holds P m (Justice n) a watched u = absurd watched
watched_holds P m (Output n) a watched u = subst P (get_or_at m.outputs n a watched.1) (u.outputs n a (slice_get_within m.outputs n a watched.1))

only_bad_holds : (P : Lit → Type 0) (m : Parts) (p : Property) (a : Lit) → IsWatched m p a → All P (used m) → All P (used (only_bad m a))
only_bad_holds P m p a watched h =
    let u : HoldsOfUsed P m = holds_of_used P m h in
    let bad : P a = watched_holds P m p a watched u in
    All-append P _ (map (λ g. g.rhs1) m.gates)
    (All-append P _ (map (λ g. g.rhs0) m.gates)
    (All-append P _ []
    (All-append P _ []
    (All-append P _ m.constraints
    (All-append P _ (a ∷ [])
    (All-append P (map (λ l. l.next) m.latches) [] (All-map P (λ l. l.next) m.latches u.next) (All-nil P))
    (All-cons P a [] bad (All-nil P)))
    u.constraints)
    (All-nil P))
    (All-nil P))
    (All-map P (λ g. g.rhs0) m.gates u.left))
    (All-map P (λ g. g.rhs1) m.gates u.right)

-- the same circuit with one bad literal alone
pub only_bad_well_formed : (m : Parts) (p : Property) (a : Lit) → IsWatched m p a → IsWellFormed m → IsWellFormed (only_bad m a)
only_bad_well_formed m p a watched h =
    let R : Lit → Type 0 = λ b. b.0 ≤ 2 * m.max_var + 1 in
    let K : Lit → Type 0 = λ b. (variable b ≡ 0) ⊎ Contains (defined m) (variable b) in
    record {
      limits = let l : IsInLimits m = h.limits in record {
        max_var = l.max_var;
        inputs = l.inputs;
        latches = l.latches;
        outputs = omega arith;
        gates = l.gates;
        bad = omega arith;
        constraints = l.constraints;
        justice = omega arith;
        fairness = omega arith;
        justice_sum = omega arith;
      };
      defining_even = h.defining_even;
      defining_in_range = h.defining_in_range;
      used_in_range = only_bad_holds R m p a watched h.used_in_range;
      resets = h.resets;
      defined_once = h.defined_once;
      used_defined = only_bad_holds K m p a watched h.used_defined;
      no_cycle = h.no_cycle;
    }

pub only_bad_model : (m whole : Parts) (order copied : List ℕ) (p : Property) (a : Lit) → IsWatched m p a → IsModel m order → whole ≡ only_bad m a → copied ≡ order → IsModel whole copied
only_bad_model m whole order copied p a watched h same same_order =
    subst (λ q. IsModel q copied) (sym same) (subst (λ o. IsModel (only_bad m a) o) (sym same_order)
    (record { well_formed = only_bad_well_formed m p a watched h.well_formed; ordered = h.ordered }))

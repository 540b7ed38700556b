-- What loading, growing and adding leave in a solver.
use Rattle.std.proofs.Common.{◌≡◌, ◌≢◌, ℕ, zero, suc, ◌+◌, ◌<◌, ◌≤◌, Bool, true, false, not, if◌then◌else◌, Some, Result, Ok, Err, OnOk, IfOk, inl, inr, List, [], ◌∷◌, ◌++◌, append_assoc, length, map, get_or, All, Contains, ℤ, pos, neg_ℤ, refl, sym, ◌∙◌, ap, subst, arith}
use Rattle.std.specs.Prelude.{flat_map}
use Rattle.std.proofs.lemmas.Bool.{cases_eq, eq-eqb, ne_eqb, false≢true}
use Rattle.std.proofs.lemmas.List.{map-append}
use Rattle.std.proofs.lemmas.List.Elements.{All-cons, All-nil, All-append, All-map, All-push, All-weaker, Contains-get_or, Contains-append_left, Contains-append_right, Contains-push}
use Rattle.graph.specs.declared.circuit.Lit.{Lit}
use Rattle.graph.specs.declared.circuit.Gate.{Gate}
use Rattle.graph.specs.declared.parts.Parts.{Parts}
use Rattle.graph.specs.Circuits.{variable, place}
use Rattle.graph.specs.WellFormed.{IsWellFormed}
use Rattle.graph.proofs.Shape.{All-flat_map}
use Rattle.graph.proofs.Tabled.{holds_of_used}
use Rattle.lrat.specs.Literals.{IsLiteral}
use Rattle.lrat.specs.Shared.{unit_clauses}
use Rattle.cnf.specs.Clauses.{signed, is_negated, literal, denial, truth_clause, gate_clauses, frame_at, time_clauses}
use Rattle.cnf.specs.Formulas.{IsInRange, IsGateIn}
use Rattle.cnf.proofs.Formed.{IsKnown, literal_from, denial_from, allows_to}
use Rattle.cnf.proofs.Frames.{gates_in_range}
use Rattle.cones.specs.Marks.{IsMarked}
use Rattle.cones.specs.Partial.{HasGates, HasConstraints}
use Rattle.cones.specs.Reach.{IsGateTable}
use Rattle.cones.proofs.Assigned.{contains_flat}
use Rattle.states.specs.declared.state_lit.StateLit.{StateLit}
use Rattle.ic3_step.specs.declared.cone.Cone.{Cone}
use Rattle.ic3_step.specs.States.{Guarded}
use Rattle.ic3_step.specs.Queries.{IsUnasked, ArePartGates}
use Rattle.ic3_step.specs.Contents.{Contents, guard_literal, latch_literal, state_literal, guarded_clause, IsGrown, IsMoreOf, IsLoaded, HasGuards}
use Rattle.ic3_step.specs.Readings.{assumptions_of}
use Rattle.states.proofs.Valued.{known_in_range}
use Rattle.ic3_step.proofs.Latched.{latch_literal_known, to_map}

guard_is : (n k : ℕ) → k ≢ 0 → k ≤ n → IsLiteral n (pos k)
guard_is n zero ne le = absurd (ne refl)
guard_is n (suc k) ne le = (λ e. let z : suc k ≡ 0 = cc in ne z, le)

not_guard_is : (n k : ℕ) → k ≢ 0 → k ≤ n → IsLiteral n (neg_ℤ (pos k))
not_guard_is n zero ne le = absurd (ne refl)
not_guard_is n (suc k) ne le = (λ e. cc, le)

pub lit_is : (m : Parts) (n : ℕ) (a : Lit) → IsWellFormed m → m.max_var + 1 ≤ n → IsKnown m a → IsLiteral n (literal m.max_var 0 a)
lit_is m n a well le known = literal_from (λ u. u ≤ n) m 0 a (allows_to m 0 n well (omega arith)) known

not_lit_is : (m : Parts) (n : ℕ) (a : Lit) → IsWellFormed m → m.max_var + 1 ≤ n → IsKnown m a → IsLiteral n (denial m.max_var 0 a)
not_lit_is m n a well le known = denial_from (λ u. u ≤ n) m 0 a (allows_to m 0 n well (omega arith)) known

either_is : (n : ℕ) (b : Bool) (k l : ℤ) → IsLiteral n k → IsLiteral n l → IsLiteral n (if b then k else l)
either_is n true k l p q = p
either_is n false k l p q = q

state_literal_is : (m : Parts) (n : ℕ) (a : StateLit) → IsWellFormed m → m.max_var + 1 ≤ n → IsLiteral n (state_literal m a)
state_literal_is m n a well le =
    let known = latch_literal_known m a.latch in
    either_is n a.value (literal m.max_var 0 (latch_literal m a.latch)) (denial m.max_var 0 (latch_literal m a.latch)) (lit_is m n (latch_literal m a.latch) well le known)
    (not_lit_is m n (latch_literal m a.latch) well le known)

-- the literals of a guarded clause are the solver's
pub guarded_literals : (m : Parts) (g : Guarded) (n : ℕ) → IsWellFormed m → m.max_var + 2 + g.guard ≤ n → All (IsLiteral n) (guarded_clause m g)
guarded_literals m g n well fits =
    All-cons (IsLiteral n) (neg_ℤ (guard_literal m g.guard)) (map (state_literal m) g.clause)
    (not_guard_is n (m.max_var + 2 + g.guard) (λ e. omega (arith, e)) fits)
    (All-map (IsLiteral n) (state_literal m) g.clause (λ k d k_in. state_literal_is m n (get_or g.clause k d) well (omega (arith, fits))))

-- there is room for the guard
pub guard_fits : (m : Parts) (g : ℕ) (t : Contents) → HasGuards m (g ∷ []) t → m.max_var + 2 + g ≤ t.vars
guard_fits m g t has =
    let vars = has.loaded.vars in
    let below : g < has.room = has.below 0 0 (omega arith) in
    omega (arith, vars, below)

-- what is assumed is the solver's
pub assumptions_literals : (m : Parts) (guards : List ℕ) (lits : List Lit) (t : Contents) → IsWellFormed m → HasGuards m guards t → All (IsKnown m) lits →
    All (IsLiteral t.vars) (assumptions_of m guards lits)
assumptions_literals m guards lits t well has known =
    let vars = has.loaded.vars in
    All-append (IsLiteral t.vars) (map (guard_literal m) guards) (map (literal m.max_var 0) lits)
    (All-map (IsLiteral t.vars) (guard_literal m) guards
    (λ k d k_in. let below = has.below k d k_in in guard_is t.vars (m.max_var + 2 + get_or guards k d) (λ e. omega (arith, e)) (omega (arith, vars, below))))
    (All-map (IsLiteral t.vars) (literal m.max_var 0) lits (λ k d k_in. lit_is m t.vars (get_or lits k d) well (omega (arith, vars)) (known k d k_in)))

-- literals in range are the solver's
signed_is : (k : ℕ) (b : Bool) (v : ℕ) → v ≢ 0 → v ≤ k → IsLiteral k (signed b v)
signed_is k true v nz le = not_guard_is k v nz le
signed_is k false v nz le = guard_is k v nz le

pub truth_is : (n k : ℕ) → n + 1 ≤ k → IsLiteral k (pos (0 + n + 1))
truth_is n k le = guard_is k (0 + n + 1) (λ e. omega (arith, e)) (omega (arith, le))

pub literal_is : (n k : ℕ) (a : Lit) → IsInRange n a → n + 1 ≤ k → IsLiteral k (literal n 0 a)
literal_is n k a range le = elim (cases_eq (variable a) 0) [
  | inl z ↦ rw (eq-eqb (variable a) 0 z) (signed_is k (not (is_negated a)) (0 + n + 1) (λ e. omega (arith, e)) (omega (arith, le)))
  | inr nz ↦ rw (ne_eqb (variable a) 0 nz) (signed_is k (is_negated a) (0 + variable a) (λ e. omega (arith, nz, e)) (omega (arith, range, le)))
]

pub denial_is : (n k : ℕ) (a : Lit) → IsInRange n a → n + 1 ≤ k → IsLiteral k (denial n 0 a)
denial_is n k a range le = elim (cases_eq (variable a) 0) [
  | inl z ↦ rw (eq-eqb (variable a) 0 z) (signed_is k (is_negated a) (0 + n + 1) (λ e. omega (arith, e)) (omega (arith, le)))
  | inr nz ↦ rw (ne_eqb (variable a) 0 nz) (signed_is k (not (is_negated a)) (0 + variable a) (λ e. omega (arith, nz, e)) (omega (arith, range, le)))
]

-- at the first time
pub literal_at : (n o k : ℕ) (a : Lit) (x : ℤ) → o ≡ 0 → IsInRange n a → n + 1 ≤ k → x ≡ literal n o a → IsLiteral k x
literal_at n o k a x first range le is = subst (IsLiteral k) (sym is) (subst (λ q. IsLiteral k (literal n q a)) (sym first) (literal_is n k a range le))

pub denial_at : (n o k : ℕ) (a : Lit) (x : ℤ) → o ≡ 0 → IsInRange n a → n + 1 ≤ k → x ≡ denial n o a → IsLiteral k x
denial_at n o k a x first range le is = subst (IsLiteral k) (sym is) (subst (λ q. IsLiteral k (denial n q a)) (sym first) (denial_is n k a range le))

pub two_are : (k : ℕ) (x y : ℤ) → IsLiteral k x → IsLiteral k y → All (IsLiteral k) (x ∷ y ∷ [])
two_are k x y p q = All-cons (IsLiteral k) x (y ∷ []) p (All-cons (IsLiteral k) y [] q (All-nil (IsLiteral k)))

pub three_are : (k : ℕ) (x y z : ℤ) → IsLiteral k x → IsLiteral k y → IsLiteral k z → All (IsLiteral k) (x ∷ y ∷ z ∷ [])
three_are k x y z p q r = All-cons (IsLiteral k) x (y ∷ z ∷ []) p (two_are k y z q r)

-- gates of the circuit are in range
pub listed_in_range : (m : Parts) (gates : List Gate) → IsWellFormed m → All (Contains m.gates) gates → All (IsGateIn m.max_var) gates
listed_in_range m gates well among k d k_in =
    let found : Contains m.gates (get_or gates k d) = among k d k_in in
    subst (IsGateIn m.max_var) found.2 (gates_in_range m well found.0 (get_or gates k d) found.1)

-- so are the constraints, of which each is known
pub constraints_known : (m : Parts) → IsWellFormed m → All (IsKnown m) m.constraints
constraints_known m well = (holds_of_used (IsKnown m) m well.used_defined).constraints

pub constraints_in_range : (m : Parts) → IsWellFormed m → All (IsInRange m.max_var) m.constraints
constraints_in_range m well = known_in_range m m.constraints well (constraints_known m well)

-- known literals are small
pub known_small : (m : Parts) (lits : List Lit) → IsWellFormed m → All (IsKnown m) lits → All (λ a. variable a ≤ m.max_var) lits
known_small m lits well known k d k_in = let range = known_in_range m lits well known k d k_in in omega (arith, range)

-- their clauses are the circuit's
pub listed_clauses : (m : Parts) (gates : List Gate) → All (Contains m.gates) gates → All (Contains (frame_at m 0)) (flat_map (gate_clauses m.max_var 0) gates)
listed_clauses m gates among = All-flat_map (Contains (frame_at m 0)) (gate_clauses m.max_var 0) gates
    (λ k d k_in i c i_in.
    let g : Gate = get_or gates k d in
    Contains-append_right (truth_clause m.max_var 0 ∷ []) (flat_map (gate_clauses m.max_var 0) m.gates) (get_or (gate_clauses m.max_var 0 g) i c)
    (contains_flat (gate_clauses m.max_var 0) m.gates g (get_or (gate_clauses m.max_var 0 g) i c) (among k d k_in) (Contains-get_or (gate_clauses m.max_var 0 g) i c i_in)))

-- what clauses have, more of them have
gates_more : (m : Parts) (C : ℕ → Type 0) (cs more : List (List ℤ)) → HasGates m C cs → HasGates m C (cs ++ more)
gates_more m C cs more has = record {
  truth = Contains-append_left cs more (truth_clause m.max_var 0) has.truth;
  gates = λ k d k_in on. All-weaker (Contains cs) (Contains (cs ++ more)) (λ c found. Contains-append_left cs more c found) (gate_clauses m.max_var 0 (get_or m.gates k d)) (has.gates k d k_in on);
}

constraints_more : (m : Parts) (C D : ℕ → Type 0) (cs more : List (List ℤ)) → ((v : ℕ) → C v → D v) → HasConstraints m C cs → HasConstraints m D (cs ++ more)
constraints_more m C D cs more kept has k d k_in =
    let one = has k d k_in in
    (kept (variable (get_or m.constraints k d)) one.0, Contains-append_left cs more (literal m.max_var 0 (get_or m.constraints k d) ∷ []) one.1)

among_more : (cs ds more : List (List ℤ)) → All (Contains ds) cs → All (Contains (ds ++ more)) cs
among_more cs ds more among = All-weaker (Contains ds) (Contains (ds ++ more)) (λ c found. Contains-append_left ds more c found) cs among

guarded_more : (m : Parts) (gs : List Guarded) (cs more : List (List ℤ)) → All (λ (g : Guarded). Contains cs (guarded_clause m g)) gs → All (λ (g : Guarded). Contains (cs ++ more) (guarded_clause m g)) gs
guarded_more m gs cs more has k d k_in = Contains-append_left cs more (guarded_clause m (get_or gs k d)) (has k d k_in)

some_same : (x y : Cone) → Some x ≡ Some y → x ≡ y
some_same x y e = cc

-- the marks stay where the cone is asked about
pub kept_marks : (x y z : Cone) → z.marks ≡ y.marks → ((v : ℕ) → IsMarked x.marks.items v → IsMarked y.marks.items v) → (v : ℕ) → IsMarked x.marks.items v → IsMarked z.marks.items v
kept_marks x y z same kept v on = subst (λ t. IsMarked t.items v) (sym same) (kept v on)

pub loaded_grown : (m : Parts) (room : ℕ) (gs : List Guarded) (t : Contents) (cone grown : Cone) (vars : ℕ) (cs : List (List ℤ)) → IsLoaded m room gs t → t.cone ≡ Some cone → vars ≡ t.vars →
    IsGrown m grown cs → ((v : ℕ) → IsMarked cone.marks.items v → IsMarked grown.marks.items v) → IsMoreOf (frame_at m 0) t.clauses cs →
    IsLoaded m room gs (record { vars = vars; clauses = cs; cone = Some grown })
loaded_grown m room gs t cone grown vars cs loaded is same has kept added =
    let units : List (List ℤ) = unit_clauses (map (literal m.max_var 0) m.constraints) in
    let more : List (List ℤ) = map (guarded_clause m) gs in
    let here : Cone = loaded.cone in
    let same_cone : here ≡ cone = some_same here cone (sym loaded.is ∙ is) in
    record {
      vars = same ∙ loaded.vars;
      cone = grown;
      is = refl;
      grown = has;
      constraints = subst (HasConstraints m (IsMarked grown.marks.items)) (sym added.is)
          (constraints_more m (IsMarked here.marks.items) (IsMarked grown.marks.items) t.clauses added.added (λ v on. kept v (subst (λ (c : Cone). IsMarked c.marks.items v) same_cone on)) loaded.constraints);
      guarded = subst (λ (ds : List (List ℤ)). All (λ (g : Guarded). Contains ds (guarded_clause m g)) gs) (sym added.is) (guarded_more m gs t.clauses added.added loaded.guarded);
      only = subst (All (Contains (time_clauses m 0 ++ more))) (sym added.is)
          (All-append (Contains (time_clauses m 0 ++ more)) t.clauses added.added loaded.only
          (among_more added.added (time_clauses m 0) more (among_more added.added (frame_at m 0) units added.among)));
    }

-- the grown cone of a loaded solver
pub grown_of : (m : Parts) (room : ℕ) (gs : List Guarded) (t : Contents) (cone : Cone) → IsLoaded m room gs t → t.cone ≡ Some cone → IsGrown m cone t.clauses
grown_of m room gs t cone loaded is = subst (λ (c : Cone). IsGrown m c t.clauses) (some_same loaded.cone cone (sym loaded.is ∙ is)) loaded.grown

-- nothing is marked yet
pub none_grown : (m : Parts) (cone : Cone) (cs : List (List ℤ)) → IsGateTable m cone.table → length cone.marks.items ≡ m.max_var + 1 → ((v : ℕ) → place cone.marks.items v ≡ false) →
    IsUnasked m cone.asked.items → ArePartGates m cone.part_gates → Contains cs (truth_clause m.max_var 0) → IsGrown m cone cs
none_grown m cone cs table places clear unasked part_gates truth = record {
  table = table;
  places = places;
  closed = λ k d k_in on. absurd (false≢true (sym (clear (variable (get_or m.gates k d).lhs)) ∙ on));
  gates = record { truth = truth; gates = λ k d k_in on. absurd (false≢true (sym (clear (variable (get_or m.gates k d).lhs)) ∙ on)) };
  unasked = unasked;
  part_gates = part_gates;
}

-- a solver that has what is true, the constraints, and what these are made of, is loaded
pub loaded_first : (m : Parts) (room : ℕ) (cone : Cone) (vars : ℕ) (before cs : List (List ℤ)) → vars ≡ m.max_var + 1 + room →
    before ≡ truth_clause m.max_var 0 ∷ unit_clauses (map (literal m.max_var 0) m.constraints) → IsGrown m cone cs → All (λ a. IsMarked cone.marks.items (variable a)) m.constraints →
    IsMoreOf (frame_at m 0) before cs → IsLoaded m room [] (record { vars = vars; clauses = cs; cone = Some cone })
loaded_first m room cone vars before cs fits are has marked added =
    let units : List (List ℤ) = unit_clauses (map (literal m.max_var 0) m.constraints) in
    let first : List (List ℤ) = truth_clause m.max_var 0 ∷ units in
    let all : List (List ℤ) = time_clauses m 0 in
    let is : cs ≡ first ++ added.added = added.is ∙ ap (λ (ds : List (List ℤ)). ds ++ added.added) are in
    let unit_in : (a : Lit) → Contains m.constraints a → Contains units (literal m.max_var 0 a ∷ []) =
    λ a found. to_map (λ (l : ℤ). l ∷ []) (map (literal m.max_var 0) m.constraints) (literal m.max_var 0 a) (to_map (literal m.max_var 0) m.constraints a found) in
    let truth_in : Contains all (truth_clause m.max_var 0) = Contains-append_left (frame_at m 0) units (truth_clause m.max_var 0) (0, omega arith, refl) in
    let first_in : All (Contains all) first = All-cons (Contains all) (truth_clause m.max_var 0) units truth_in
    (λ k d k_in. Contains-append_right (frame_at m 0) units (get_or units k d) (Contains-get_or units k d k_in)) in
    let among : All (Contains all) cs = subst (All (Contains all)) (sym is) (All-append (Contains all) first added.added first_in (among_more added.added (frame_at m 0) units added.among)) in
    record {
      vars = fits;
      cone = cone;
      is = refl;
      grown = has;
      constraints = λ k d k_in. (
        marked k d k_in,
        subst (λ (ds : List (List ℤ)). Contains ds (literal m.max_var 0 (get_or m.constraints k d) ∷ [])) (sym is)
            (Contains-append_left first added.added (literal m.max_var 0 (get_or m.constraints k d) ∷ [])
            (Contains-append_right (truth_clause m.max_var 0 ∷ []) units (literal m.max_var 0 (get_or m.constraints k d) ∷ []) (unit_in (get_or m.constraints k d) (Contains-get_or m.constraints k d k_in)))),
      );
      guarded = All-nil (λ (g : Guarded). Contains cs (guarded_clause m g));
      only = among_more cs all [] among;
    }

-- one clause under a guard more
pub loaded_more : (m : Parts) (room : ℕ) (gs : List Guarded) (g : Guarded) (t u : Contents) → IsLoaded m room gs t → u.vars ≡ t.vars → u.cone ≡ t.cone → u.clauses ≡ t.clauses ++ guarded_clause m g ∷ [] →
    IsLoaded m room (gs ++ g ∷ []) u
loaded_more m room gs g t u loaded same_vars same_cone are =
    let one : List (List ℤ) = guarded_clause m g ∷ [] in
    let cone : Cone = loaded.cone in
    let marked : ℕ → Type 0 = IsMarked cone.marks.items in
    let before : List (List ℤ) = time_clauses m 0 ++ map (guarded_clause m) gs in
    let all : time_clauses m 0 ++ map (guarded_clause m) (gs ++ g ∷ []) ≡ before ++ one =
    ap (λ (ds : List (List ℤ)). time_clauses m 0 ++ ds) (map-append (guarded_clause m) gs (g ∷ [])) ∙ sym (append_assoc (time_clauses m 0) (map (guarded_clause m) gs) one) in
    record {
      vars = same_vars ∙ loaded.vars;
      cone = cone;
      is = same_cone ∙ loaded.is;
      grown = record {
        table = loaded.grown.table;
        places = loaded.grown.places;
        closed = loaded.grown.closed;
        gates = subst (HasGates m marked) (sym are) (gates_more m marked t.clauses one loaded.grown.gates);
        unasked = loaded.grown.unasked;
        part_gates = loaded.grown.part_gates;
      };
      constraints = subst (HasConstraints m marked) (sym are) (constraints_more m marked marked t.clauses one (λ v on. on) loaded.constraints);
      guarded = subst (λ (ds : List (List ℤ)). All (λ (x : Guarded). Contains ds (guarded_clause m x)) (gs ++ g ∷ [])) (sym are)
          (All-push (λ (x : Guarded). Contains (t.clauses ++ one) (guarded_clause m x)) gs g (guarded_more m gs t.clauses one loaded.guarded) (Contains-push t.clauses (guarded_clause m g)));
      only = subst (λ (ds : List (List ℤ)). All (Contains ds) u.clauses) (sym all) (subst (All (Contains (before ++ one))) (sym are)
          (All-push (Contains (before ++ one)) t.clauses (guarded_clause m g) (among_more t.clauses before one loaded.only) (Contains-push before (guarded_clause m g))));
    }

-- what follows where a call ends well
pub on_ok : {T E : Type 0} (P Q : Type 0) (r : Result T E) → (P → Q) → OnOk r P → OnOk r Q
on_ok P Q (Ok x) f p = f p
on_ok P Q (Err e) f p = tt

pub if_ok : {T E : Type 0} (P Q : T → Type 0) (r : Result T E) → ((x : T) → P x → Q x) → IfOk r P → IfOk r Q
if_ok P Q (Ok x) f h = f x h
if_ok P Q (Err e) f h = h

-- a clause behind a clause behind a clause
three_more : {X : Type 0} (old a b c : List X) (x y z : X) → a ≡ old ++ x ∷ [] → b ≡ a ++ y ∷ [] → c ≡ b ++ z ∷ [] → c ≡ old ++ x ∷ y ∷ z ∷ []
three_more old a b c x y z p q r = r ∙ ap (λ u. u ++ z ∷ []) (q ∙ ap (λ u. u ++ y ∷ []) p) ∙ simp append_assoc

-- the three clauses of a gate
pub gate_added : (n o : ℕ) (g : Gate) (old a b c : List (List ℤ)) (x1 y1 x2 z2 x3 y3 z3 : ℤ) →
    a ≡ old ++ (x1 ∷ y1 ∷ []) ∷ [] → b ≡ a ++ (x2 ∷ z2 ∷ []) ∷ [] → c ≡ b ++ (x3 ∷ y3 ∷ z3 ∷ []) ∷ [] →
    x1 ≡ denial n o g.lhs → y1 ≡ literal n o g.rhs0 → x2 ≡ denial n o g.lhs → z2 ≡ literal n o g.rhs1 →
    x3 ≡ literal n o g.lhs → y3 ≡ denial n o g.rhs0 → z3 ≡ denial n o g.rhs1 → c ≡ old ++ gate_clauses n o g
gate_added n o g old a b c x1 y1 x2 z2 x3 y3 z3 p q r e1 f1 e2 f2 e3 f3 g3 =
    three_more old a b c (x1 ∷ y1 ∷ []) (x2 ∷ z2 ∷ []) (x3 ∷ y3 ∷ z3 ∷ []) p q r ∙ rw (e1, f1, e2, f2, e3, f3, g3) refl

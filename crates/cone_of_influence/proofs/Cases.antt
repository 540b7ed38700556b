-- What satisfies a case of the circuit satisfies that of the reduced circuit.
use Rattle.std.proofs.Common.{◌≡◌, ◌≢◌, ℕ, zero, suc, ◌+◌, ◌*◌, ◌<◌, ◌≤◌, Bool, true, false, not, List, [], ◌∷◌, map, filter, length, get_or, All, AllPairs, Any, Contains, ℤ, pos, negsuc, unsigned_abs, inl, inr, refl, sym, ◌∙◌, ap, subst, arith}
use Rattle.std.proofs.lemmas.Bool.{cases_Bool, eqb-true}
use Rattle.std.proofs.lemmas.Bool.Decides.{Decides-eqb}
use Rattle.std.proofs.lemmas.Map.Made.{length-le_from_is_member, IsDistinct-from_AllPairs}
use Rattle.std.proofs.lemmas.Map.Views.{list_any-from_Contains, Contains-from_any}
use Rattle.std.specs.Cmp.{nat_eq_equiv}
use Rattle.std.proofs.lemmas.List.{get_or-map, length-map}
use Rattle.std.proofs.lemmas.List.Elements.{All-nil, All-cons, All-map, All-contains, Contains-append_right, Contains-append_cases}
use Rattle.graph.specs.declared.circuit.Lit.{Lit}
use Rattle.graph.specs.declared.circuit.Latch.{Latch}
use Rattle.graph.specs.declared.parts.Parts.{Parts}
use Rattle.graph.specs.Circuits.{Valuation, variable, place, value_of, inputs_of, next_state, Agrees}
use Rattle.graph.specs.WellFormed.{IsWellFormed, IsModel}
use Rattle.graph.proofs.Evaluation.{held, All-unmap}
use Rattle.live_safe.proofs.Ranges.{are_in}
use Rattle.lrat.specs.Literals.{is_true, IsSatisfied}
use Rattle.cnf.specs.Clauses.{truth_clause, next_of, init_clauses, step_clauses, bad_clauses}
use Rattle.cnf.specs.Formulas.{IsOverLatches, IsClause, IsOfTimes, IsOver, IsInRange, bad_literal}
use Rattle.cnf.specs.Meaning.{extension_of, AreSatisfied, HoldsClause, Denies, DeniesNext, IsKept}
use Rattle.cnf.specs.Invariants.{AreContradictory}
use Rattle.cnf.proofs.CaseLaws.{clause_range, init_law, step_law, bad_law, bad_in_range, next_value}
use Rattle.cnf.proofs.Formed.{IsKnown, bad_known, init_over, step_over, bad_over}
use Rattle.cnf.proofs.Listed.{satisfied-unit}
use Rattle.cones.proofs.Existing.{existence_law}
use Rattle.cnf.specs.Invariants.{IsProper, IsInvariant}
use Rattle.states.proofs.Valued.{valuation_of, valuation_is, same_seen, pos_true}
use Rattle.cone_of_influence.specs.Numbers.{entry, renamed}
use Rattle.cone_of_influence.specs.Reduced.{renamed_latch}
use Rattle.cone_of_influence.specs.Laws.{restricted}
use Rattle.cone_of_influence.proofs.Valued.{AreGiven, part, some_kept, renamed_variable, back_value, valuation_to, agrees_to, step_to, keeps_to, initial_to}
use Rattle.cone_of_influence.proofs.Runs.{some_bad, bad_value}

-- ---- an assignment that satisfies a formula of one time, as a valuation

-- a literal is as true where its variable has the same value
same_true : (u v : ℕ → Bool) (l : ℤ) → u (unsigned_abs l) ≡ v (unsigned_abs l) → is_true u l ≡ is_true v l
same_true u v (pos zero) e = refl
same_true u v (pos (suc n)) e = e
same_true u v (negsuc n) e = ap not e

-- what satisfies a formula of one time has the truth on
truth_on : (m : Parts) (v : ℕ → Bool) (cs : List (List ℤ)) → IsOver m 1 cs → AreSatisfied v cs → v (0 + m.max_var + 1) ≡ true
truth_on m v cs over all =
    let none : 0 * (m.max_var + 1) ≡ 0 = omega arith in
    sym (pos_true v (0 + m.max_var + 1) (λ e. omega (arith, e)))
    ∙ satisfied-unit v (pos (0 + m.max_var + 1))
    (All-contains (IsSatisfied v) cs (truth_clause m.max_var 0) all (subst (λ o. Contains cs (truth_clause m.max_var o)) none (over.truths 0 (omega arith))))

same_there : (m : Parts) (v : ℕ → Bool) (u : ℕ) → IsWellFormed m → v (0 + m.max_var + 1) ≡ true → IsOfTimes m 1 u → extension_of (valuation_of m v) u ≡ v u
same_there m v u well on (t, k, t_in, is, which) =
    let seen = same_seen m v well on in
    let first : t ≡ 0 = omega arith in
    let none : 0 * (m.max_var + 1) + k ≡ k = omega arith in
    let here : u ≡ k = is ∙ ap (λ s. s * (m.max_var + 1) + k) first ∙ none in
    elim which [
      | inl top ↦
          let at : 0 + m.max_var + 1 ≡ u = omega (arith, here, top) in
          subst (λ x. extension_of (valuation_of m v) x ≡ v x) at seen.top
      | inr found ↦
          let at : 0 + k ≡ u = omega (arith, here) in
          subst (λ x. extension_of (valuation_of m v) x ≡ v x) at (seen.inside k found)
    ]

as_valuation : (m : Parts) (v : ℕ → Bool) (cs : List (List ℤ)) → IsWellFormed m → IsOver m 1 cs → AreSatisfied v cs → AreSatisfied (extension_of (valuation_of m v)) cs
as_valuation m v cs well over all k d k_in =
    let on = truth_on m v cs over all in
    let one : IsSatisfied v (get_or cs k d) = all k d k_in in
    let from : IsOfTimes m 1 (unsigned_abs one.0) = All-contains (λ l. IsOfTimes m 1 (unsigned_abs l)) (get_or cs k d) one.0 (over.defined_only k d k_in) one.1 in
    (one.0, one.1, same_true (extension_of (valuation_of m v)) v one.0 (same_there m v (unsigned_abs one.0) well on from) ∙ one.2)

-- ---- clauses that are proper

-- distinct numbers, each of a list, are no more than it has
distinct_among : (vs us : List ℕ) → AllPairs (λ u v. u ≢ v) vs → All (Contains us) vs → length vs ≤ length us
distinct_among vs us apart among =
    length-le_from_is_member nat_eq_equiv vs us (IsDistinct-from_AllPairs Decides-eqb vs apart)
    (λ q found. list_any-from_Contains nat_eq_equiv q us (All-contains (Contains us) vs q among (Contains-from_any eqb-true q vs found)))

is_clause : (m : Parts) (c : List Lit) → IsWellFormed m → IsProper m c → IsClause m c
is_clause m c well proper =
    let variables : List ℕ = map held m.latches in
    let few : length (map variable c) ≤ length variables = distinct_among (map variable c) variables proper.apart (All-map (Contains variables) variable c proper.over) in
    let latches = well.limits.latches in
    record { over = proper.over; short = omega (arith, few, length-map c variable, length-map m.latches held, latches) }

are_clauses : (m : Parts) (inv : List (List Lit)) → IsWellFormed m → All (IsProper m) inv → All (IsClause m) inv
are_clauses m inv well all k d k_in = is_clause m (get_or inv k d) well (all k d k_in)

overs : (m : Parts) (inv : List (List Lit)) → All (IsProper m) inv → All (IsOverLatches m) inv
overs m inv all k d k_in = (all k d k_in).over

contains_whole : {X Y : Type 0} (f : X → ℕ) (g : Y → ℕ) (r : X → Y) (kept : List ℕ) (p : X → Bool) (xs : List X) (u : ℕ) → All (λ x. p x ≡ true → entry kept (g (r x)) ≡ f x) xs →
    Contains (map g (map r (filter p xs))) u → Contains (map f xs) (entry kept u)
contains_whole f g r kept p [] u facts found = absurd (omega (arith, found.1))
contains_whole f g r kept p (x ∷ xs) u facts found =
    let rest : All (λ y. p y ≡ true → entry kept (g (r y)) ≡ f y) xs = λ k d k_in. facts (suc k) d (omega (arith, k_in)) in
    elim (cases_Bool (p x)) [
      | inl on ↦
          let more : Contains (g (r x) ∷ map g (map r (filter p xs))) u = rw on at found in
          let here : entry kept (g (r x)) ≡ f x = facts 0 x (omega arith) on in
          elim (Contains-append_cases (g (r x) ∷ []) (map g (map r (filter p xs))) u more) [
            | inl one ↦
                let P : ℕ → Type 0 = λ v. entry kept v ≡ f x in
                let at : entry kept u ≡ f x = All-contains P (g (r x) ∷ []) u (All-cons P (g (r x)) [] here (All-nil P)) one in
                (0, omega arith, sym at)
            | inr later ↦ Contains-append_right (f x ∷ []) (map f xs) (entry kept u) (contains_whole f g r kept p xs u rest later)
          ]
      | inr off ↦ Contains-append_right (f x ∷ []) (map f xs) (entry kept u) (contains_whole f g r kept p xs u rest (rw off at found))
    ]

over_back : (m : Parts) (marks : List Bool) (kept numbers : List ℕ) (c : List Lit) → AreGiven m marks kept numbers → IsOverLatches (part m marks kept numbers) c → IsOverLatches m (map (renamed kept) c)
over_back m marks kept numbers c h over =
    let passes : Latch → Bool = λ l. place marks (variable l.lit) in
    let facts : All (λ l. passes l ≡ true → entry kept (held (renamed_latch numbers l)) ≡ held l) m.latches =
    λ k d k_in on.
    let a : Lit = (get_or m.latches k d).lit in
    let range = (are_in m 0 h.well).latches k d k_in in
    ap (entry kept) (renamed_variable numbers a) ∙ (h.numbered.there (variable a) (omega (arith, range)) on).1 in
    All-map (λ a. Contains (map held m.latches) (variable a)) (renamed kept) c (λ k d k_in.
    let a : Lit = get_or c k d in
    subst (Contains (map held m.latches)) (sym (renamed_variable kept a)) (contains_whole held held (renamed_latch numbers) kept passes m.latches (variable a) facts (over k d k_in)))

apart_back : (m : Parts) (marks : List Bool) (kept numbers : List ℕ) (c : List Lit) → AreGiven m marks kept numbers → All (λ a. variable a < length kept) c → AllPairs (λ u v. u ≢ v) (map variable c) →
    AllPairs (λ u v. u ≢ v) (map variable (map (renamed kept) c))
apart_back m marks kept numbers c h inside apart = λ i j d before j_in e.
    let blank : Lit = record { 0 = 0 } in
    let whole : List Lit = map (renamed kept) c in
    let long : length (map variable whole) ≡ length c = length-map whole variable ∙ length-map c (renamed kept) in
    let i_in : i < length c = omega (arith, before, j_in, long) in
    let last : j < length c = omega (arith, j_in, long) in
    let at : (k : ℕ) → k < length c → get_or (map variable whole) k d ≡ entry kept (variable (get_or c k blank)) =
    λ k k_in. get_or-map variable whole k blank d (omega (arith, k_in, length-map c (renamed kept))) ∙ ap variable (get_or-map (renamed kept) c k blank blank k_in)
    ∙ renamed_variable kept (get_or c k blank) in
    let was : (k : ℕ) → k < length c → get_or (map variable c) k d ≡ variable (get_or c k blank) = λ k k_in. get_or-map variable c k blank d k_in in
    let u : ℕ = variable (get_or c i blank) in
    let v : ℕ = variable (get_or c j blank) in
    let same : entry kept u ≡ entry kept v = sym (at i i_in) ∙ e ∙ at j last in
    let is : u ≡ v = sym (h.numbered.back u (inside i blank i_in)).2 ∙ ap (entry numbers) same ∙ (h.numbered.back v (inside j blank last)).2 in
    apart i j d before (omega (arith, last, length-map c variable)) (was i i_in ∙ is ∙ sym (was j last))

clause_inside : (m : Parts) (marks : List Bool) (kept numbers : List ℕ) (c : List Lit) → AreGiven m marks kept numbers → IsWellFormed (part m marks kept numbers) → IsOverLatches (part m marks kept numbers) c →
    All (λ a. variable a < length kept) c
clause_inside m marks kept numbers c h part_well over k d k_in =
    let range : IsInRange (part m marks kept numbers).max_var (get_or c k d) = clause_range (part m marks kept numbers) c part_well over k d k_in in
    let some = (some_kept m marks kept numbers h).0 in
    omega (arith, range, some)

proper_back : (m : Parts) (marks : List Bool) (kept numbers : List ℕ) (c : List Lit) → AreGiven m marks kept numbers → IsWellFormed (part m marks kept numbers) → IsProper (part m marks kept numbers) c →
    IsProper m (map (renamed kept) c)
proper_back m marks kept numbers c h part_well proper = record {
  over = over_back m marks kept numbers c h proper.over;
  apart = apart_back m marks kept numbers c h (clause_inside m marks kept numbers c h part_well proper.over) proper.apart;
}

all_proper : (m : Parts) (marks : List Bool) (kept numbers : List ℕ) (inv : List (List Lit)) → AreGiven m marks kept numbers → IsWellFormed (part m marks kept numbers) → All (IsProper (part m marks kept numbers)) inv →
    All (IsProper m) (map (map (renamed kept)) inv)
all_proper m marks kept numbers inv h part_well all =
    All-map (IsProper m) (map (renamed kept)) inv (λ k d k_in. proper_back m marks kept numbers (get_or inv k d) h part_well (all k d k_in))

-- ---- what a valuation says of clauses

any_unmap : {X Y : Type 0} (P : Y → Type 0) (Q : X → Type 0) (f : X → Y) (xs : List X) → ((x : X) → P (f x) → Q x) → Any P (map f xs) → Any Q xs
any_unmap P Q f [] each (k, y, lt, at, p) = absurd (omega arith)
any_unmap P Q f (x ∷ xs) each (zero, y, lt, at, p) = (0, x, omega arith, refl, each x (subst P (sym at) p))
any_unmap P Q f (x ∷ xs) each (suc k, y, lt, at, p) = let rest = any_unmap P Q f xs each (k, y, omega arith, at, p) in (suc rest.0, rest.1, omega (arith, rest.2), rest.3, rest.4)

holds_to : (kept : List ℕ) (w : Valuation) (c : List Lit) → place w 0 ≡ false → HoldsClause w (map (renamed kept) c) → HoldsClause (restricted kept w) c
holds_to kept w c off holds =
    any_unmap (λ a. value_of w a ≡ true) (λ a. value_of (restricted kept w) a ≡ true) (renamed kept) c (λ a on. sym (back_value kept w a off) ∙ on) holds

denies_to : (kept : List ℕ) (w : Valuation) (c : List Lit) → place w 0 ≡ false → Denies w (map (renamed kept) c) → Denies (restricted kept w) c
denies_to kept w c off denies k d k_in =
    sym (back_value kept w (get_or c k d) off) ∙ All-unmap (λ a. value_of w a ≡ false) (renamed kept) c denies k d k_in

-- the models' orders
pub record AreFormed (m : Parts) (marks : List Bool) (kept numbers : List ℕ) : Type 0 where
  pub given : AreGiven m marks kept numbers
  pub order : List ℕ
  pub model : IsModel m order
  pub part_well : IsWellFormed (part m marks kept numbers)

-- some next time is one of the reduced circuit too
next_to : (m : Parts) (marks : List Bool) (kept numbers : List ℕ) (w : Valuation) (c : List Lit) → AreFormed m marks kept numbers → Agrees m w → IsOverLatches (part m marks kept numbers) c →
    DeniesNext m w (map (renamed kept) c) → DeniesNext (part m marks kept numbers) (restricted kept w) c
next_to m marks kept numbers w c h agrees over denies =
    let s : Parts = part m marks kept numbers in
    let there = existence_law m h.order h.model (next_state m w) (inputs_of m w) (length-map m.latches (λ l. value_of w l.next)) (length-map m.inputs (value_of w)) in
    let x : Valuation = there.0 in
    let off = there.1.valuation.constant in
    let whole : IsOverLatches m (map (renamed kept) c) = over_back m marks kept numbers c h.given over in
    λ k d k_in.
    let a : Lit = get_or c k d in
    let inside = All-unmap (λ b. Contains (map held m.latches) (variable b)) (renamed kept) c whole k d k_in in
    let denied = All-unmap (λ b. value_of w (next_of m.latches b) ≡ false) (renamed kept) c denies k d k_in in
    sym (next_value s (restricted kept w) (restricted kept x) a h.part_well (step_to m marks kept numbers w x h.given there.2) (over k d k_in))
    ∙ sym (back_value kept x a off) ∙ next_value m w x (renamed kept a) h.given.well there.2 inside ∙ denied

time_to : (m : Parts) (marks : List Bool) (kept numbers : List ℕ) (inv : List (List Lit)) (w : Valuation) → AreGiven m marks kept numbers → IsKept m (map (map (renamed kept)) inv) w → IsKept (part m marks kept numbers) inv (restricted kept w)
time_to m marks kept numbers inv w h time = record {
  agrees = agrees_to m marks kept numbers w h time.agrees;
  keeps = keeps_to m marks kept numbers w h time.keeps;
  holds = λ k d k_in. holds_to kept w (get_or inv k d) time.agrees.valuation.constant (All-unmap (HoldsClause w) (map (renamed kept)) inv time.holds k d k_in);
}

-- ---- the three kinds of cases

init_case : (m : Parts) (marks : List Bool) (kept numbers : List ℕ) (c : List Lit) → AreFormed m marks kept numbers → IsOverLatches (part m marks kept numbers) c →
    AreContradictory (init_clauses (part m marks kept numbers) c) → AreContradictory (init_clauses m (map (renamed kept) c))
init_case m marks kept numbers c h over none v sat =
    let g = h.given in
    let s : Parts = part m marks kept numbers in
    let whole : List Lit = map (renamed kept) c in
    let w : Valuation = valuation_of m v in
    let is = valuation_is m v g.well in
    let whole_over : IsOverLatches m whole = over_back m marks kept numbers c g over in
    let says = (init_law m whole g.well whole_over w is).1 (as_valuation m v (init_clauses m whole) g.well (init_over m whole whole_over) sat) in
    none (extension_of (restricted kept w)) ((init_law s c h.part_well over (restricted kept w) (valuation_to m marks kept numbers w g is)).0
    (initial_to m marks kept numbers w g says.0, denies_to kept w c is.constant says.1))

step_case : (m : Parts) (marks : List Bool) (kept numbers : List ℕ) (inv : List (List Lit)) (c : List Lit) → AreFormed m marks kept numbers → All (IsProper (part m marks kept numbers)) inv → IsOverLatches (part m marks kept numbers) c →
    AreContradictory (step_clauses (part m marks kept numbers) inv c) → AreContradictory (step_clauses m (map (map (renamed kept)) inv) (map (renamed kept) c))
step_case m marks kept numbers inv c h proper over none v sat =
    let g = h.given in
    let s : Parts = part m marks kept numbers in
    let whole : List Lit = map (renamed kept) c in
    let all : List (List Lit) = map (map (renamed kept)) inv in
    let all_are : All (IsProper m) all = all_proper m marks kept numbers inv g h.part_well proper in
    let w : Valuation = valuation_of m v in
    let is = valuation_is m v g.well in
    let whole_over : IsOverLatches m whole = over_back m marks kept numbers c g over in
    let says = (step_law m all whole g.well (overs m all all_are) whole_over w is).1
    (as_valuation m v (step_clauses m all whole) g.well (step_over m all whole g.well (are_clauses m all g.well all_are) whole_over) sat) in
    none (extension_of (restricted kept w)) ((step_law s inv c h.part_well (overs s inv proper) over (restricted kept w) (valuation_to m marks kept numbers w g is)).0
    (time_to m marks kept numbers inv w g says.0, next_to m marks kept numbers w c h says.0.agrees over says.1))

bad_case : (m : Parts) (marks : List Bool) (kept numbers : List ℕ) (inv : List (List Lit)) → AreFormed m marks kept numbers → All (IsProper (part m marks kept numbers)) inv →
    AreContradictory (bad_clauses (part m marks kept numbers) inv (bad_literal (part m marks kept numbers) 0)) → AreContradictory (bad_clauses m (map (map (renamed kept)) inv) (bad_literal m 0))
bad_case m marks kept numbers inv h proper none v sat =
    let g = h.given in
    let s : Parts = part m marks kept numbers in
    let blank : Lit = record { 0 = 0 } in
    let a : Lit = bad_literal m 0 in
    let b : Lit = bad_literal s 0 in
    let some = some_bad m marks kept numbers g in
    let part_some : 0 < length s.bad = omega (arith, some, length-map m.bad (renamed numbers)) in
    let known : IsKnown m a = bad_known m g.well 0 blank some in
    let range : IsInRange m.max_var a = bad_in_range m g.well 0 blank some in
    let part_range : IsInRange s.max_var b = bad_in_range s h.part_well 0 blank part_some in
    let all : List (List Lit) = map (map (renamed kept)) inv in
    let all_are : All (IsProper m) all = all_proper m marks kept numbers inv g h.part_well proper in
    let w : Valuation = valuation_of m v in
    let is = valuation_is m v g.well in
    let says = (bad_law m all a g.well (overs m all all_are) range w is).1 (as_valuation m v (bad_clauses m all a) g.well (bad_over m all a g.well (are_clauses m all g.well all_are) known) sat) in
    none (extension_of (restricted kept w)) ((bad_law s inv b h.part_well (overs s inv proper) part_range (restricted kept w) (valuation_to m marks kept numbers w g is)).0
    (time_to m marks kept numbers inv w g says.0, bad_value m marks kept numbers w g ∙ says.1))

pub invariant_law : (m : Parts) (marks : List Bool) (kept numbers : List ℕ) → AreFormed m marks kept numbers → (inv : List (List Lit)) → IsInvariant (part m marks kept numbers) inv →
    IsInvariant m (map (map (renamed kept)) inv)
invariant_law m marks kept numbers h inv is = record {
  clauses = all_proper m marks kept numbers inv h.given h.part_well is.clauses;
  inductive = record {
    begins = All-map (λ c. AreContradictory (init_clauses m c)) (map (renamed kept)) inv
        (λ k d k_in. init_case m marks kept numbers (get_or inv k d) h (is.clauses k d k_in).over (is.inductive.begins k d k_in));
    goes_on = All-map (λ c. AreContradictory (step_clauses m (map (map (renamed kept)) inv) c)) (map (renamed kept)) inv
        (λ k d k_in. step_case m marks kept numbers inv (get_or inv k d) h is.clauses (is.clauses k d k_in).over (is.inductive.goes_on k d k_in));
    excludes = bad_case m marks kept numbers inv h is.clauses is.inductive.excludes;
  };
}

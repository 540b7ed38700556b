-- The sections of a certificate, as they come.
use Rattle.base.specs.Witness.{witness}
use Rattle.std.specs.Prelude.{◌⊎◌}
use Rattle.std.proofs.lemmas.List.Elements.{All-push}
use Rattle.std.proofs.Common.{◌≡◌, ◌≢◌, ◌^◌, ℕ, zero, suc, ◌+◌, ◌<◌, ◌≤◌, List, [], ◌∷◌, ◌++◌, map, length, Option, None, Some, get_or, take, drop, ℤ, refl, sym, ◌∙◌, ap, subst, arith, inl, inr, append_assoc}
use Rattle.std.proofs.lemmas.List.{get_or_at, get_or_append_left, length-append, map-append, take_all, take_more}
use Rattle.lrat.specs.declared.fault.Fault.{Fault}
use Rattle.lrat.specs.declared.fault.Fault.TheVariants.{OutOfMemory as NoMemory, NoIds}
use Rattle.lrat.specs.declared.line.Line.{Line}
use Rattle.lrat.specs.Halts.{Halts}
use Rattle.lrat.specs.Courses.{Course, at_formula, at_units}
use Rattle.lrat.specs.Lemmas.{AddsEmpty, Extends, IsNoLemma}
use Rattle.lrat.specs.Proofs.{first_stage}
use Rattle.lrat.specs.Shared.{Base, base_of, over}
use Rattle.lrat.proofs.Exact.{parts_at}
use Rattle.graph.specs.declared.circuit.Lit.{Lit}
use Rattle.graph.specs.declared.parts.Parts.{Parts}
use Rattle.cnf.specs.Clauses.{bad_units, init_units, step_units}
use Rattle.cnf.specs.Formulas.{IsInvariant, IsOverLatches, shared_formula, start_formula}
use Rattle.checker2.proofs.InOrder.{clause_over}
use Rattle.lrat.specs.Stages.{Stage, GoAlong, Goes}
use Rattle.checker2.specs.Accepted.{Case, IsProofOf, RefuteBelow, bad_case, init_case, step_case}
use Rattle.checker2.specs.Causes.{HasIds, IsFirstRefused, IsRefusedCase}
use Rattle.checker2.specs.Streamed.{AreLemmas, AreProofs, AreOfCases, AreTaken, IsFed, IsFirstOf, IsOfCase}

-- ---- the lines of a section

-- one line more leads on
pub along_line : (n : ℕ) (ls : List Line) (s t u : Stage) (l : Line) → GoAlong n s ls t → Goes n t l u → GoAlong n s (ls ++ l ∷ []) u
along_line n [] s t u l same goes = (u, subst (λ r. Goes n r l u) same goes, refl)
along_line n (x ∷ ls) s t u l (v, one, along) goes = (v, one, along_line n ls v t u l along goes)

-- a line halts, whatever follows it
pub fed_halts : (n : ℕ) (s t : Stage) (front : List Line) (line : Line) (e : Fault) (more : List Line) (x : Option Fault) → GoAlong n s front t → Halts n t line e → (x ≡ Some e) × (e ≢ NoMemory witness) → IsFed n s ((front ++ line ∷ []) ++ more) x
fed_halts n s t front line e more x along halts found =
    subst (λ o. IsFed n s ((front ++ line ∷ []) ++ more) o) (sym found.0)
    (found.1, length front, inl (record { done = front; line = line; later = more; reached = t; are = append_assoc front (line ∷ []) more; place = refl; along = along; halts = halts }))

-- what was fed to a case's beginning is judged for the case
pub of_fed : (c : Case) → HasIds c → (lines : List Line) (found : Option Fault) → IsFed c.base.vars (over c.base c.units) lines found → IsOfCase c lines found
of_fed c ids lines None (all, t, along, closed) = (all, (t, along, closed))
of_fed c ids lines (Some e) (ne, k, halt) = (ne, k, inr (inr (ids, halt)))

-- no ids are left for the units
pub of_ids : (c : Case) → 4294967296 ≤ c.base.top + length c.units → (lines : List Line) (found : Option Fault) → (found ≡ Some NoIds) × (NoIds ≢ NoMemory witness) → IsOfCase c lines found
of_ids c many lines found (is, ne) = subst (λ o. IsOfCase c lines o) (sym is) (ne, 0, inr (inl (refl, many)))

-- what was fed behind the units is judged for the case
pub fed_behind : (c : Case) → c.base.top + length c.units < 2 ^ 32 → (r : Course) → r ≡ at_units c.base c.units → (lines : List Line) (found : Option Fault) → IsFed r.base.vars r.stage lines found → IsOfCase c lines found
fed_behind c few r is lines found fed = of_fed c (omega (arith, few)) lines found (subst (λ (q : Course). IsFed q.base.vars q.stage lines found) is fed)

-- the units are refused
pub of_begun : (c : Case) (fault : Fault) → ((fault ≡ NoMemory witness) × (c.base.top + length c.units < 2 ^ 32)) ⊎ ((fault ≡ NoIds) × (2 ^ 32 ≤ c.base.top + length c.units)) → (lines : List Line) (found : Option Fault) → (found ≡ Some fault) × (fault ≢ NoMemory witness) → IsOfCase c lines found
of_begun c fault (inl memory) lines found (is, ne) = absurd (ne memory.0)
of_begun c fault (inr ids) lines found (is, ne) =
    of_ids c (omega (arith, ids.1)) lines found (is ∙ ap (λ (e : Fault). Some e) ids.0, subst (λ (e : Fault). e ≢ NoMemory witness) ids.0 ne)

-- ---- the lines of lemmas

pub extends_more : (n : ℕ) (ls : List Line) (s t u : Stage) (l : Line) → Extends n s ls t → Goes n t l u → (AddsEmpty l → ⊥) → Extends n s (ls ++ l ∷ []) u
extends_more n ls s t u l extends goes some = record {
  along = along_line n ls s t u l extends.along goes;
  not_empty = All-push (λ (x : Line). AddsEmpty x → ⊥) ls l extends.not_empty some;
}

-- a line is no lemma, whatever follows it
pub lemma_halts : (n : ℕ) (s t : Stage) (b : Base) (front : List Line) (line : Line) (e : Fault) (more : List Line) (x : Option Fault) → Extends n s front t → IsNoLemma n t line e → (x ≡ Some e) × (e ≢ NoMemory witness) → AreLemmas n s b ((front ++ line ∷ []) ++ more) x
lemma_halts n s t b front line e more x extends none found =
    subst (λ o. AreLemmas n s b ((front ++ line ∷ []) ++ more) o) (sym found.0)
    (found.1, length front, record { done = front; line = line; later = more; reached = t; are = append_assoc front (line ∷ []) more; place = refl; extends = extends; no_lemma = none })

taken_here : (m : Parts) (inv : List (List Lit)) (b : Base) (lines : List Line) (found : Option Fault) → AreLemmas (m.max_var + 1) (first_stage (shared_formula m inv)) b lines found → AreTaken m inv b (Some lines) found
taken_here m inv b lines None are = are
taken_here m inv b lines (Some e) (ne, line, none) = (line, record { lines = lines; are = refl; place = refl; refused = none; other = ne })

-- the lemmas are shared, or refused, over the clauses that they began with
pub taken_from : (m : Parts) (inv : List (List Lit)) (r : Course) (b : Base) → r ≡ at_formula (shared_formula m inv) → (lines : List Line) (found : Option Fault) → AreLemmas r.base.vars r.stage b lines found → AreTaken m inv b (Some lines) found
taken_from m inv r b is lines found are = taken_here m inv b lines found (subst (λ (q : Course). AreLemmas q.base.vars q.stage b lines found) is are)

-- ---- several sections

pub proofs_append : (cs ds : List Case) (ps qs : List (List Line)) → AreProofs cs ps → AreProofs ds qs → AreProofs (cs ++ ds) (ps ++ qs)
proofs_append [] ds ps qs none are = subst (λ (w : List (List Line)). AreProofs ds (w ++ qs)) (sym none) are
proofs_append (c ∷ cs) ds [] qs none are = absurd none
proofs_append (c ∷ cs) ds (p ∷ ps) qs (one, others) are = (one, proofs_append cs ds ps qs others are)

pub one_proof : (c : Case) (p : List Line) → IsProofOf c p → AreProofs (c ∷ []) (p ∷ [])
one_proof c p proof = (proof, refl)

pub first_more : (cs ds : List Case) (ps qs : List (List Line)) (e : Fault) → IsFirstOf cs ps e → IsFirstOf (cs ++ ds) (ps ++ qs) e
first_more cs ds ps qs e f = record {
  before = f.before;
  one = f.one;
  after = f.after ++ ds;
  proofs = f.proofs;
  lines = f.lines;
  later = f.later ++ qs;
  cases = ap (λ (w : List Case). w ++ ds) f.cases ∙ append_assoc f.before (f.one ∷ f.after) ds;
  sections = ap (λ (w : List (List Line)). w ++ qs) f.sections ∙ append_assoc f.proofs (f.lines ∷ f.later) qs;
  earlier = f.earlier;
  refused = f.refused;
}

pub first_behind : (cs ds : List Case) (ps qs : List (List Line)) (e : Fault) → AreProofs cs ps → IsFirstOf ds qs e → IsFirstOf (cs ++ ds) (ps ++ qs) e
first_behind cs ds ps qs e are f = record {
  before = cs ++ f.before;
  one = f.one;
  after = f.after;
  proofs = ps ++ f.proofs;
  lines = f.lines;
  later = f.later;
  cases = ap (λ (w : List Case). cs ++ w) f.cases ∙ sym (append_assoc cs f.before (f.one ∷ f.after));
  sections = ap (λ (w : List (List Line)). ps ++ w) f.sections ∙ sym (append_assoc ps f.proofs (f.lines ∷ f.later));
  earlier = proofs_append cs f.before ps f.proofs are f.earlier;
  refused = f.refused;
}

pub first_one : (c : Case) (p : List Line) (e : Fault) → IsOfCase c p (Some e) → IsFirstOf (c ∷ []) (p ∷ []) e
first_one c p e refused = record { before = []; one = c; after = []; proofs = []; lines = p; later = []; cases = refl; sections = refl; earlier = refl; refused = refused }

pub first_here : (cs ds : List Case) (c : Case) (ps qs : List (List Line)) (p : List Line) (e : Fault) → AreProofs cs ps → IsOfCase c p (Some e) → IsFirstOf (cs ++ c ∷ ds) ((ps ++ p ∷ []) ++ qs) e
first_here cs ds c ps qs p e are refused = record {
  before = cs;
  one = c;
  after = ds;
  proofs = ps;
  lines = p;
  later = qs;
  cases = refl;
  sections = append_assoc ps (p ∷ []) qs;
  earlier = are;
  refused = refused;
}

-- sections behind proofs
pub cases_behind : (cs ds : List Case) (ps qs : List (List Line)) (found : Option Fault) → AreProofs cs ps → AreOfCases ds qs found → AreOfCases (cs ++ ds) (ps ++ qs) found
cases_behind cs ds ps qs None are more = proofs_append cs ds ps qs are more
cases_behind cs ds ps qs (Some e) are more = first_behind cs ds ps qs e are more

pub cases_one : (c : Case) (p : List Line) (found : Option Fault) → IsOfCase c p found → AreOfCases (c ∷ []) (p ∷ []) found
cases_one c p None proof = one_proof c p proof
cases_one c p (Some e) refused = first_one c p e refused

-- ---- told by their places

pub as_many : (cs : List Case) (ps : List (List Line)) → AreProofs cs ps → length cs ≡ length ps
as_many [] ps none = sym (ap length none)
as_many (c ∷ cs) [] are = absurd are
as_many (c ∷ cs) (p ∷ ps) are = ap suc (as_many cs ps are.1)

pub refute_all : (cs : List Case) (ps : List (List Line)) → AreProofs cs ps → RefuteBelow cs ps (length ps)
refute_all [] ps none k lt c p = absurd (omega (arith, lt, ap length none))
refute_all (d ∷ cs) [] are k lt c p = absurd are
refute_all (d ∷ cs) (q ∷ ps) are zero lt c p = are.0
refute_all (d ∷ cs) (q ∷ ps) are (suc k) lt c p = refute_all cs ps are.1 k (omega (arith, lt)) c p

refute_front : (cs ds : List Case) (ps qs : List (List Line)) → AreProofs cs ps → RefuteBelow (cs ++ ds) (ps ++ qs) (length ps)
refute_front cs ds ps qs are k lt c p =
    let many = as_many cs ps are in
    let one : IsProofOf (get_or cs k c) (get_or ps k p) = refute_all cs ps are k lt c p in
    subst (λ (x : Case). IsProofOf x (get_or (ps ++ qs) k p)) (sym (get_or_append_left cs ds c k (omega (arith, many, lt))))
    (subst (λ (x : List Line). IsProofOf (get_or cs k c) x) (sym (get_or_append_left ps qs p k lt)) one)

first_parts : (before : ℕ) (bs cs : List Case) (c : Case) (ps qs : List (List Line)) (p : List Line) (e : Fault) (line : ℕ) → AreProofs bs ps → e ≢ NoMemory witness → IsRefusedCase c p (record { fault = e; line = line })
    → IsFirstRefused before (bs ++ c ∷ cs) (ps ++ p ∷ qs) (record { fault = e; line = line }) (before + length ps)
first_parts before bs cs c ps qs p e line are ne refused =
    let many = as_many bs ps are in
    record {
      index = length ps;
      place = refl;
      stands = omega (arith, length-append ps (p ∷ qs));
      earlier = refute_front bs (c ∷ cs) ps (p ∷ qs) are;
      refused = λ d q.
          subst (λ (x : Case). IsRefusedCase x (get_or (ps ++ p ∷ qs) (length ps) q) (record { fault = e; line = line })) (sym (get_or_at bs c cs d (length ps) many))
          (subst (λ (x : List Line). IsRefusedCase c x (record { fault = e; line = line })) (sym (get_or_at ps p qs q (length ps) refl)) refused);
      other = ne;
    }

pub first_refused : (before : ℕ) (cs : List Case) (ps : List (List Line)) (e : Fault) → IsFirstOf cs ps e → (line : ℕ) × (k : ℕ) × IsFirstRefused before cs ps (record { fault = e; line = line }) k
first_refused before cs ps e f =
    let (ne, line, refused) = f.refused in (
      line,
      before + length f.proofs,
      subst (λ (w : List Case). IsFirstRefused before w ps (record { fault = e; line = line }) (before + length f.proofs)) (sym f.cases)
          (subst (λ (w : List (List Line)). IsFirstRefused before (f.before ++ f.one ∷ f.after) w (record { fault = e; line = line }) (before + length f.proofs)) (sym f.sections)
          (first_parts before f.before f.after f.one f.proofs f.later f.lines e line f.earlier ne refused)),
    )

-- ---- the cases of an invariant, one after the other

-- one section more is a proof
pub next_proof : (f : List Lit → Case) (inv : List (List Lit)) (k : ℕ) (x : List Lit) (c : Case) (front : List (List Line)) (p : List Line) → k < length inv → c ≡ f (get_or inv k x) → AreProofs (map f (take k inv)) front → IsProofOf c p
    → AreProofs (map f (take (k + 1) inv)) (front ++ p ∷ [])
next_proof f inv k x c front p lt is are proof =
    subst (λ (w : List Case). AreProofs w (front ++ p ∷ [])) (sym (ap (map f) (take_more inv k x lt) ∙ map-append f (take k inv) (get_or inv k x ∷ [])))
    (proofs_append (map f (take k inv)) (f (get_or inv k x) ∷ []) front (p ∷ []) are (one_proof (f (get_or inv k x)) p (subst (λ (d : Case). IsProofOf d p) is proof)))

-- the next section is the first that is refused
pub next_refused : (f : List Lit → Case) (inv : List (List Lit)) (k : ℕ) (x : List Lit) (c : Case) (front more : List (List Line)) (p : List Line) (e : Fault) → k < length inv → c ≡ f (get_or inv k x) → AreProofs (map f (take k inv)) front → IsOfCase c p (Some e)
    → IsFirstOf (map f inv) ((front ++ p ∷ []) ++ more) e
next_refused f inv k x c front more p e lt is are refused =
    subst (λ (w : List Case). IsFirstOf w ((front ++ p ∷ []) ++ more) e) (sym (ap (map f) (parts_at inv k x lt) ∙ map-append f (take k inv) (get_or inv k x ∷ drop (k + 1) inv)))
    (first_here (map f (take k inv)) (map f (drop (k + 1) inv)) (f (get_or inv k x)) front more p e are (subst (λ (d : Case). IsOfCase d p (Some e)) is refused))

pub all_proofs : (f : List Lit → Case) (inv : List (List Lit)) (k : ℕ) (front : List (List Line)) → length inv ≤ k → AreProofs (map f (take k inv)) front → AreProofs (map f inv) front
all_proofs f inv k front le are = subst (λ (w : List (List Lit)). AreProofs (map f w) front) (take_all k inv le) are

abbrev case_of : Base → List ℤ → Case
case_of b us = record { base = b; units = us }

case_is : (r b : Base) (us vs : List ℤ) → r ≡ b → us ≡ vs → case_of r us ≡ case_of b vs
case_is r b us vs base units i = record { base = base i; units = units i }

-- the case that was made is the clause's
pub init_here : (m : Parts) (inv : List (List Lit)) (k : ℕ) (x y : List Lit) (r : Base) (us : List ℤ) → x ≡ get_or inv k x → y ≡ x → r ≡ base_of (start_formula m) → us ≡ init_units m y → case_of r us ≡ init_case m (get_or inv k x)
init_here m inv k x y r us at same base units = case_is r (base_of (start_formula m)) us (init_units m (get_or inv k x)) base (units ∙ ap (init_units m) (same ∙ at))

pub step_here : (m : Parts) (b : Base) (inv : List (List Lit)) (k : ℕ) (x y : List Lit) (r : Base) (us : List ℤ) → x ≡ get_or inv k x → y ≡ x → r ≡ b → us ≡ step_units m y → case_of r us ≡ step_case m b (get_or inv k x)
step_here m b inv k x y r us at same base units = case_is r b us (step_units m (get_or inv k x)) base (units ∙ ap (step_units m) (same ∙ at))

pub bad_here : (m : Parts) (b : Base) (a : Lit) (r : Base) (us : List ℤ) → r ≡ b → us ≡ bad_units m a → case_of r us ≡ bad_case m b a
bad_here m b a r us base units = case_is r b us (bad_units m a) base units

-- it is over the latches
pub over_here : (m : Parts) (inv : List (List Lit)) (k : ℕ) (x y : List Lit) → IsInvariant m inv → k < length inv → x ≡ get_or inv k x → y ≡ x → IsOverLatches m y
over_here m inv k x y formed lt at same = clause_over m inv inv k x y formed refl lt at same

-- ---- the cases of all kinds

-- the first that is refused is an initial case, and a step case
pub initial_first : (cs ds : List Case) (d : Case) (ps qs : List (List Line)) (q : List Line) (e : Fault) → IsFirstOf cs ps e → IsFirstOf (cs ++ ds ++ d ∷ []) (ps ++ qs ++ q ∷ []) e
initial_first cs ds d ps qs q e first = first_more (cs ++ ds) (d ∷ []) (ps ++ qs) (q ∷ []) e (first_more cs ds ps qs e first)

pub steps_first : (cs ds : List Case) (d : Case) (ps qs : List (List Line)) (q : List Line) (e : Fault) → AreProofs cs ps → IsFirstOf ds qs e → IsFirstOf (cs ++ ds ++ d ∷ []) (ps ++ qs ++ q ∷ []) e
steps_first cs ds d ps qs q e are first = first_more (cs ++ ds) (d ∷ []) (ps ++ qs) (q ∷ []) e (first_behind cs ds ps qs e are first)

-- all others are proofs, and the last is judged
pub bad_last : (cs ds : List Case) (d : Case) (ps qs : List (List Line)) (q : List Line) (found : Option Fault) → AreProofs cs ps → AreProofs ds qs → IsOfCase d q found → AreOfCases (cs ++ ds ++ d ∷ []) (ps ++ qs ++ q ∷ []) found
bad_last cs ds d ps qs q found are more judged = cases_behind (cs ++ ds) (d ∷ []) (ps ++ qs) (q ∷ []) found (proofs_append cs ds ps qs are more) (cases_one d q found judged)

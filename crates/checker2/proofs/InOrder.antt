-- The sections of a certificate, one after the other.
use Rattle.std.proofs.Common.{◌≡◌, ℕ, ◌+◌, ◌*◌, ◌<◌, List, [], ◌∷◌, ◌++◌, map, length, get_or, ℤ, inl, inr, refl, sym, ◌∙◌, ap, subst, arith, below_more, length-append}
use Rattle.std.proofs.lemmas.List.{get_or-map, length-map, get_or_append_left, get_or-append-add, get_or_at, get_or_default}
use Rattle.graph.specs.declared.circuit.Lit.{Lit}
use Rattle.graph.specs.declared.parts.Parts.{Parts}
use Rattle.lrat.specs.declared.line.Line.{Line}
use Rattle.lrat.specs.declared.step_error.StepError.{StepError}
use Rattle.lrat.specs.Shared.{Base, base_of}
use Rattle.cnf.specs.Clauses.{init_units, step_units, bad_units}
use Rattle.cnf.specs.Formulas.{IsInvariant, IsOverLatches, start_formula}
use Rattle.checker2.specs.declared.check_error.CheckError.{CheckError}
use Rattle.checker2.specs.Accepted.{Case, init_case, step_case, bad_case, cases, IsProofOf, RefuteBelow}
use Rattle.checker2.specs.Causes.{IsCaseAt, IsCaseFault, IsRefusedCase, IsSectionError}

-- the initial cases, and the step cases
abbrev pub inits : Parts → List (List Lit) → List Case
inits m inv = map (init_case m) inv

abbrev pub steps : Parts → Base → List (List Lit) → List Case
steps m b inv = map (step_case m b) inv

pub case_init : (m : Parts) (b : Base) (inv : List (List Lit)) (a : Lit) (k : ℕ) (c : List Lit) → k < length inv → IsCaseAt (cases m b inv a) k (init_case m (get_or inv k c))
case_init m b inv a k c k_in d =
    let short : k < length (inits m inv) = omega (arith, length-map inv (init_case m)) in
    get_or_append_left (inits m inv ++ steps m b inv) (bad_case m b a ∷ []) d k (omega (arith, length-append (inits m inv) (steps m b inv)))
    ∙ get_or_append_left (inits m inv) (steps m b inv) d k short ∙ get_or-map (init_case m) inv k c d k_in

case_step_at : (m : Parts) (b : Base) (inv : List (List Lit)) (a : Lit) (k : ℕ) (c : List Lit) → k < length inv →
    IsCaseAt (cases m b inv a) (length (inits m inv) + k) (step_case m b (get_or inv k c))
case_step_at m b inv a k c k_in d =
    get_or_append_left (inits m inv ++ steps m b inv) (bad_case m b a ∷ []) d (length (inits m inv) + k)
    (omega (arith, length-append (inits m inv) (steps m b inv), length-map inv (step_case m b)))
    ∙ get_or-append-add (inits m inv) (steps m b inv) k d ∙ get_or-map (step_case m b) inv k c d k_in

pub case_step : (m : Parts) (b : Base) (inv : List (List Lit)) (a : Lit) (k : ℕ) (c : List Lit) → k < length inv →
    IsCaseAt (cases m b inv a) (length inv + k) (step_case m b (get_or inv k c))
case_step m b inv a k c k_in d =
    ap (λ n. get_or (cases m b inv a) (n + k) d) (sym (length-map inv (init_case m))) ∙ case_step_at m b inv a k c k_in d

pub case_bad : (m : Parts) (b : Base) (inv : List (List Lit)) (a : Lit) → IsCaseAt (cases m b inv a) (2 * length inv) (bad_case m b a)
case_bad m b inv a d =
    let many : 2 * length inv ≡ length (inits m inv ++ steps m b inv) =
    omega (arith, length-append (inits m inv) (steps m b inv), length-map inv (init_case m), length-map inv (step_case m b)) in
    ap (λ n. get_or (cases m b inv a) n d) many ∙ get_or_at (inits m inv ++ steps m b inv) (bad_case m b a) [] d (length (inits m inv ++ steps m b inv)) refl

-- the clause that was read is the one at k
pub clause_is : (inv : List (List Lit)) (k : ℕ) (x y : List Lit) → k < length inv → x ≡ get_or inv k x → y ≡ x → y ≡ get_or inv k []
clause_is inv k x y k_in at same = same ∙ at ∙ get_or_default inv k x [] k_in

-- it is over the latches
pub clause_over : (m : Parts) (inv is : List (List Lit)) (k : ℕ) (x y : List Lit) → IsInvariant m inv → is ≡ inv → k < length is → x ≡ get_or is k x → y ≡ x → IsOverLatches m y
clause_over m inv is k x y formed are k_in at same =
    subst (IsOverLatches m) (sym (clause_is is k x y k_in at same)) ((subst (IsInvariant m) (sym are) formed).clauses k [] k_in).over

-- the case that was made is the one at k
case_made : (cs : List Case) (k : ℕ) (c : Case) (b : Base) (us : List ℤ) → IsCaseAt cs k c → b ≡ c.base → us ≡ c.units → IsCaseAt cs k (record { base = b; units = us })
case_made cs k c b us at base units d = at d ∙ sym (λ i. record { base = base i; units = units i })

pub init_made : (m : Parts) (inv is : List (List Lit)) (k : ℕ) (x y : List Lit) (r : Base) (us : List ℤ) → is ≡ inv → k < length is → x ≡ get_or is k x → y ≡ x →
    r ≡ base_of (start_formula m) → us ≡ init_units m y → (b : Base) (a : Lit) → IsCaseAt (cases m b inv a) k (record { base = r; units = us })
init_made m inv is k x y r us are k_in at same base units b a =
    let inside : k < length inv = subst (λ (l : List (List Lit)). k < length l) are k_in in
    let clause : y ≡ get_or inv k [] = clause_is is k x y k_in at same ∙ ap (λ (l : List (List Lit)). get_or l k []) are in
    case_made (cases m b inv a) k (init_case m (get_or inv k [])) r us (case_init m b inv a k [] inside) base (units ∙ ap (init_units m) clause)

pub step_made : (m : Parts) (inv is : List (List Lit)) (k : ℕ) (x y : List Lit) (r : Base) (us : List ℤ) → is ≡ inv → k < length is → x ≡ get_or is k x → y ≡ x →
    (b : Base) (a : Lit) → r ≡ b → us ≡ step_units m y → IsCaseAt (cases m b inv a) (length is + k) (record { base = r; units = us })
step_made m inv is k x y r us are k_in at same b a base units =
    let inside : k < length inv = subst (λ (l : List (List Lit)). k < length l) are k_in in
    let clause : y ≡ get_or inv k [] = clause_is is k x y k_in at same ∙ ap (λ (l : List (List Lit)). get_or l k []) are in
    subst (λ (l : List (List Lit)). IsCaseAt (cases m b inv a) (length l + k) (record { base = r; units = us })) (sym are)
    (case_made (cases m b inv a) (length inv + k) (step_case m b (get_or inv k [])) r us (case_step m b inv a k [] inside) base (units ∙ ap (step_units m) clause))

pub bad_made : (m : Parts) (inv is : List (List Lit)) (r : Base) (us : List ℤ) → is ≡ inv → (b : Base) (a : Lit) → r ≡ b → us ≡ bad_units m a →
    IsCaseAt (cases m b inv a) (2 * length is) (record { base = r; units = us })
bad_made m inv is r us are b a base units =
    subst (λ (l : List (List Lit)). IsCaseAt (cases m b inv a) (2 * length l) (record { base = r; units = us })) (sym are)
    (case_made (cases m b inv a) (2 * length inv) (bad_case m b a) r us (case_bad m b inv a) base units)

-- one more section is a proof of its case
pub refute_more : (cs : List Case) (ps : List (List Line)) (k : ℕ) (c : Case) (q : List Line) → IsCaseAt cs k c → k < length ps → q ≡ get_or ps k q →
    IsProofOf c q → RefuteBelow cs ps k → RefuteBelow cs ps (k + 1)
refute_more cs ps k c q case_at k_in at proof before =
    below_more _ _ before (λ d p. subst (λ x. IsProofOf x (get_or ps k p)) (sym (case_at d)) (subst (IsProofOf c) (at ∙ get_or_default ps k q p k_in) proof))

-- the section of the case at k is the first that is refused
pub refused_here : (before : ℕ) (cs : List Case) (ps : List (List Line)) (k : ℕ) (c : Case) (q : List Line) (e : StepError) (r : CheckError) → IsCaseAt cs k c → k < length ps →
    q ≡ get_or ps k q → IsRefusedCase c q e → RefuteBelow cs ps k → IsSectionError e (before + k) r → IsCaseFault before cs ps r
refused_here before cs ps k c q e r case_at k_in at refused earlier is = elim is [
  | inl memory ↦ subst (IsCaseFault before cs ps) (sym memory.1) tt
  | inr section ↦ subst (IsCaseFault before cs ps) (sym section.1) (record {
    index = k;
    place = refl;
    stands = k_in;
    earlier = earlier;
    refused = λ d p. subst (λ x. IsRefusedCase x (get_or ps k p) e) (sym (case_at d)) (subst (λ ls. IsRefusedCase c ls e) (at ∙ get_or_default ps k q p k_in) refused);
    other = section.0;
  })
]

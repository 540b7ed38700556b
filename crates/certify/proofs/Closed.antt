-- Cases that are closed, one after the other, and their sections.
use Rattle.std.proofs.Common.{◌≡◌, ℕ, ◌+◌, ◌<◌, ◌∷◌, [], ◌++◌, List, map, length, get_or, take, All, Some, ℤ, refl, sym, ap, subst, ◌∙◌, arith, below_more, length-append, append_assoc}
use Rattle.std.proofs.lemmas.List.{get_or_append_left, get_or_at, map-append}
use Rattle.std.proofs.lemmas.Simd.{map-map}
use Rattle.graph.specs.declared.circuit.Lit.{Lit}
use Rattle.graph.specs.declared.parts.Parts.{Parts}
use Rattle.lrat.specs.declared.formula.Formula.{Formula}
use Rattle.lrat.specs.declared.line.Line.{Line}
use Rattle.lrat.specs.Limits.{IsLine}
use Rattle.lrat.specs.Shared.{Base, IsAcceptedOver}
use Rattle.cdcl_log.specs.Closings.{IsClosingOf, StaysShown, section_of}
use Rattle.cdcl_log.specs.Refuting.{Refuting}
use Rattle.cdcl_log.specs.declared.shown.Closing.{Closing}
use Rattle.cnf.specs.Clauses.{step_units, bad_units}
use Rattle.cnf.specs.Formulas.{shared_formula}
use Rattle.checker2.specs.Accepted.{Case, step_case, bad_case, IsShared}
use Rattle.certify.specs.Sections.{AreClosed, AreProofs, AreSectionsOver, CloseBelow, IsSharedBy, case_with}
use Rattle.certify.specs.declared.closed_cases.ClosedCases.{ClosedCases}
use Rattle.certify.proofs.Pairs.{one_mapped}

-- one more list of units, and its closing
closed_below : (r : Refuting) (uss : List (List ℤ)) (ks : List Closing) (us : List ℤ) (k : Closing) → length ks ≡ length uss → CloseBelow r uss ks (length ks) → IsClosingOf r us k →
    CloseBelow r (uss ++ us ∷ []) (ks ++ k ∷ []) (length ks + 1)
closed_below r uss ks us k count before shown =
    below_more _ _
    (λ i i_in d e. rw (get_or_append_left uss (us ∷ []) d i (omega (arith, count, i_in)), get_or_append_left ks (k ∷ []) e i i_in) (before i i_in d e))
    (λ d e. rw (get_or_at uss us [] d (length ks) (sym count), get_or_at ks k [] e (length ks) refl) shown)

-- one more case is closed, and what was shown stays shown
pub one_closed : (s t : ClosedCases) (us : List ℤ) (k : Closing) → AreClosed s → StaysShown s.refuter t.refuter → IsClosingOf t.refuter us k →
    t.units ≡ s.units ++ us ∷ [] → t.closings ≡ s.closings ++ k ∷ [] → AreClosed t
one_closed s t us k before stays shown units closings =
    let more : CloseBelow t.refuter (s.units ++ us ∷ []) (s.closings ++ k ∷ []) (length s.closings + 1) =
    closed_below t.refuter s.units s.closings us k before.count (λ i i_in d e. stays (get_or s.units i d) (get_or s.closings i e) (before.each i i_in d e)) shown in
    let long : length t.closings ≡ length s.closings + 1 = ap length closings ∙ length-append s.closings (k ∷ []) in
    record {
      count = let count = before.count in omega (arith, long, count, ap length units, length-append s.units (us ∷ []));
      each = λ i i_in d e. rw (units, closings) (more i (omega (arith, long, i_in)) d e);
    }

-- the closing at a place is of the units there
pub shown_at : (s : ClosedCases) (i : ℕ) (us : List ℤ) (k : Closing) → AreClosed s → i < length s.closings → us ≡ get_or s.units i us → k ≡ get_or s.closings i k → IsClosingOf s.refuter us k
shown_at s i us k closed i_in at_units at_closing =
    subst (λ vs. IsClosingOf s.refuter vs k) (sym at_units) (subst (IsClosingOf s.refuter (get_or s.units i us)) (sym at_closing) (closed.each i i_in us k))

-- each closing is of some units
pub units_of : (s : ClosedCases) → AreClosed s → All (λ k. (us : List ℤ) × IsClosingOf s.refuter us k) s.closings
units_of s closed = λ i k i_in. (get_or s.units i [], closed.each i i_in [] k)

-- one more section, of the case at its place
pub one_section : (b : Base) (top : ℕ) (s : ClosedCases) (cs : List Case) (ps qs : List (List Line)) (i : ℕ) (us : List ℤ) (k : Closing) (p : List Line) → AreClosed s → AreSectionsOver b top s →
    i < length s.closings → us ≡ get_or s.units i us → k ≡ get_or s.closings i k → p ≡ section_of top us k → All IsLine p → qs ≡ ps ++ p ∷ [] →
    AreProofs (cs ++ map (case_with b) (take i s.units)) ps → AreProofs (cs ++ map (case_with b) (take (i + 1) s.units)) qs
one_section b top s cs ps qs i us k p closed over i_in at_units at_closing is lines same are =
    let shown : IsClosingOf s.refuter us k = shown_at s i us k closed i_in at_units at_closing in
    let accepted : IsAcceptedOver b us (section_of top us k) =
    subst (λ c. (vs : List ℤ) → IsClosingOf s.refuter vs c → IsAcceptedOver b vs (section_of top vs c)) (sym at_closing) (over i k i_in) us shown in
    one_mapped cs ps qs (case_with b) s.units i us (case_with b us) p (omega (arith, closed.count, i_in)) (ap (case_with b) at_units) (lines, subst (IsAcceptedOver b us) (sym is) accepted) same are

-- the cases of the steps and of the bad literal, by their units
pub others_are : (m : Parts) (b : Base) (inv : List (List Lit)) (a : Lit) (cs : List Case) →
    cs ++ map (case_with b) (map (step_units m) inv ++ bad_units m a ∷ []) ≡ cs ++ map (step_case m b) inv ++ bad_case m b a ∷ []
others_are m b inv a cs =
    ap (λ ks. cs ++ ks)
    (map-append (case_with b) (map (step_units m) inv) (bad_units m a ∷ []) ∙ ap (λ ks. ks ++ bad_case m b a ∷ []) (map-map (case_with b) (step_units m) inv))
    ∙ sym (append_assoc cs (map (step_case m b) inv) (bad_case m b a ∷ []))

-- what is shared by a formula's lines is shared by the step cases and the bad case
pub shared_of : (m : Parts) (inv : List (List Lit)) (f : Formula) (l : List Line) (b : Base) → f ≡ shared_formula m inv → IsSharedBy f l b → IsShared m inv (Some l) b
shared_of m inv f l b is shared = subst (λ g. IsSharedBy g l b) is shared

-- Proofs, each of its own case, one after the other.
use Rattle.std.proofs.Common.{◌≡◌, ℕ, ◌+◌, ◌*◌, ◌<◌, ◌≤◌, true, List, [], ◌∷◌, ◌++◌, map, length, get_or, take, All, ℤ, refl, sym, ap, subst, ◌∙◌, arith, length-append, append_assoc}
use Rattle.std.proofs.lemmas.List.{get_or_append_left, get_or_at, length-map, map_more}
use Rattle.graph.specs.declared.circuit.Lit.{Lit}
use Rattle.graph.specs.declared.parts.Parts.{Parts}
use Rattle.lrat.specs.declared.formula.Formula.{Formula}
use Rattle.lrat.specs.declared.line.Line.{Line}
use Rattle.lrat.specs.Limits.{IsLine}
use Rattle.lrat.specs.Proofs.{IsAcceptedProof}
use Rattle.lrat.specs.Shared.{Base}
use Rattle.lrat.specs.Stages.{Stage, GoAlong}
use Rattle.lrat.proofs.Sharing.{over_law}
use Rattle.certificate.specs.declared.certificate.Certificate.{Certificate}
use Rattle.cdcl_log.specs.Logged.{with_units}
use Rattle.checker2.specs.Accepted.{Case, init_case, step_case, bad_case, cases, IsAcceptedFor, IsGood, IsProofOf, IsShared, RefuteBelow}
use Rattle.checker2.proofs.InOrder.{refute_more}
use Rattle.certify.specs.Sections.{AreProofs, case_over}

-- a refutation of a formula with units is one of the units over what the formula shares
pub proof_over : (f : Formula) (us : List ℤ) (p : List Line) → All IsLine p → IsAcceptedProof (with_units f us) p → IsProofOf (case_over f us) p
proof_over f us p lines accepted =
    (lines, subst (λ (s : Stage). (t : Stage) × GoAlong f.vars s p t × (t.closed ≡ true)) (sym (over_law f.vars f.clauses us)) accepted)

pub none_yet : AreProofs [] []
none_yet = record { count = refl; each = λ k k_in. absurd (omega arith) }

-- what is refuted stays refuted where more is added to both
refute_wider : (cs : List Case) (ps : List (List Line)) (c : Case) (p : List Line) → AreProofs cs ps → RefuteBelow (cs ++ c ∷ []) (ps ++ p ∷ []) (length ps)
refute_wider cs ps c p are k k_in d q =
    let inside : k < length cs = let count = are.count in omega arith in
    rw (get_or_append_left cs (c ∷ []) d k inside, get_or_append_left ps (p ∷ []) q k k_in) (are.each k k_in d q)

-- one more case, and its proof
pub one_more : (cs : List Case) (ps : List (List Line)) (c : Case) (p : List Line) → AreProofs cs ps → IsProofOf c p → AreProofs (cs ++ c ∷ []) (ps ++ p ∷ [])
one_more cs ps c p are proof =
    let more : RefuteBelow (cs ++ c ∷ []) (ps ++ p ∷ []) (length ps + 1) =
    refute_more (cs ++ c ∷ []) (ps ++ p ∷ []) (length ps) c p (λ d. get_or_at cs c [] d (length ps) (sym are.count)) (omega (arith, length-append ps (p ∷ [])))
    (sym (get_or_at ps p [] p (length ps) refl)) proof (refute_wider cs ps c p are) in
    record {
      count = let count = are.count in omega (arith, length-append cs (c ∷ []), length-append ps (p ∷ []));
      each = λ k k_in. more k (omega (arith, length-append ps (p ∷ [])));
    }

-- one more of the cases of a list, and its proof
pub one_mapped : {X : Type 0} (cs : List Case) (ps qs : List (List Line)) (h : X → Case) (xs : List X) (k : ℕ) (d : X) (c : Case) (p : List Line) → k < length xs →
    c ≡ h (get_or xs k d) → IsProofOf c p → qs ≡ ps ++ p ∷ [] → AreProofs (cs ++ map h (take k xs)) ps → AreProofs (cs ++ map h (take (k + 1) xs)) qs
one_mapped cs ps qs h xs k d c p k_in is proof same are =
    rw (map_more h xs k d k_in, sym is, sym (append_assoc cs (map h (take k xs)) (c ∷ [])), same)
    (one_more (cs ++ map h (take k xs)) ps c p are proof)

-- a case is what its cases share, with its units
pub case_is : (f g : Formula) (us vs : List ℤ) → f ≡ g → us ≡ vs → with_units f us ≡ with_units g vs
case_is f g us vs same units = ap (λ h. with_units h us) same ∙ ap (with_units g) units

pub case_over_is : (f g : Formula) (us vs : List ℤ) → f ≡ g → us ≡ vs → case_over f us ≡ case_over g vs
case_over_is f g us vs same units = ap (λ h. case_over h us) same ∙ ap (case_over g) units

-- two cases for each clause, and one more
count_of_cases : (m : Parts) (b : Base) (inv : List (List Lit)) (a : Lit) → length (cases m b inv a) ≡ 2 * length inv + 1
count_of_cases m b inv a =
    omega (
      arith,
      length-append (map (init_case m) inv ++ map (step_case m b) inv) (bad_case m b a ∷ []),
      length-append (map (init_case m) inv) (map (step_case m b) inv),
      length-map inv (init_case m),
      length-map inv (step_case m b),
    )

-- proofs of all cases make a certificate that is accepted
pub accepted : (m : Parts) (c : Certificate) (a : Lit) (inv : List (List Lit)) (b : Base) → c.invariant ≡ inv → length inv ≤ 4194303 → All (IsGood m) inv →
    IsShared m inv c.lemmas b → AreProofs (cases m b inv a) c.sections → IsAcceptedFor m a c
accepted m c a inv b is_inv few good shared are = record {
  few = subst (λ (i : List (List Lit)). length i ≤ 4194303) (sym is_inv) few;
  count = are.count ∙ count_of_cases m b inv a ∙ ap (λ (i : List (List Lit)). 2 * length i + 1) (sym is_inv);
  clauses = subst (All (IsGood m)) (sym is_inv) good;
  base = b;
  shared = subst (λ (i : List (List Lit)). IsShared m i c.lemmas b) (sym is_inv) shared;
  sections = subst (λ (i : List (List Lit)). RefuteBelow (cases m b i a) c.sections (length c.sections)) (sym is_inv) are.each;
}

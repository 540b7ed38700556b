-- A certificate with a cause is not accepted.
use Rattle.base.specs.Witness.{witness}
use Rattle.std.proofs.Common.{◌≡◌, ◌≢◌, ℕ, ◌+◌, true, false, List, [], ◌∷◌, ◌++◌, map, slice_index_or, All, ℤ, Option, None, Some, ◌∙◌, ap, subst, inl, inr, arith}
use Rattle.std.specs.FinMap as fin
use Rattle.std.specs.Prelude.{IfSome}
use Rattle.std.proofs.lemmas.List.Elements.{All-head, All-tail}
use Rattle.graph.specs.declared.circuit.Lit.{Lit}
use Rattle.graph.specs.declared.circuit.Latch.{Latch}
use Rattle.graph.specs.declared.circuit.Gate.{Gate}
use Rattle.graph.specs.declared.circuit.Property.{Property}
use Rattle.graph.specs.declared.parts.Parts.{Parts}
use Rattle.graph.specs.WellFormed.{IsWellFormed}
use Rattle.lrat.specs.declared.fault.Fault.{Fault}
use Rattle.lrat.specs.declared.fault.Fault.TheVariants.{OutOfMemory as NoMemory}
use Rattle.lrat.specs.declared.formula.Formula.{Formula}
use Rattle.lrat.specs.declared.line.Line.{Line}
use Rattle.lrat.specs.Lines.{IsAcceptedLine}
use Rattle.lrat.specs.Proofs.{HaltsAt, IsAcceptedProof, first_stage}
use Rattle.lrat.specs.Stages.{Stage, GoAlong}
use Rattle.lrat.proofs.Complete.{refused_not}
use Rattle.lrat.proofs.Exact.{along_next_is, along_unique}
use Rattle.lrat.proofs.Halting.{halts_not}
use Rattle.cnf.specs.Formulas.{bad_formula}
use Rattle.cnf.specs.Evidences.{Evidence}
use Rattle.extension.specs.Accepted.{Derives, IsAcceptedCertificate, IsAcceptedFor, IsShowable, bad_of, begin_formula, circuit_of, grown_by, pair_formula}
use Rattle.extension.specs.Extended.{IsExtension, extended}
use Rattle.extension.specs.Inductive.{IsOverAll, clause_from}
use Rattle.certificate3.specs.Texts.{Certificate, Later, Proofs, Shown, SpellsCertificate}
use Rattle.certificate3.proofs.CertificateLaws.{one_certificate}
use Rattle.checker3.specs.declared.check_error.CheckError.{CheckError}
use Rattle.checker3.specs.declared.check_error.CheckError.TheVariants.{NoProperty, TooManyRounds, Limit, NotExtension, Outside, Line as Fails}
use Rattle.checker3.specs.Judged.{HasLater, HasProofs, IsDerived, IsJudged, IsJudgedFor, IsNoExtension, IsOutside, IsProvedOver, IsRefuted, IsUnshowable, proofs_in}

-- ---- lines and hints

-- a line halts, so that the lines lead nowhere
halts_nowhere : (n : ℕ) (s t : Stage) (ls : List Line) (e : Fault) (k : ℕ) → e ≢ NoMemory witness → HaltsAt n s ls e k → GoAlong n s ls t → ⊥
halts_nowhere n s t ls e k ne halt along =
    let next = along_next_is n halt.done halt.line halt.later s halt.reached t halt.along (subst (λ us. GoAlong n s us t) halt.are along) in
    halts_not n halt.reached halt.line e halt.halts ne next.0 next.1

derived_not : (f : Formula) (cs : List (List ℤ)) (s : Shown) (e : Fault) → IsDerived f cs s (Some e) → Derives f s.lines s.hints cs → ⊥
derived_not f cs s e (ne, inl (k, halt)) derives = halts_nowhere f.vars (first_stage f) derives.reached s.lines e k ne halt derives.along
derived_not f cs s e (ne, inr (t, along, unshown)) derives =
    let same : derives.reached ≡ t = along_unique f.vars s.lines (first_stage f) derives.reached t derives.along along in
    let shown : IsAcceptedLine f.vars (fin.get t.present) (slice_index_or cs unshown.place []) (slice_index_or s.hints unshown.place []) =
    subst (λ (r : Stage). IsAcceptedLine f.vars (fin.get r.present) (slice_index_or cs unshown.place []) (slice_index_or s.hints unshown.place [])) same (derives.shown unshown.place unshown.stands) in
    refused_not f.vars (fin.get t.present) (slice_index_or cs unshown.place []) (slice_index_or s.hints unshown.place []) e unshown.refused ne shown

refuted_not : (f : Formula) (ls : List Line) (e : Fault) → IsRefuted f ls (Some e) → IsAcceptedProof f ls → ⊥
refuted_not f ls e (ne, k, inl halt) accepted = halts_nowhere f.vars (first_stage f) accepted.0 ls e k ne halt accepted.1
refuted_not f ls e (ne, k, inr (is, stays)) accepted =
    let same = along_unique f.vars ls (first_stage f) stays.reached accepted.0 stays.along accepted.1 in
    let shut : stays.reached.closed ≡ true = ap (λ (s : Stage). s.closed) same ∙ accepted.2 in
    let stays_open : stays.reached.closed ≡ false = stays.open_end in
    cc

-- ---- clauses and proofs

all_here : {A : Type 0} (P : A → Type 0) (before : List A) (x : A) (after : List A) → All P (before ++ x ∷ after) → P x
all_here P [] x after all = All-head P x after all
all_here P (y ∷ before) x after all = all_here P before x after (All-tail P y (before ++ x ∷ after) all)

outside_not : (m : Parts) (inv : List (List Lit)) (k : ℕ) → IsOutside m inv k → All (IsOverAll m) inv → ⊥
outside_not m inv k out all = out.outside (all_here (IsOverAll m) out.before out.clause out.after (subst (All (IsOverAll m)) out.are all))

later_not : (m : Parts) (a : Lit) (inv : List (List Lit)) (l : Later) (e : Fault) → HasLater m a inv l (Some e) → HasLater m a inv l None → ⊥
later_not m a inv l e (inl step) has = derived_not (pair_formula m inv) (map (clause_from m (m.max_var + 1)) inv) l.step e step has.0
later_not m a inv l e (inr (step, last)) has = refuted_not (bad_formula m inv a) l.last e last has.1.1

proofs_not : (m : Parts) (a : Lit) (inv : List (List Lit)) (p : Proofs) (e : Fault) → HasProofs m a inv p (Some e) → HasProofs m a inv p None → ⊥
proofs_not m a inv p e (inl first) has = derived_not (begin_formula m) (map (clause_from m 0) inv) p.first e first has.0
proofs_not m a inv p e (inr (first, later)) has = later_not m a inv p.later e later has.1

-- ---- a certificate

proved_not : (m : Parts) (a : Lit) (e : Evidence) (r : CheckError) → IsProvedOver m a e (Some r) → All (IsOverAll m) e.invariant → HasProofs m a e.invariant (proofs_in e) None → ⊥
proved_not m a e (Outside k) out over has = outside_not m e.invariant k out over
proved_not m a e (Fails fault) (all, fails) over has = proofs_not m a e.invariant (proofs_in e) fault fails has
proved_not m a e _ none over has = none

extension_not : (m : Parts) (ls : List Latch) (gs : List Gate) (r : CheckError) → IsNoExtension m ls gs r → IsExtension m ls gs → IsWellFormed (extended m ls gs) → ⊥
extension_not m ls gs Limit over extends well = let within = well.limits.max_var in omega (arith, over, within)
extension_not m ls gs NotExtension none extends well = none (record { extends = extends; well_formed = well })
extension_not m ls gs _ none extends well = none

judged_not : (m : Parts) (a : Lit) (e : Evidence) (r : CheckError) → IsJudgedFor m a e (Some r) → IsAcceptedFor m a e → ⊥
judged_not m a e r (inl none) is = extension_not m e.latches e.gates r none is.extends is.well_formed
judged_not m a e r (inr (grown, proved)) is = proved_not (grown_by m e) a e r proved is.clauses (is.first, (is.step, (is.lines, is.last)))

unshowable_not : (m : Parts) (p : Property) (k : ℕ) (r : CheckError) → IsUnshowable m p k r → IsShowable m p k → ⊥
unshowable_not m p k NoProperty none is = none is.exists
unshowable_not m p k TooManyRounds (there, many) is = let few = is.few in omega (arith, many, few)
unshowable_not m p k Limit (there, few, over) is = let within = is.within in omega (arith, over, within)
unshowable_not m p k _ none is = none

pub refused_not_accepted : (m : Parts) (c : Certificate) (r : CheckError) → IsJudged m c (Some r) → IsAcceptedCertificate m c.claim.property c.claim.rounds c.evidence → ⊥
refused_not_accepted m c r (inl none) is = unshowable_not m c.claim.property c.claim.rounds r none is.showable
refused_not_accepted m c r (inr (showable, judged)) is = judged_not (circuit_of m c.claim.property c.claim.rounds) (bad_of m c.claim.property c.claim.rounds) c.evidence r judged is.accepted

-- and a text that spells it spells no certificate that is
pub text_not_accepted : (m : Parts) (text : List ℕ) (c : Certificate) (x : Option CheckError) → SpellsCertificate text c → IsJudged m c x
    → IfSome x (λ r. (d : Certificate) → SpellsCertificate text d → IsAcceptedCertificate m d.claim.property d.claim.rounds d.evidence → ⊥)
text_not_accepted m text c None spells judged = tt
text_not_accepted m text c (Some r) spells judged = λ d other is.
    refused_not_accepted m c r judged (subst (λ (f : Certificate). IsAcceptedCertificate m f.claim.property f.claim.rounds f.evidence) (one_certificate text d c other spells) is)

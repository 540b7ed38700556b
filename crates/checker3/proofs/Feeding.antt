-- Lines and hints, as they come.
use Rattle.base.specs.Witness.{witness}
use Rattle.std.specs.FinMap as fin
use Rattle.std.specs.Prelude.{◌⊎◌}
use Rattle.std.proofs.Common.{◌≡◌, ◌≢◌, ℕ, zero, suc, true, false, ◌+◌, ◌<◌, ◌≤◌, List, [], ◌∷◌, ◌++◌, map, length, Option, None, Some, get_or, ℤ, refl, sym, ◌∙◌, subst, arith, inl, inr, append_assoc}
use Rattle.std.proofs.lemmas.List.{get_or_at, get_or_append_left}
use Rattle.scan.specs.Lists.{many_at}
use Rattle.scan.proofs.ListLaws.{many_reads}
use Rattle.lrat.specs.declared.fault.Fault.{Fault}
use Rattle.lrat.specs.declared.fault.Fault.TheVariants.{OutOfMemory as NoMemory, NoEmptyClause}
use Rattle.lrat.specs.declared.formula.Formula.{Formula}
use Rattle.lrat.specs.declared.line.Line.{Line}
use Rattle.lrat.specs.Courses.{Course, at_formula}
use Rattle.lrat.specs.Halts.{Halts}
use Rattle.lrat.specs.Lines.{IsAcceptedLine}
use Rattle.lrat.specs.Literals.{Finder}
use Rattle.lrat.specs.Proofs.{first_stage}
use Rattle.lrat.specs.Refusals.{IsRefusedLine}
use Rattle.lrat.specs.Stages.{Stage, GoAlong, Goes}
use Rattle.graph.specs.declared.circuit.Lit.{Lit}
use Rattle.graph.specs.declared.parts.Parts.{Parts}
use Rattle.cnf.specs.Clauses.{literal}
use Rattle.cnf.specs.Formulas.{bad_formula}
use Rattle.certificate3.specs.Reading.{hints_at}
use Rattle.certificate3.specs.Texts.{Later, Shown}
use Rattle.certificate3.proofs.HintLaws.{hints_reads}
use Rattle.checker3.specs.Judged.{AreFed, AreHinted, AreShown, HasLater, HasProofs, HoldsFirst, HoldsNext, IsDerived, IsRefuted}

-- ---- lines

-- one line more leads on
pub along_line : (n : ℕ) (ls : List Line) (s t u : Stage) (l : Line) → GoAlong n s ls t → Goes n t l u → GoAlong n s (ls ++ l ∷ []) u
along_line n [] s t u l same goes = (u, subst (λ r. Goes n r l u) same goes, refl)
along_line n (x ∷ ls) s t u l (v, one, along) goes = (v, one, along_line n ls v t u l along goes)

-- a line halts, whatever follows it
pub fed_halts : (n : ℕ) (s t u : Stage) (front : List Line) (line : Line) (e : Fault) (more : List Line) (x : Option Fault) → GoAlong n s front t → Halts n t line e → (x ≡ Some e) × (e ≢ NoMemory witness) → AreFed n s u ((front ++ line ∷ []) ++ more) x
fed_halts n s t u front line e more x along halts found =
    subst (λ o. AreFed n s u ((front ++ line ∷ []) ++ more) o) (sym found.0)
    (found.1, length front, record { done = front; line = line; later = more; reached = t; are = append_assoc front (line ∷ []) more; place = refl; along = along; halts = halts })

-- ---- hints

pub clause_here : (n o : ℕ) (inv : List (List Lit)) (k : ℕ) → get_or (map (map (literal n o)) inv) k [] ≡ map (literal n o) (get_or inv k [])
clause_here n o [] k = refl
clause_here n o (c ∷ inv) zero = refl
clause_here n o (c ∷ inv) (suc k) = clause_here n o inv k

below_or : (i k : ℕ) → (i < k) ⊎ (k ≤ i)
below_or i zero = inr (omega arith)
below_or zero (suc k) = inl (omega arith)
below_or (suc i) (suc k) = elim (below_or i k) [ inl less ↦ inl (omega (arith, less)) | inr more ↦ inr (omega (arith, more)) ]

-- one clause more is shown
pub shown_more : (n : ℕ) (m : Finder) (cs : List (List ℤ)) (front : List (List ℕ)) (h : List ℕ) (k : ℕ) → length front ≡ k → AreShown n m cs front k → IsAcceptedLine n m (get_or cs k []) h → AreShown n m cs (front ++ h ∷ []) (k + 1)
shown_more n m cs front h k len shown one i lt = elim (below_or i k) [
  | inl less ↦ subst (λ (w : List ℕ). IsAcceptedLine n m (get_or cs i []) w) (sym (get_or_append_left front (h ∷ []) [] i (omega (arith, len, less)))) (shown i less)
  | inr more ↦
      let same : i ≡ k = omega (arith, lt, more) in
      rw same (subst (λ (w : List ℕ). IsAcceptedLine n m (get_or cs k []) w) (sym (get_or_at front h [] [] k len)) one)
]

shown_before : (n : ℕ) (m : Finder) (cs : List (List ℤ)) (front more : List (List ℕ)) (k : ℕ) → length front ≡ k → AreShown n m cs front k → AreShown n m cs (front ++ more) k
shown_before n m cs front more k len shown i lt = subst (λ (w : List ℕ). IsAcceptedLine n m (get_or cs i []) w) (sym (get_or_append_left front more [] i (omega (arith, len, lt)))) (shown i lt)

-- a clause is not shown, whatever follows it
pub unshown_here : (n : ℕ) (m : Finder) (cs : List (List ℤ)) (front : List (List ℕ)) (h : List ℕ) (more : List (List ℕ)) (k : ℕ) (e : Fault) (x : Option Fault) → length front ≡ k → k < length cs → AreShown n m cs front k
    → IsRefusedLine n m (get_or cs k []) h e → (x ≡ Some e) × (e ≢ NoMemory witness) → AreHinted n m cs ((front ++ h ∷ []) ++ more) x
unshown_here n m cs front h more k e x len lt shown refused found =
    let whole : (front ++ h ∷ []) ++ more ≡ front ++ (h ∷ more) = append_assoc front (h ∷ []) more in
    subst (λ o. AreHinted n m cs ((front ++ h ∷ []) ++ more) o) (sym found.0)
    (subst (λ (w : List (List ℕ)). AreHinted n m cs w (Some e)) (sym whole) (
      found.1,
      record {
        place = k;
        stands = lt;
        earlier = shown_before n m cs front (h ∷ more) k len shown;
        refused = subst (λ (w : List ℕ). IsRefusedLine n m (get_or cs k []) w e) (sym (get_or_at front h more [] k len)) refused;
      },
    ))

many_hints : (n : ℕ) (bytes : List ℕ) (hs : List (List ℕ)) (rest : List ℕ) → many_at hints_at n bytes ≡ Some (hs, rest) → length hs ≡ n
many_hints n bytes hs rest e = ((many_reads hints_reads n).sound bytes hs rest e).1.0

-- all are shown
pub all_shown : (n : ℕ) (m : Finder) (cs : List (List ℤ)) (front : List (List ℕ)) (k : ℕ) (bytes rest : List ℕ) → length front ≡ k → AreShown n m cs front k → many_at hints_at (length cs) bytes ≡ Some (front, rest) → AreHinted n m cs front None
all_shown n m cs front k bytes rest len shown e =
    let many : length front ≡ length cs = many_hints (length cs) bytes front rest e in
    (many, subst (AreShown n m cs front) (sym len ∙ many) shown)

-- ---- a section

by_hints : (f : Formula) (cs : List (List ℤ)) (t : Stage) (lines : List Line) (hints : List (List ℕ)) (x : Option Fault) → AreFed f.vars (first_stage f) t lines None → AreHinted f.vars (fin.get t.present) cs hints x
    → IsDerived f cs (record { lines = lines; hints = hints }) x
by_hints f cs t lines hints None fed hinted = record { lines = fed.0; reached = t; along = fed.1; count = hinted.0; shown = hinted.1 }
by_hints f cs t lines hints (Some e) fed hinted = (hinted.0, inr (t, fed.1, hinted.1))

pub derived_from : (f : Formula) (cs : List (List ℤ)) (r : Course) (t : Stage) → r ≡ at_formula f → (lines : List Line) (hints : List (List ℕ)) (x : Option Fault) → AreFed r.base.vars r.stage t lines None → AreHinted r.base.vars (fin.get t.present) cs hints x
    → IsDerived f cs (record { lines = lines; hints = hints }) x
derived_from f cs r t is lines hints x fed hinted =
    by_hints f cs t lines hints x (subst (λ (q : Course). AreFed q.base.vars q.stage t lines None) is fed) (subst (λ (q : Course). AreHinted q.base.vars (fin.get t.present) cs hints x) is hinted)

-- a line halts, and the hints are not looked at
pub derived_halts : (f : Formula) (cs : List (List ℤ)) (r : Course) (t : Stage) (e : Fault) → r ≡ at_formula f → (lines : List Line) (hints : List (List ℕ)) → AreFed r.base.vars r.stage t lines (Some e)
    → IsDerived f cs (record { lines = lines; hints = hints }) (Some e)
derived_halts f cs r t e is lines hints fed =
    let (ne, k, halts) = subst (λ (q : Course). AreFed q.base.vars q.stage t lines (Some e)) is fed in
    (ne, inl (k, halts))

-- ---- the last section

refuted_with : (f : Formula) (t : Stage) (lines : List Line) → AreFed f.vars (first_stage f) t lines None → t.closed ≡ true → IsRefuted f lines None
refuted_with f t lines fed closed = (fed.0, (t, fed.1, closed))

pub refuted_closed : (f : Formula) (r : Course) (t : Stage) → r ≡ at_formula f → (lines : List Line) → AreFed r.base.vars r.stage t lines None → t.closed ≡ true → IsRefuted f lines None
refuted_closed f r t is lines fed closed = refuted_with f t lines (subst (λ (q : Course). AreFed q.base.vars q.stage t lines None) is fed) closed

pub refuted_halts : (f : Formula) (r : Course) (t : Stage) (e : Fault) → r ≡ at_formula f → (lines : List Line) → AreFed r.base.vars r.stage t lines (Some e) → IsRefuted f lines (Some e)
refuted_halts f r t e is lines fed =
    let (ne, k, halts) = subst (λ (q : Course). AreFed q.base.vars q.stage t lines (Some e)) is fed in
    (ne, k, inl halts)

open_with : (f : Formula) (t : Stage) (e : Fault) (lines : List Line) → AreFed f.vars (first_stage f) t lines None → e ≡ NoEmptyClause → t.closed ≡ false → IsRefuted f lines (Some e)
open_with f t e lines fed is_open stays =
    let ne : e ≢ NoMemory witness = λ memory. let same : NoEmptyClause ≡ NoMemory witness = sym is_open ∙ memory in cc in
    (ne, length lines, inr (is_open, record { reached = t; along = fed.1; open_end = stays; place = refl }))

pub refuted_open : (f : Formula) (r : Course) (t : Stage) (e : Fault) → r ≡ at_formula f → (lines : List Line) → AreFed r.base.vars r.stage t lines None → e ≡ NoEmptyClause → t.closed ≡ false → IsRefuted f lines (Some e)
refuted_open f r t e is lines fed is_open stays = open_with f t e lines (subst (λ (q : Course). AreFed q.base.vars q.stage t lines None) is fed) is_open stays

-- ---- the sections together

pub has_later : (m : Parts) (a : Lit) (inv : List (List Lit)) (s : Shown) (lines : List Line) (x : Option Fault) → HoldsNext m inv s None → IsRefuted (bad_formula m inv a) lines x → HasLater m a inv (record { step = s; last = lines }) x
has_later m a inv s lines None derived refuted = (derived, refuted)
has_later m a inv s lines (Some e) derived refuted = inr (derived, refuted)

pub has_proofs : (m : Parts) (a : Lit) (inv : List (List Lit)) (s : Shown) (l : Later) (x : Option Fault) → HoldsFirst m inv s None → HasLater m a inv l x → HasProofs m a inv (record { first = s; later = l }) x
has_proofs m a inv s l None derived has = (derived, has)
has_proofs m a inv s l (Some e) derived has = inr (derived, has)

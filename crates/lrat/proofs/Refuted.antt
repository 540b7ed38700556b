-- Nothing satisfies a formula that has an accepted proof.
use Rattle.std.proofs.Common.{◌≡◌, ℕ, ◌+◌, Bool, true, false, cond, List, [], ◌∷◌, Option, None, Some, All, ℤ, map, unsigned_abs, refl, sym, ◌∙◌, subst, arith, length, ◌<◌, take, get_or, ◌++◌}
use Rattle.std.specs.FinMap as fin
use Rattle.std.specs.Ordering.{nat_cmp, eq_by_cmp}
use Rattle.std.specs.Cmp.{nat_cmp_total}
use Rattle.std.proofs.lemmas.List.Elements.{All-head, All-tail}
use Rattle.lrat.specs.Literals.{IsSatisfied, Satisfies}
use Rattle.lrat.specs.Store.{ById}
use Rattle.lrat.specs.Limits.{IsLine}
use Rattle.lrat.specs.Stages.{Stage, TakesOut, is_nil, Goes, GoAlong}
use Rattle.lrat.specs.Proofs.{numbered_from, first_stage, IsAcceptedProof, Solves}
use Rattle.lrat.specs.declared.formula.Formula.{Formula}
use Rattle.lrat.specs.declared.line.Line.{Line}
use Rattle.lrat.specs.declared.line.Line.TheVariants.{Add, Delete}
use Rattle.lrat.proofs.Sound.{shown_true}
use Rattle.lrat.proofs.Numbered.{take_next}

some_is : {A : Type 0} (x y : A) → Some x ≡ Some y → x ≡ y
some_is x y e = cc

none_is : {A : Type 0} (x : A) → None ≡ Some x → ⊥
none_is x e = cc

by_cond : (v : ℕ → Bool) (b : Bool) (x y : Option (List ℤ)) (d : List ℤ) → ((e : List ℤ) → x ≡ Some e → IsSatisfied v e) → ((e : List ℤ) → y ≡ Some e → IsSatisfied v e) → cond b x y ≡ Some d → IsSatisfied v d
by_cond v true x y d p q e = p d e
by_cond v false x y d p q e = q d e

inserted_true : (v : ℕ → Bool) (m : ById) (id : ℕ) (c : List ℤ) → Satisfies v (fin.get m) → IsSatisfied v c → Satisfies v (fin.get (fin.insert m id c))
inserted_true v m id c sat yes_ q d e =
    by_cond v (eq_by_cmp nat_cmp q id) (Some c) (fin.get m q) d (λ f h. subst (IsSatisfied v) (some_is c f h) yes_) (λ f h. sat q f h) (sym (fin.get-insert nat_cmp_total m id c q) ∙ e)

removed_true : (v : ℕ → Bool) (m : ById) (id : ℕ) → Satisfies v (fin.get m) → Satisfies v (fin.get (fin.remove m id))
removed_true v m id sat q d e =
    by_cond v (eq_by_cmp nat_cmp q id) None (fin.get m q) d (λ f h. absurd (none_is f h)) (λ f h. sat q f h) (sym (fin.get-remove nat_cmp_total m id q) ∙ e)

taken_true : (v : ℕ → Bool) (ids : List ℕ) (m n : ById) → Satisfies v (fin.get m) → TakesOut m ids n → Satisfies v (fin.get n)
taken_true v [] m n sat same = subst (λ u. Satisfies v (fin.get u)) (sym same) sat
taken_true v (id ∷ ids) m n sat takes = taken_true v ids (fin.remove m id) n (removed_true v m id sat) takes.1

pub numbered_true : (v : ℕ → Bool) (k : ℕ) (cs : List (List ℤ)) (m : ById) → Satisfies v (fin.get m) → All (IsSatisfied v) cs → Satisfies v (fin.get (numbered_from k cs m))
numbered_true v k [] m sat all = sat
numbered_true v k (c ∷ cs) m sat all =
    numbered_true v (k + 1) cs (fin.insert m k c) (inserted_true v m k c sat (All-head (IsSatisfied v) c cs all)) (All-tail (IsSatisfied v) c cs all)

pub empty_true : (v : ℕ → Bool) → Satisfies v (fin.get {R = nat_cmp} fin.empty)
empty_true v q d e = absurd (none_is d (sym (fin.get-empty nat_cmp q) ∙ e))

-- the clauses that are present are true, and the empty one did not come
pub record Holds (v : ℕ → Bool) (s : Stage) : Type 0 where
  pub sat : Satisfies v (fin.get s.present)
  pub open_ : s.closed ≡ true → ⊥

no_empty : (v : ℕ → Bool) (c : List ℤ) → IsSatisfied v c → is_nil c ≡ true → ⊥
no_empty v [] (l, (k, lt, at), yes_) e = omega arith
no_empty v (l ∷ c) sat e = cc

goes_true : (v : ℕ → Bool) (n : ℕ) (s : Stage) (l : Line) (t : Stage) → IsLine l → Holds v s → Goes n s l t → Holds v t
goes_true v n s (Add id c hints) t line holds goes =
    let yes_ : IsSatisfied v c = shown_true v (fin.get s.present) c (map unsigned_abs hints) (λ k d lt. (line.1 k d lt).0) holds.sat goes.3.shown in
    subst (Holds v) (sym goes.4) (record { sat = inserted_true v s.present id c holds.sat yes_; open_ = no_empty v c yes_ })
goes_true v n s (Delete id ids) t line holds goes =
    record { sat = taken_true v ids s.present t.present holds.sat goes.3; open_ = λ e. let f = goes.2 in cc }

pub along_true : (v : ℕ → Bool) (n : ℕ) (ls : List Line) (s t : Stage) → All IsLine ls → Holds v s → GoAlong n s ls t → Holds v t
along_true v n [] s t lines holds same = subst (Holds v) (sym same) holds
along_true v n (l ∷ ls) s t lines holds along =
    along_true v n ls along.0 t (All-tail IsLine l ls lines) (goes_true v n s l along.0 (All-head IsLine l ls lines) holds along.1) along.2

-- nothing satisfies a refuted formula
pub refuted_false : (f : Formula) (ls : List Line) → All IsLine ls → IsAcceptedProof f ls → (v : ℕ → Bool) → Solves v f → ⊥
refuted_false f ls lines refuted v solves =
    (along_true v f.vars ls (first_stage f) refuted.0 lines
    (record { sat = numbered_true v 1 f.clauses fin.empty (empty_true v) solves; open_ = λ e. cc })
    refuted.1).open_ refuted.2

along_more : (n : ℕ) (ls : List Line) (s t u : Stage) (l : Line) → GoAlong n s ls t → Goes n t l u → GoAlong n s (ls ++ l ∷ []) u
along_more n [] s t u l same goes = (u, subst (λ w. Goes n w l u) same goes, refl)
along_more n (k ∷ ls) s t u l along goes = (along.0, along.1, along_more n ls along.0 t u l along.2 goes)

pub along_next : (n : ℕ) (ls : List Line) (i : ℕ) (s t u : Stage) (x l : Line) → i < length ls → GoAlong n s (take i ls) t → x ≡ get_or ls i l → Goes n t x u → GoAlong n s (take (i + 1) ls) u
along_next n ls i s t u x l lt along at goes =
    rw (take_next ls i l lt) (along_more n (take i ls) s t u (get_or ls i l) along (subst (λ y. Goes n t y u) at goes))

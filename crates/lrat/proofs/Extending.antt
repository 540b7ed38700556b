-- Lines that several refutations share.
use Rattle.base.specs.Witness.{witness}
use Rattle.std.proofs.Common.{◌≡◌, ◌≢◌, inl, inr, ℕ, ◌+◌, ◌<◌, ◌≤◌, Bool, List, [], ◌∷◌, ◌++◌, All, length, take, drop, get_or, refl, sym, ◌∙◌, ap, subst, arith}
use Rattle.std.specs.FinMap as fin
use Rattle.std.proofs.lemmas.List.{length-take-le}
use Rattle.std.proofs.lemmas.List.Elements.{All-head, All-nil, All-tail}
use Rattle.lrat.specs.Limits.{IsLine}
use Rattle.lrat.specs.Literals.{Satisfies}
use Rattle.lrat.specs.Stages.{Stage, Goes, GoAlong}
use Rattle.lrat.specs.Proofs.{first_stage, Solves}
use Rattle.lrat.specs.Lemmas.{AddsEmpty, Extends, IsNoLemma, IsRefusedExtension}
use Rattle.lrat.specs.declared.formula.Formula.{Formula}
use Rattle.lrat.specs.declared.line.Line.{Line}
use Rattle.lrat.specs.declared.step_error.StepError.{StepError}
use Rattle.lrat.specs.declared.fault.Fault.{Fault}
use Rattle.lrat.specs.declared.fault.Fault.TheVariants.{OutOfMemory}
use Rattle.lrat.proofs.Exact.{parts_at, along_next_is}
use Rattle.lrat.proofs.Halting.{halts_not}
use Rattle.lrat.proofs.Numbered.{all_next}
use Rattle.lrat.proofs.Refusing.{is_memory, same_error}
use Rattle.lrat.proofs.Refuted.{along_next, along_true, numbered_true, empty_true}

abbrev IsNotEmpty : Line → Type 0
IsNotEmpty l = AddsEmpty l → ⊥

-- a line that is refused as a lemma adds the empty clause, or leads nowhere
pub no_lemma_not : (n : ℕ) (s : Stage) (l : Line) (e : Fault) → IsNoLemma n s l e → e ≢ OutOfMemory witness → (AddsEmpty l → ⊥) → (t : Stage) → Goes n s l t → ⊥
no_lemma_not n s l e (inl empty) ne some t goes = some empty.1
no_lemma_not n s l e (inr why) ne some t goes = halts_not n s l e why.1 ne t goes

pub extends_none : (n : ℕ) (s : Stage) → Extends n s [] s
extends_none n s = record { along = refl; not_empty = All-nil IsNotEmpty }

pub extends_next : (n : ℕ) (ls : List Line) (i : ℕ) (s t u : Stage) (x l : Line) → i < length ls → Extends n s (take i ls) t → x ≡ get_or ls i l → Goes n t x u → (AddsEmpty x → ⊥) → Extends n s (take (i + 1) ls) u
extends_next n ls i s t u x l lt old at goes some = record {
  along = along_next n ls i s t u x l lt old.along at goes;
  not_empty = all_next IsNotEmpty ls i l lt old.not_empty (subst IsNotEmpty at some);
}

-- the line at place i is no lemma
pub no_lemma_at : (f : Formula) (ls : List Line) (i : ℕ) (s : Stage) (x : Line) (fault : Fault) (e : StepError) → i < length ls → Extends f.vars (first_stage f) (take i ls) s → x ≡ get_or ls i x
    → IsNoLemma f.vars s x fault → e.fault ≡ fault → (fault ≢ OutOfMemory witness → e.line ≡ i) → (fault ≡ OutOfMemory witness → e.line ≡ 0) → IsRefusedExtension f ls e
no_lemma_at f ls i s x fault e lt extends at why is line none =
    elim (is_memory fault) [
      | inl memory ↦ inl (same_error e (OutOfMemory witness) 0 (is ∙ memory) (none memory))
      | inr ne ↦
          let le : i ≤ length ls = omega arith in
          inr (record {
            done = take i ls;
            line = get_or ls i x;
            later = drop (i + 1) ls;
            reached = s;
            are = parts_at ls i x lt;
            place = line ne ∙ sym (length-take-le i ls le);
            extends = extends;
            no_lemma = subst (λ y. IsNoLemma f.vars s y e.fault) at (subst (IsNoLemma f.vars s x) (sym is) why);
          })
    ]

middle : {A : Type 0} (P : A → Type 0) (xs : List A) (x : A) (ys : List A) → All P (xs ++ x ∷ ys) → P x
middle P [] x ys all = All-head P x ys all
middle P (z ∷ xs) x ys all = middle P xs x ys (All-tail P z (xs ++ x ∷ ys) all)

-- lines that are refused do not extend the formula
pub refused_extension_not : (f : Formula) (ls : List Line) (e : StepError) → IsRefusedExtension f ls e → e.fault ≢ OutOfMemory witness → (t : Stage) → Extends f.vars (first_stage f) ls t → ⊥
refused_extension_not f ls e (inl memory) ne t whole = ne (ap (λ x. x.fault) memory)
refused_extension_not f ls e (inr at) ne t whole =
    let next = along_next_is f.vars at.done at.line at.later (first_stage f) at.reached t at.extends.along (subst (λ us. GoAlong f.vars (first_stage f) us t) at.are whole.along) in
    let some : AddsEmpty at.line → ⊥ = middle IsNotEmpty at.done at.line at.later (subst (All IsNotEmpty) at.are whole.not_empty) in
    no_lemma_not f.vars at.reached at.line e.fault at.no_lemma ne some next.0 next.1

-- whatever satisfies a formula satisfies it with its lemmas
pub extended_true : (f : Formula) (ls : List Line) (t : Stage) → All IsLine ls → Extends f.vars (first_stage f) ls t → (v : ℕ → Bool) → Solves v f → Satisfies v (fin.get t.present)
extended_true f ls t lines extends v solves =
    (along_true v f.vars ls (first_stage f) t lines (record { sat = numbered_true v 1 f.clauses fin.empty (empty_true v) solves; open_ = λ e. cc }) extends.along).sat

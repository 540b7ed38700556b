-- What several refutations begin with.
use Rattle.std.proofs.Common.{◌≡◌, ℕ, ◌+◌, false, List, [], ◌∷◌, ◌++◌, length, get_or, ℤ, refl, sym, ◌∙◌, ap, arith, length-append}
use Rattle.std.specs.FinMap as fin
use Rattle.std.proofs.lemmas.List.{length-map}
use Rattle.std.proofs.lemmas.List.Elements.{All-map}
use Rattle.lrat.specs.Literals.{IsSatisfied}
use Rattle.lrat.specs.Store.{ById}
use Rattle.lrat.specs.Proofs.{numbered_from}
use Rattle.lrat.specs.Lemmas.{SharedLaw, NoLemmasLaw, base_at}
use Rattle.lrat.specs.Shared.{unit_clauses, over, OverLaw, OverSoundLaw}
use Rattle.lrat.proofs.Refuted.{numbered_true, along_true}

numbered-append : (k : ℕ) (cs ds : List (List ℤ)) (m : ById) → numbered_from k (cs ++ ds) m ≡ numbered_from (length cs + k) ds (numbered_from k cs m)
numbered-append k [] ds m = ap (λ i. numbered_from i ds m) (omega arith)
numbered-append k (c ∷ cs) ds m =
    numbered-append (k + 1) cs ds (fin.insert m k c) ∙ ap (λ i. numbered_from i ds (numbered_from (k + 1) cs (fin.insert m k c))) (omega arith)

pub over_law : OverLaw
over_law n cs us = λ i. record {
  present = sym (numbered-append 1 cs (unit_clauses us) fin.empty) i;
  top = (let e : length cs + length us ≡ length (cs ++ unit_clauses us) = omega (arith, length-append cs (unit_clauses us), length-map us (λ (l : ℤ). l ∷ [])) in e) i;
  closed = false;
}

pub over_sound_law : OverSoundLaw
over_sound_law b us ls lines refuted v sat all =
    (along_true v b.vars ls (over b us) refuted.0 lines
    (record {
      sat = numbered_true v (b.top + 1) (unit_clauses us) b.present sat (All-map (IsSatisfied v) (λ l. l ∷ []) us (λ k d k_in. (get_or us k d, (0, omega arith, refl), all k d k_in)));
      open_ = λ e. cc;
    })
    refuted.1).open_ refuted.2

pub shared_law : SharedLaw
shared_law b ls t lines along v sat =
    (along_true v b.vars ls (over b []) t lines (record { sat = sat; open_ = λ e. cc }) along).sat

pub no_lemmas_law : NoLemmasLaw
no_lemmas_law f t extends = ap (base_at f.vars) extends.along

use Rattle.std.proofs.Common.{◌≡◌, ◌∙◌, ◌+◌, ◌<◌, ◌++◌, ◌∷◌, [], true, All, length, get_or, unsigned_abs, sym, ap, subst, arith}
use Rattle.lrat.specs.Limits.{IsHint}
use Rattle.lrat.specs.Stages.{GoAlong}
use Rattle.lrat.specs.Trimming.{trimmed}
use Rattle.cdcl_log.specs.Closings.{AreLemmas, IsClosingOf}
use Rattle.cdcl_log.specs.Logged.{Logged, first_id, formula_of, is_wanted}
use Rattle.cdcl_log.specs.Refuting.{refuting}
use Rattle.cdcl_log.specs.Selected.{IsAddition, wanting}
use Rattle.cdcl_log.proofs.Closings.{all_wanted, closing_below, closing_hints, lemmas_are, reached_by}
use Rattle.cdcl_log.proofs.logged_kernel.LoggedKernel.lemmas.Goals as goal

pub wanted_lines-requires-clause-hints : goal.wanted_lines-requires-clause-hints
wanted_lines-requires-clause-hints c =
    let ks = c.args.closings.now in
    subst (All IsHint) (sym c.in_ok-hints.ensures)
    (all_wanted IsHint ks (λ i d lt. let shown = c.requires.shown i d lt in closing_hints (refuting c.args.self.now) shown.0 (get_or ks i d) shown.1))

pub wanted_lines-requires-clause-below : goal.wanted_lines-requires-clause-below
wanted_lines-requires-clause-below c =
    let n = c.self.inside.numbering in
    let v = c.self.inside.kernel.vars in
    let kept = c.self.inside.kernel.kept in
    let ls = c.self.inside.lines.items in
    let ks = c.args.closings.now in
    let wanted : is_wanted c.self.inside.log ≡ true = ap (λ (k : Logged). is_wanted k.log) c.self.view_is ∙ c.requires.wanted in
    let lines = (reached_by c.self.inside.log n v kept ls c.self.inside.end wanted c.self.invariant).0 in
    let bound : first_id n + length ls ≡ c.first_id.result + length c.as_slice-lines.result.now =
    sym (ap (λ a. a + length c.as_slice-lines.result.now) c.first_id.ensures ∙ ap (λ xs. first_id n + length xs) c.as_slice-lines.ensures.value) in
    subst (λ b. All (λ h. unsigned_abs h < b) c.in_ok-hints.hints.items) bound
    (subst (All (λ h. unsigned_abs h < first_id n + length ls)) (sym c.in_ok-hints.ensures)
    (all_wanted (λ h. unsigned_abs h < first_id n + length ls) ks (λ i d lt.
    let shown = c.requires.shown i d lt in
    closing_below (formula_of v kept) n ls shown.0 (get_or ks i d) lines (subst (λ (g : Logged). IsClosingOf (refuting g) shown.0 (get_or ks i d)) (sym c.self.view_is) shown.1))))

pub returns : goal.returns
returns c =
    let n = c.self.inside.numbering in
    let v = c.self.inside.kernel.vars in
    let kept = c.self.inside.kernel.kept in
    let ls = c.self.inside.lines.items in
    let ks = c.args.closings.now in
    let p = c.in_ok-proof.proof in
    let hs = c.in_ok-hints.hints.items in
    let top = c.greatest_id-top.result in
    let wanted : is_wanted c.self.inside.log ≡ true = ap (λ (k : Logged). is_wanted k.log) c.self.view_is ∙ c.requires.wanted in
    let log = reached_by c.self.inside.log n v kept ls c.self.inside.end wanted c.self.invariant in
    let is : p ++ wanting hs ∷ [] ≡ trimmed (ls ++ wanting hs ∷ []) = subst (λ xs. p ++ wanting hs ∷ [] ≡ trimmed (xs ++ wanting hs ∷ [])) c.as_slice-lines.ensures.value c.in_ok-proof.ensures in
    subst (λ (g : Logged). AreLemmas (refuting g) ks (record { proof = p; top = top; taken = c.taken-taken.result })) c.self.view_is
    (lemmas_are (formula_of v kept) n ls p log.1.0 ks hs top c.taken-taken.result log.0 log.1.1 (let few = log.1.2 in omega (arith, few, c.taken-taken.ensures)) c.in_ok-hints.ensures is c.lines.ensures.are_lines (λ w s u begins added along.
    c.greatest_id-top.ensures w s u begins (subst (All IsAddition) (sym c.lines.ensures.lines) added) (subst (λ xs. GoAlong w s xs u) (sym c.lines.ensures.lines) along)))

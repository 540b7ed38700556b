use Rattle.std.proofs.Common.{rules, ◌≡◌, ◌∙◌, ◌≤◌, ◌+◌, ◌++◌, ◌∷◌, [], length, true, Some, sym, ap, subst}
use Rattle.lrat.specs.Proofs.{IsAcceptedProof}
use Rattle.lrat.specs.Trimming.{trimmed}
use Rattle.lrat.specs.declared.line.Line.TheVariants.{Add}
use Rattle.cdcl_log.specs.Logged.{Logged, added_to, first_id, formula_of, is_wanted, with_units}
use Rattle.cdcl_log.specs.Selected.{IsClosing}
use Rattle.cdcl_log.specs.Units.{AreDenials}
use Rattle.cdcl_log.proofs.Ended.{accepted_of, closing_of, denied_of, ends_of, ok_gives}
use Rattle.cdcl_log.proofs.logged_kernel.LoggedKernel.refutation.Goals as goal

pub closing_line-requires-clause-denied : goal.closing_line-requires-clause-denied
closing_line-requires-clause-denied c =
    let is : c.self.inside.end ≡ Some (Add c.in-Some-Add.id c.in-Some-Add.clause c.in-Some-Add.hints) = search rules in
    rw c.as_slice.ensures
    (denied_of c.self.inside.end c.requires.denies.0 c.in-Some-Add.clause c.args.units.now c.in-Some-Add.id c.in-Some-Add.hints (ap (λ (k : Logged). k.end) c.self.view_is ∙ c.requires.denies.1) is c.requires.denies.2)

pub selected-requires-clause-closing : goal.selected-requires-clause-closing
selected-requires-clause-closing c =
    let n = c.self.inside.numbering in
    let v = c.self.inside.kernel.vars in
    let ks = c.self.inside.kernel.kept in
    let ls = c.self.inside.lines.items in
    let us = c.args.units.now in
    let id = c.in-Some-Add.id in
    let d = c.in-Some-Add.clause in
    let hints = c.in-Some-Add.hints in
    let e = c.in_ok-last.ensures in
    let is : c.self.inside.end ≡ Some (Add id d hints) = search rules in
    let wanted : is_wanted c.self.inside.log ≡ true = ap (λ (k : Logged). is_wanted k.log) c.self.view_is ∙ c.requires.wanted in
    let few : length us ≤ n.room = subst (λ r. length us ≤ r) (sym (ap (λ (k : Logged). k.room) c.self.view_is)) c.requires.few in
    let ends = ends_of c.self.inside.log n v ks ls c.self.inside.end id d hints wanted c.self.invariant is in
    let are : AreDenials n.base us d e.0 = subst (λ x. AreDenials n.base us x e.0) c.as_slice.ensures e.2 in
    let line : c.in_ok-last.last ≡ Add id [] (e.0 ++ hints) = e.1 ∙ ap (λ hs. Add id [] (e.0 ++ hs)) c.as_slice-2.ensures in
    let bound : first_id n + length ls ≡ c.first_id.result + length c.as_slice-3.result.now =
    sym (ap (λ a. a + length c.as_slice-3.result.now) c.first_id.ensures ∙ ap (λ xs. first_id n + length xs) c.as_slice-3.ensures.value) in
    subst (λ b. IsClosing b c.in_ok-last.last) bound
    (subst (IsClosing (first_id n + length ls)) (sym line) (closing_of (formula_of v ks) n ls d us e.0 id hints few ends.0 ends.1 are))

pub returns : goal.returns
returns c =
    let n = c.self.inside.numbering in
    let v = c.self.inside.kernel.vars in
    let ks = c.self.inside.kernel.kept in
    let ls = c.self.inside.lines.items in
    let us = c.args.units.now in
    let id = c.in-Some-Add.id in
    let d = c.in-Some-Add.clause in
    let hints = c.in-Some-Add.hints in
    let e = c.in_ok-last.ensures in
    let is : c.self.inside.end ≡ Some (Add id d hints) = search rules in
    let wanted : is_wanted c.self.inside.log ≡ true = ap (λ (k : Logged). is_wanted k.log) c.self.view_is ∙ c.requires.wanted in
    let few : length us ≤ n.room = subst (λ r. length us ≤ r) (sym (ap (λ (k : Logged). k.room) c.self.view_is)) c.requires.few in
    let ends = ends_of c.self.inside.log n v ks ls c.self.inside.end id d hints wanted c.self.invariant is in
    let are : AreDenials n.base us d e.0 = subst (λ x. AreDenials n.base us x e.0) c.as_slice.ensures e.2 in
    let line : c.in_ok-last.last ≡ Add id [] (e.0 ++ hints) = e.1 ∙ ap (λ hs. Add id [] (e.0 ++ hs)) c.as_slice-2.ensures in
    ok_gives _ _ _ c.selected.ensures (λ p same.
    subst (λ (k : Logged). IsAcceptedProof (with_units (added_to k) us) p) c.self.view_is
    (accepted_of (formula_of v ks) n ls p d us e.0 id hints few ends.0 ends.1 are (same ∙ ap (λ xs. trimmed (xs ++ c.in_ok-last.last ∷ [])) c.as_slice-3.ensures.value ∙ ap (λ l. trimmed (ls ++ l ∷ [])) line)))

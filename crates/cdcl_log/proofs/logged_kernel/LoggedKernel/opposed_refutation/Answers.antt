use Rattle.std.proofs.Common.{◌≡◌, ◌∙◌, ◌≤◌, ◌<◌, ◌+◌, ◌++◌, ◌∷◌, [], length, true, sym, ap, subst, arith}
use Rattle.lrat.specs.Limits.{IsLine}
use Rattle.lrat.specs.Proofs.{IsAcceptedProof}
use Rattle.cdcl_log.specs.Logged.{Logged, added_to, formula_of, is_wanted, with_units}
use Rattle.cdcl_log.proofs.Ended.{above_room, base_of, opposed_is_line, room_of}
use Rattle.cdcl_log.proofs.Sections.{accepted_opposed}
use Rattle.cdcl_log.proofs.logged_kernel.LoggedKernel.opposed_refutation.Goals as goal

pub next_id-requires : goal.next_id-requires
next_id-requires c =
    let wanted : is_wanted c.self.inside.log ≡ true = ap (λ (k : Logged). is_wanted k.log) c.self.view_is ∙ c.requires.wanted in
    room_of c.self.inside.log c.self.inside.numbering c.self.inside.kernel.vars c.self.inside.kernel.kept c.self.inside.lines.items c.self.inside.end wanted c.self.invariant

pub push_line-requires : goal.push_line-requires
push_line-requires c =
    let n = c.self.inside.numbering in
    let ks = c.self.inside.kernel.kept in
    let us = c.args.units.now in
    let e = c.in_ok-line.ensures in
    let wanted : is_wanted c.self.inside.log ≡ true = ap (λ (k : Logged). is_wanted k.log) c.self.view_is ∙ c.requires.wanted in
    let few : length us ≤ n.room = subst (λ r. length us ≤ r) (sym (ap (λ (k : Logged). k.room) c.self.view_is)) c.requires.few in
    let base = base_of c.self.inside.log n c.self.inside.kernel.vars ks c.self.inside.lines.items c.self.inside.end wanted c.self.invariant in
    let is : c.in_ok-id.id ≡ length ks + n.room + 1 = c.in_ok-id.ensures.value in
    let lt : length ks + n.room < 4294967295 = c.in_ok-id.ensures.few in
    subst IsLine (sym e.2) (opposed_is_line n.base n.room c.in_ok-id.id us _ e.0 e.1 few (above_room n.base n.room c.in_ok-id.id ks base is) (omega (arith, is, lt)) e.3 e.4)

pub returns-clause-accepted : goal.returns-clause-accepted
returns-clause-accepted c =
    let n = c.self.inside.numbering in
    let ks = c.self.inside.kernel.kept in
    let us = c.args.units.now in
    let e = c.in_ok-line.ensures in
    let f = formula_of c.self.inside.kernel.vars ks in
    let wanted : is_wanted c.self.inside.log ≡ true = ap (λ (k : Logged). is_wanted k.log) c.self.view_is ∙ c.requires.wanted in
    let few : length us ≤ n.room = subst (λ r. length us ≤ r) (sym (ap (λ (k : Logged). k.room) c.self.view_is)) c.requires.few in
    let base = base_of c.self.inside.log n c.self.inside.kernel.vars ks c.self.inside.lines.items c.self.inside.end wanted c.self.invariant in
    subst (λ (k : Logged). IsAcceptedProof (with_units (added_to k) us) c.push_line.new.self) c.self.view_is
    (subst (IsAcceptedProof (with_units f us)) (sym (c.in_ok-push_line.ensures.ok ∙ ap (λ p. p ++ c.in_ok-line.line ∷ []) c.new-proof.ensures ∙ ap (λ l. l ∷ []) e.2))
    (accepted_opposed f n.base n.room us c.in_ok-id.id _ e.0 e.1 base few (above_room n.base n.room c.in_ok-id.id ks base c.in_ok-id.ensures.value) e.3 e.4))

use Rattle.std.proofs.Common.{◌≡◌, ◌∙◌, ◌++◌, All, ap, sym, subst}
use Rattle.std.proofs.lemmas.List.Elements.{All-append}
use Rattle.cnf.proofs.Formed.{IsKnown}
use Rattle.cones.proofs.Grown.{full, full_domain, full_inside, full_all}
use Rattle.ic3_step.specs.Queries.{ands_in}
use Rattle.ic3_step.proofs.Loaded.{known_small, constraints_known}
use Rattle.ic3_step.proofs.Parted.{part_from}
use Rattle.ic3_step.proofs.query.part_of.Goals as goal

pub extend-requires-clause-wanted : goal.extend-requires-clause-wanted
extend-requires-clause-wanted c =
    let m = c.args.circuit.now in
    let well = c.well_formed-2.ensures in
    let are : c.deref.result.now ≡ c.args.lits.now ++ m.constraints = c.deref.ensures.value ∙ c.in_ok-roots.ensures in
    known_small m c.deref.result.now well (subst (All (IsKnown m)) (sym are) (All-append (IsKnown m) c.args.lits.now m.constraints c.requires.lits (constraints_known m well)))

pub extend-requires-clause-domain : goal.extend-requires-clause-domain
extend-requires-clause-domain c =
    let m = c.args.circuit.now in
    let well = c.well_formed-2.ensures in
    let are : c.deref.result.now ≡ c.args.lits.now ++ m.constraints = c.deref.ensures.value ∙ c.in_ok-roots.ensures in
    let known : All (IsKnown m) c.deref.result.now = subst (All (IsKnown m)) (sym are) (All-append (IsKnown m) c.args.lits.now m.constraints c.requires.lits (constraints_known m well)) in
    (full m, full_domain m _ well, full_inside m c.args.asked.now c.requires.unasked.places, full_all m c.deref.result.now (known_small m c.deref.result.now well known))

pub returns-clause-part : goal.returns-clause-part
returns-clause-part c =
    let m = c.args.circuit.now in
    let ands = c.args.part_gates.now in
    let are : c.deref.result.now ≡ c.args.lits.now ++ m.constraints = c.deref.ensures.value ∙ c.in_ok-roots.ensures in
    part_from m c.args.table.now ands c.args.asked.now c.extend.new.marks _ c.deref.result.now c.args.lits.now c.in_ok-list.list.items _ c.requires.table c.requires.part_gates c.requires.unasked.clear are
    c.in_ok-list.ensures (c.in_ok-gates.ensures ∙ ap (ands_in ands) c.deref-2.ensures.value) c.in_ok-literals.ensures

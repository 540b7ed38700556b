use Rattle.std.proofs.Common.{rules, ◌≡◌, ◌≤◌, ◌+◌, ◌++◌, ◌∷◌, [], ℕ, length, pos, ◌∙◌, ap}
use Rattle.unrolling.proofs.Swept.{asked_begins}
use Rattle.unrolling.proofs.sweeping.Sweeping.make_room.Goals as goal

pub returns-clause-asked : goal.returns-clause-asked
returns-clause-asked g c =
    let e = c.args.encoder.now in
    let vars : ℕ = g.S.Sat.vars c.add_one.new.solver in
    let cs = g.S.Sat.clauses c.add_one.new.solver in
    let marks = c.in_ok-self.field-0.items in
    let cs_is : cs ≡ (pos 1 ∷ []) ∷ [] = c.in_ok-add_one.ensures.clauses ∙ ap (λ q. q ++ (pos 1 ∷ []) ∷ []) c.in_ok-reset.ensures.clauses in
    let vars_is : vars ≡ c.min-places.result = c.in_ok-add_one.ensures.vars ∙ c.in_ok-reset.ensures.vars in
    let places : length marks ≡ vars + 1 = search rules in
    let enough : e.variables ≤ vars = search rules in
    let small : vars ≤ 2147483647 = search rules in
    asked_begins e _ vars marks cs c.requires.encoding c.in_ok-self.ensures.marks places enough small cs_is

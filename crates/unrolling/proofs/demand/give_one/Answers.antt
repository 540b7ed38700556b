use Rattle.std.proofs.Common.{rules, ◌≡◌, ◌∷◌, [], ℕ, ℤ, List, get_or, map, pos, unsigned_abs, refl, sym, subst, SFits, w32, to_z, of_z}
use Rattle.std.proofs.lemmas.List.{get_or_read}
use Rattle.graph.proofs.Evaluation.{All-unmap}
use Rattle.lrat.proofs.Fit.{read32}
use Rattle.cones.specs.Marks.{IsMarked}
use Rattle.cones.specs.Reach.{Grows, IsFrom}
use Rattle.unrolling.specs.declared.function.Function.{Function}
use Rattle.unrolling.specs.Encodings.{OnLeaves, function_at}
use Rattle.unrolling.specs.Demands.{IsGivenOne, IsSaid}
use Rattle.unrolling.proofs.Added.{read_as}
use Rattle.unrolling.proofs.Encoded.{IsSome}
use Rattle.unrolling.proofs.Said.{listed, all_four, given_function}
use Rattle.unrolling.proofs.demand.give_one.Goals as goal

pub returns-clause-given : goal.returns-clause-given
returns-clause-given g c =
    let e = c.args.encoder.now in
    let t = c.args.marks.now in
    let u = c.want_each.new.marks in
    let cs = g.S.Sat.clauses c.args.solver.now in
    let ds = g.S.Sat.clauses c.add_function.new.solver in
    let x : ℕ = c.index-variable.result.now in
    let f : Function = c.function_of-function.result in
    let x_is : x ≡ get_or c.args.list.now.items c.args.place 0 = get_or_read c.args.list.now.items c.args.place x c.requires.inside c.index-variable.ensures 0 in
    let on : IsMarked t x = subst (IsMarked t) (sym x_is) (c.requires.only c.args.place 0 c.requires.inside).1 in
    let here : function_at e.functions.items x ≡ f = sym c.function_of-function.ensures in
    let some : IsSome f = search rules in
    let f0 : SFits w32 f.leaves.0 = search rules in
    let f1 : SFits w32 f.leaves.1 = search rules in
    let f2 : SFits w32 f.leaves.2 = search rules in
    let f3 : SFits w32 f.leaves.3 = search rules in
    let fx : SFits w32 c.positive.result = search rules in
    let said : IsSaid (pos x) f cs ds = rw (read_as _ _ fx c.positive.ensures) at c.in_ok-add_function.ensures.said in
    let grows : Grows (map unsigned_abs (listed f.leaves)) t c.args.list.now.items u c.want_each.new.list.items = rw (read32 _ f0, read32 _ f1, read32 _ f2, read32 _ f3) at c.in_ok-want_each.ensures.grows in
    let read : List ℤ = to_z w32 (of_z w32 f.leaves.0) ∷ to_z w32 (of_z w32 f.leaves.1) ∷ to_z w32 (of_z w32 f.leaves.2) ∷ to_z w32 (of_z w32 f.leaves.3) ∷ [] in
    let read_is : read ≡ listed f.leaves = rw (read32 _ f0, read32 _ f1, read32 _ f2, read32 _ f3) refl in
    let from : IsFrom (map unsigned_abs (listed f.leaves)) t u = subst (λ (q : List ℤ). IsFrom (map unsigned_abs q) t u) read_is c.in_ok-want_each.ensures.from in
    let marked : OnLeaves (λ l. IsMarked u (unsigned_abs l)) f = all_four (λ l. IsMarked u (unsigned_abs l)) f.leaves (All-unmap (IsMarked u) unsigned_abs (listed f.leaves) grows.marked) in
    subst (IsGivenOne e t u cs ds) x_is (given_function e t u cs ds x f c.requires.encoding on here some said (λ y y_on. grows.kept y y_on) marked from)

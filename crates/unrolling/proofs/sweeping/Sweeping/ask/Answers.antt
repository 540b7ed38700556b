use Rattle.std.proofs.Common.{rules, ◌≡◌, ◌≤◌, ◌+◌, ◌++◌, ◌∷◌, [], ℕ, ℤ, Bool, List, length, take, drop, pos, neg_ℤ, unsigned_abs, refl, sym, ◌∙◌, ap, subst, arith, SFits, w32}
use Rattle.graph.proofs.Tabled.{take_whole}
use Rattle.lrat.proofs.Fit.{read32}
use Rattle.cones.specs.Marks.{IsMarked}
use Rattle.unrolling.specs.Merged.{AreAsked, AreEqualBy}
use Rattle.unrolling.proofs.Demanded.{more_then}
use Rattle.unrolling.proofs.Swept.{asked_equal, equal_in}
use Rattle.unrolling.proofs.sweeping.Sweeping.ask.Goals as goal

pub give-requires-clause-small : goal.give-requires-clause-small
give-requires-clause-small g c = c.in_ok-make_room.ensures.asked.small

pub are_equal-requires-clause-small : goal.are_equal-requires-clause-small
are_equal-requires-clause-small g c = subst (λ q. q ≤ 2147483647) (sym c.in_ok-give.ensures.vars) c.in_ok-make_room.ensures.asked.small

pub returns-then-not-branch-clause-asked : goal.returns-then-not-branch-clause-asked
returns-then-not-branch-clause-asked g c =
    let e = c.args.encoder.now in
    let asked = c.in_ok-make_room.ensures.asked in
    let given : List Bool = c.give.new.marks in
    let marks = c.make_room.new.self.given in
    let long : length given ≡ marks.len = search rules in
    let given_is : take marks.len (given ++ drop (length given) marks.items) ≡ given = take_whole marks.len given (drop (length given) marks.items) long in
    let vars : ℕ = g.S.Sat.vars c.give.new.solver in
    let cs = g.S.Sat.clauses c.give.new.solver in
    let vars_is : vars ≡ g.S.Sat.vars c.make_room.new.self.solver = c.in_ok-give.ensures.vars in
    let mid : AreAsked e given vars cs = record {
      places = c.in_ok-give.ensures.places ∙ ap length c.as_mut_slice-given.ensures.value ∙ asked.places ∙ ap (λ q. q + 1) (sym vars_is);
      small = subst (λ q. q ≤ 2147483647) (sym vars_is) asked.small;
      given = c.in_ok-give.ensures.given;
      more = more_then e.functions.items ((pos 1 ∷ []) ∷ []) (g.S.Sat.clauses c.make_room.new.self.solver) cs asked.more c.in_ok-give.ensures.more;
    } in
    rw (given_is, c.in_ok-are_equal.ensures.vars, c.in_ok-are_equal.ensures.clauses) mid

pub returns-clause-asked : goal.returns-clause-asked
returns-clause-asked g c =
    let e = c.args.encoder.now in
    let asked = c.in_ok-make_room.ensures.asked in
    let given : List Bool = c.give.new.marks in
    let marks = c.make_room.new.self.given in
    let long : length given ≡ marks.len = search rules in
    let given_is : take marks.len (given ++ drop (length given) marks.items) ≡ given = take_whole marks.len given (drop (length given) marks.items) long in
    let vars : ℕ = g.S.Sat.vars c.give.new.solver in
    let cs = g.S.Sat.clauses c.give.new.solver in
    let vars_is : vars ≡ g.S.Sat.vars c.make_room.new.self.solver = c.in_ok-give.ensures.vars in
    let mid : AreAsked e given vars cs = record {
      places = c.in_ok-give.ensures.places ∙ ap length c.as_mut_slice-given.ensures.value ∙ asked.places ∙ ap (λ q. q + 1) (sym vars_is);
      small = subst (λ q. q ≤ 2147483647) (sym vars_is) asked.small;
      given = c.in_ok-give.ensures.given;
      more = more_then e.functions.items ((pos 1 ∷ []) ∷ []) (g.S.Sat.clauses c.make_room.new.self.solver) cs asked.more c.in_ok-give.ensures.more;
    } in
    let l : ℤ = c.args.one in
    let k : ℤ = c.args.other in
    let fl : SFits w32 l = search rules in
    let fk : SFits w32 k = search rules in
    let equal : AreEqualBy cs l k = rw (read32 _ fl, read32 _ fk) at (c.in_ok-are_equal.ensures.equal c.if-not-branch.false) in
    let l_on : IsMarked given (unsigned_abs l) = rw (read32 _ fl) at (c.in_ok-give.ensures.bad 0 (record { 0 = 0 }) (omega arith)) in
    let k_on : IsMarked given (unsigned_abs k) = rw (read32 _ fk) at (c.in_ok-give.ensures.bad 1 (record { 0 = 0 }) (omega arith)) in
    let es = g.S.Sat.clauses c.add_equal.new.solver in
    let ds = cs ++ (neg_ℤ l ∷ k ∷ []) ∷ [] in
    let es_is : es ≡ ds ++ (l ∷ neg_ℤ k ∷ []) ∷ [] = rw (read32 _ fl, read32 _ fk, c.in_ok-are_equal.ensures.clauses) at c.in_ok-add_equal.ensures.clauses in
    let last : AreAsked e given vars es = asked_equal e given vars cs ds es l k mid refl es_is c.requires.one c.requires.other l_on k_on (equal_in e given vars cs l k mid equal) in
    rw (given_is, c.in_ok-add_equal.ensures.vars, c.in_ok-are_equal.ensures.vars) last

pub returns-clause-equal : goal.returns-clause-equal
returns-clause-equal g c =
    let e = c.args.encoder.now in
    let asked = c.in_ok-make_room.ensures.asked in
    let given : List Bool = c.give.new.marks in
    let marks = c.make_room.new.self.given in
    let long : length given ≡ marks.len = search rules in
    let given_is : take marks.len (given ++ drop (length given) marks.items) ≡ given = take_whole marks.len given (drop (length given) marks.items) long in
    let vars : ℕ = g.S.Sat.vars c.give.new.solver in
    let cs = g.S.Sat.clauses c.give.new.solver in
    let vars_is : vars ≡ g.S.Sat.vars c.make_room.new.self.solver = c.in_ok-give.ensures.vars in
    let mid : AreAsked e given vars cs = record {
      places = c.in_ok-give.ensures.places ∙ ap length c.as_mut_slice-given.ensures.value ∙ asked.places ∙ ap (λ q. q + 1) (sym vars_is);
      small = subst (λ q. q ≤ 2147483647) (sym vars_is) asked.small;
      given = c.in_ok-give.ensures.given;
      more = more_then e.functions.items ((pos 1 ∷ []) ∷ []) (g.S.Sat.clauses c.make_room.new.self.solver) cs asked.more c.in_ok-give.ensures.more;
    } in
    let l : ℤ = c.args.one in
    let k : ℤ = c.args.other in
    let fl : SFits w32 l = search rules in
    let fk : SFits w32 k = search rules in
    let equal : AreEqualBy cs l k = rw (read32 _ fl, read32 _ fk) at (c.in_ok-are_equal.ensures.equal c.if-not-branch.false) in
    λ yes. equal_in e given vars cs l k mid equal

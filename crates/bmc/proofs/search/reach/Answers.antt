use Rattle.std.proofs.Common.{rules, ◌≡◌, ◌+◌, ◌<◌, ◌≤◌, ◌∷◌, [], ℕ, ℤ, All, length, sym, ◌∙◌, ap, subst, arith, SFits, w32}
use Rattle.std.proofs.lemmas.List.Elements.{All-cons, All-nil}
use Rattle.graph.specs.Circuits.{variable}
use Rattle.lrat.specs.Literals.{IsLiteral}
use Rattle.cnf.specs.Formulas.{bad_literal}
use Rattle.unrolling.specs.Encodings.{told}
use Rattle.unrolling.specs.Unrollings.{literal_of}
use Rattle.unrolling.specs.Times.{leaves_of}
use Rattle.bmc.specs.Times.{StandsForBad}
use Rattle.bmc.proofs.Depths.{bad_range, some_bad}
use Rattle.bmc.proofs.Answering.{answer_of, bad_answer, found_of}
use Rattle.bmc.proofs.Found.{core_unset}
use Rattle.unrolling.proofs.Added.{read_as}
use Rattle.unrolling.proofs.Negated.{literal_up}
use Rattle.unrolling.proofs.Tabled.{literal_in_range, literal_stands}
use Rattle.bmc.proofs.search.reach.Goals as goal

pub literal-bad-requires-clause-in_range : goal.literal-bad-requires-clause-in_range
literal-bad-requires-clause-in_range g c =
    let m = c.args.circuit.now in
    let p = bad_range m c.well_formed-2.ensures c.requires.for_bad in
    rw (c.bad.ensures, c.as_slice.ensures.value) (omega (arith, p, c.in_ok-encode.ensures.at.whole))

pub solve-requires : goal.solve-requires
solve-requires g c =
    let m = c.args.circuit.now in
    let u = c.encode.new.self in
    let n : ℕ = u.encoder.variables in
    let vars : ℕ = g.S.Sat.vars c.encode.new.solver in
    let l : ℤ = literal_of u.table.items (bad_literal m 0) in
    let f : SFits w32 c.literal-bad.result = search rules in
    let l_is : c.literal-bad.result ≡ l = rw (c.as_slice.ensures.value, c.bad.ensures) at c.literal-bad.ensures in
    let p = bad_range m c.well_formed-2.ensures c.requires.for_bad in
    let inside : variable (bad_literal m 0) < length u.table.items = omega (arith, p, c.in_ok-encode.ensures.at.whole) in
    let l_in : IsLiteral n l = literal_in_range n u.table.items (bad_literal m 0) c.in_ok-encode.ensures.at.literals inside in
    let room : n ≤ vars = omega (arith, c.in_ok-encode.ensures.few, c.requires.room, c.in_ok-encode.ensures.vars) in
    subst (λ (q : ℤ). All (IsLiteral vars) (q ∷ [])) (sym (read_as _ _ f l_is)) (All-cons (IsLiteral vars) l [] (literal_up n vars l l_in room) (All-nil (IsLiteral vars)))

pub found_by-requires-clause-model : goal.found_by-requires-clause-model
found_by-requires-clause-model g c =
    let m = c.args.circuit.now in
    let cone = c.args.cone.now in
    let u = c.encode.new.self in
    let n : ℕ = u.encoder.variables in
    let cs = g.S.Sat.clauses c.encode.new.solver in
    let vars : ℕ = g.S.Sat.vars c.encode.new.solver in
    let steps : ℕ = c.args.steps in
    let l : ℤ = literal_of u.table.items (bad_literal m 0) in
    let f : SFits w32 c.literal-bad.result = search rules in
    let l_is : c.literal-bad.result ≡ l = rw (c.as_slice.ensures.value, c.bad.ensures) at c.literal-bad.ensures in
    let p = bad_range m c.well_formed-2.ensures c.requires.for_bad in
    let inside : variable (bad_literal m 0) < m.max_var + 1 = omega (arith, p) in
    let table = rw c.requires.times at c.in_ok-encode.ensures.stands in
    let stands : StandsForBad m cone (leaves_of u) (told u.encoder cs) steps l =
    literal_stands m cone (leaves_of u) (told u.encoder cs) steps n (length cone.inputs.items) (length cone.latches.items) (length cone.cells.items) u.table.items (bad_literal m 0) table (c.requires.cone.bad 0 (record { 0 = 0 }) (some_bad m c.requires.for_bad)) inside in
    bad_answer m cone u steps vars cs (l ∷ []) c.solve.new.budget _
    (λ b model. record {
      clauses = cs;
      vars = vars;
      literal = l;
      unrolled = c.in_ok-encode.ensures.at.unrolled;
      times = c.in_ok-encode.ensures.more ∙ ap (λ q. q + 1) c.requires.times;
      few = omega (arith, c.in_ok-encode.ensures.few, c.requires.room, c.in_ok-encode.ensures.vars);
      given = c.in_ok-encode.ensures.at.given;
      marked = c.in_ok-encode.ensures.bad 0 (record { 0 = 0 }) (some_bad m c.requires.for_bad);
      stands = stands;
      model = model;
    }) (rw (read_as _ _ f l_is) at c.in_ok-answer.ensures.lawful)

pub returns-clause-lawful : goal.returns-clause-lawful
returns-clause-lawful g c =
    let m = c.args.circuit.now in
    let cone = c.args.cone.now in
    let u = c.encode.new.self in
    let n : ℕ = u.encoder.variables in
    let cs = g.S.Sat.clauses c.encode.new.solver in
    let vars : ℕ = g.S.Sat.vars c.encode.new.solver in
    let steps : ℕ = c.args.steps in
    let l : ℤ = literal_of u.table.items (bad_literal m 0) in
    let f : SFits w32 c.literal-bad.result = search rules in
    let l_is : c.literal-bad.result ≡ l = rw (c.as_slice.ensures.value, c.bad.ensures) at c.literal-bad.ensures in
    let p = bad_range m c.well_formed-2.ensures c.requires.for_bad in
    let inside : variable (bad_literal m 0) < m.max_var + 1 = omega (arith, p) in
    let table = rw c.requires.times at c.in_ok-encode.ensures.stands in
    let stands : StandsForBad m cone (leaves_of u) (told u.encoder cs) steps l =
    literal_stands m cone (leaves_of u) (told u.encoder cs) steps n (length cone.inputs.items) (length cone.latches.items) (length cone.cells.items) u.table.items (bad_literal m 0) table (c.requires.cone.bad 0 (record { 0 = 0 }) (some_bad m c.requires.for_bad)) inside in
    found_of m steps c.solve.new.budget _ _
    (answer_of m steps vars cs (l ∷ []) c.solve.new.budget _
    (λ core is. core_unset m cone (leaves_of u) u.state.items u.encoder cs steps l core c.in_ok-encode.ensures.at.unrolled (c.in_ok-encode.ensures.more ∙ ap (λ q. q + 1) c.requires.times) stands is)
    (rw (read_as _ _ f l_is) at c.in_ok-answer.ensures.lawful)) c.in_ok-found_by.ensures

use Rattle.std.proofs.Common.{rules, ◌≡◌, ◌+◌, ◌<◌, ℕ, List, ℤ, All, length, set, negsuc, get_or-set_same, ◌∙◌, arith, length-set}
use Rattle.std.proofs.lemmas.List.Elements.{All-weaker}
use Rattle.lrat.specs.Literals.{IsLiteral}
use Rattle.unrolling.specs.declared.encoder.Encoder.{Encoder}
use Rattle.unrolling.specs.Encodings.{Told, told}
use Rattle.unrolling.specs.Unrollings.{AreStates, later}
use Rattle.unrolling.proofs.Encoded.{extended_more, false_literal}
use Rattle.unrolling.proofs.Negated.{literal_up}
use Rattle.unrolling.proofs.Swept.{ready_later}
use Rattle.unrolling.proofs.Tabled.{literals_set}
use Rattle.unrolling.proofs.Unrolled.{fresh_later, states_later, table_begins}
use Rattle.unrolling.proofs.unrolling.encode_frame.Goals as goal

pub encode_cells-requires-clause-ready : goal.encode_cells-requires-clause-ready
encode_cells-requires-clause-ready g c =
    let w = c.args.sweeping.now in
    let e : Encoder = c.args.encoder.now in
    let k : ℕ = e.variables + c.len.result in
    let e1 : Encoder = record { variables = k; shared = e.shared; functions = e.functions } in
    ready_later e e1 w.given.items (g.S.Sat.vars w.solver) (g.S.Sat.clauses w.solver) w.representatives (extended_more e.variables k e.functions.items (omega arith)) c.requires.ready

pub encode_cells-requires-clause-literals : goal.encode_cells-requires-clause-literals
encode_cells-requires-clause-literals g c =
    let n : ℕ = c.args.encoder.now.variables in
    let k : ℕ = n + c.len.result in
    let long : c.len.result ≡ length c.args.cone.now.inputs.items = search rules in
    let up : (ls : List ℤ) → All (IsLiteral n) ls → All (IsLiteral k) ls = All-weaker (IsLiteral n) (IsLiteral k) (λ l is. literal_up n k l is (omega arith)) in
    c.fill_latches.ensures.literals k (up c.args.state.now c.requires.states)
    (c.fill_inputs.ensures.literals k (omega (arith, long))
    (literals_set n k c.args.table.now 0 (negsuc 0) c.requires.literals (omega arith) (omega (arith, c.requires.whole)) (literal_up n k (negsuc 0) (false_literal c.args.encoder.now c.requires.encoding) (omega arith))))

pub returns-clause-extended : goal.returns-clause-extended
returns-clause-extended g c =
    let long : c.len.result ≡ length c.args.cone.now.inputs.items = search rules in
    rw long at c.in_ok-encode_cells.ensures.grown.extended

pub returns-clause-table : goal.returns-clause-table
returns-clause-table g c = λ s cs stands.
    let m = c.args.circuit.now in
    let cone = c.args.cone.now in
    let e : Encoder = c.args.encoder.now in
    let long : c.len.result ≡ length cone.inputs.items = search rules in
    let k : ℕ = e.variables + c.len.result in
    let e1 : Encoder = record { variables = k; shared = e.shared; functions = e.functions } in
    let d : Told = told e cs in
    let t0 = set c.args.table.now 0 (negsuc 0) in
    let zero_in : 0 < length c.args.table.now = omega (arith, c.requires.whole) in
    let literals0 : All (IsLiteral k) t0 =
    literals_set e.variables k c.args.table.now 0 (negsuc 0) c.requires.literals (omega arith) zero_in (literal_up e.variables k (negsuc 0) (false_literal e c.requires.encoding) (omega arith)) in
    let begins = table_begins m cone (later s e.variables) d (length s.firsts) e1 t0 (length-set c.args.table.now 0 (negsuc 0) ∙ c.requires.whole) literals0 (get_or-set_same c.args.table.now 0 (negsuc 0) (negsuc 0) zero_in) in
    let inputs = c.fill_inputs.ensures.table (later s e.variables) d (length s.firsts) k (omega (arith, long)) (fresh_later m cone s e.variables) begins in
    let states : AreStates m cone (later s e.variables) d (length s.firsts) k c.args.state.now = states_later m cone s d (length s.firsts) e.variables k e.variables c.args.state.now (omega arith) stands in
    let latches = c.fill_latches.ensures.table (later s e.variables) d (length s.firsts) k states inputs in
    c.in_ok-encode_cells.ensures.table (later s e.variables) cs (length s.firsts) latches

use Rattle.std.proofs.Common.{rules, ◌≡◌, ◌+◌, ◌≤◌, ◌++◌, ◌∷◌, [], ℕ, List, ℤ, Bool, All, length, map, take, drop, sym, ◌∙◌, ap, subst, arith}
use Rattle.std.proofs.lemmas.List.Elements.{All-weaker}
use Rattle.graph.proofs.Tabled.{take_whole}
use Rattle.lrat.specs.Literals.{IsLiteral}
use Rattle.cnf.specs.Clauses.{next_of}
use Rattle.unrolling.specs.declared.encoder.Encoder.{Encoder}
use Rattle.unrolling.specs.Cones.{latch_at}
use Rattle.unrolling.specs.Demands.{AreAdded}
use Rattle.unrolling.specs.Encodings.{told}
use Rattle.unrolling.specs.Unrollings.{Leaves, IsUnrolled, AreStates, literal_of}
use Rattle.unrolling.specs.Times.{leaves_of}
use Rattle.unrolling.proofs.Demanded.{given_later}
use Rattle.unrolling.proofs.Encoded.{extended_more, extended_then}
use Rattle.unrolling.proofs.Negated.{literal_up}
use Rattle.unrolling.proofs.Unrolled.{next_small, unrolled_more}
use Rattle.unrolling.proofs.unrolling.Unrolling.encode.Goals as goal

pub give_frame-requires-clause-whole : goal.give_frame-requires-clause-whole
give_frame-requires-clause-whole g c =
    let m = c.args.circuit.now in
    let cone = c.args.cone.now in
    let u = c.args.self.now in
    let table : List ℤ = c.encode_frame.new.table in
    let table_long : length table ≡ u.table.len = search rules in
    let table_is : take u.table.len (table ++ drop (length table) u.table.items) ≡ table = take_whole u.table.len table (drop (length table) u.table.items) table_long in
    let shown_is : c.as_slice-2.result.now ≡ table = c.as_slice-2.ensures.value ∙ table_is in
    ap length shown_is ∙ c.in_ok-encode_frame.ensures.whole ∙ ap length c.as_mut_slice.ensures.value ∙ c.requires.at.whole

pub give_frame-requires-clause-literals : goal.give_frame-requires-clause-literals
give_frame-requires-clause-literals g c =
    let m = c.args.circuit.now in
    let cone = c.args.cone.now in
    let u = c.args.self.now in
    let table : List ℤ = c.encode_frame.new.table in
    let table_long : length table ≡ u.table.len = search rules in
    let table_is : take u.table.len (table ++ drop (length table) u.table.items) ≡ table = take_whole u.table.len table (drop (length table) u.table.items) table_long in
    let shown_is : c.as_slice-2.result.now ≡ table = c.as_slice-2.ensures.value ∙ table_is in
    subst (All (IsLiteral c.encode_frame.new.encoder.variables)) (sym shown_is) c.in_ok-encode_frame.ensures.literals

pub give_frame-requires-clause-given : goal.give_frame-requires-clause-given
give_frame-requires-clause-given g c =
    let u = c.args.self.now in
    let e : Encoder = u.encoder in
    let f : Encoder = c.encode_frame.new.encoder in
    let k : ℕ = e.variables + length c.args.cone.now.inputs.items in
    rw c.as_mut_slice-2.ensures.value (given_later e f u.given.items (g.S.Sat.clauses c.args.solver.now)
    (extended_then e.variables k f.variables e.functions.items e.functions.items f.functions.items (extended_more e.variables k e.functions.items (omega arith)) c.in_ok-encode_frame.ensures.extended)
    (omega (arith, c.in_ok-encode_frame.ensures.few, c.requires.room, c.requires.places)) c.requires.at.given)

pub next_state-requires-clause-small : goal.next_state-requires-clause-small
next_state-requires-clause-small g c =
    let m = c.args.circuit.now in
    let cone = c.args.cone.now in
    let u = c.args.self.now in
    let table : List ℤ = c.encode_frame.new.table in
    let table_long : length table ≡ u.table.len = search rules in
    let table_is : take u.table.len (table ++ drop (length table) u.table.items) ≡ table = take_whole u.table.len table (drop (length table) u.table.items) table_long in
    let shown_is : c.as_slice-table.result.now ≡ table = c.as_slice-table.ensures.value ∙ table_is in
    let n : ℕ = c.encode_frame.new.encoder.variables in
    let le : n ≤ 2147483647 = omega (arith, c.in_ok-encode_frame.ensures.few, c.requires.room, c.requires.small) in
    subst (All (IsLiteral 2147483647)) (sym shown_is) (All-weaker (IsLiteral n) (IsLiteral 2147483647) (λ l is. literal_up n 2147483647 l is le) table c.in_ok-encode_frame.ensures.literals)

pub next_state-requires-clause-whole : goal.next_state-requires-clause-whole
next_state-requires-clause-whole g c =
    let m = c.args.circuit.now in
    let cone = c.args.cone.now in
    let u = c.args.self.now in
    let table : List ℤ = c.encode_frame.new.table in
    let table_long : length table ≡ u.table.len = search rules in
    let table_is : take u.table.len (table ++ drop (length table) u.table.items) ≡ table = take_whole u.table.len table (drop (length table) u.table.items) table_long in
    let shown_is : c.as_slice-table.result.now ≡ table = c.as_slice-table.ensures.value ∙ table_is in
    ap length shown_is ∙ c.in_ok-encode_frame.ensures.whole ∙ ap length c.as_mut_slice.ensures.value ∙ c.requires.at.whole

pub returns-clause-at : goal.returns-clause-at
returns-clause-at g c =
    let m = c.args.circuit.now in
    let cone = c.args.cone.now in
    let u = c.args.self.now in
    let table : List ℤ = c.encode_frame.new.table in
    let table_long : length table ≡ u.table.len = search rules in
    let table_is : take u.table.len (table ++ drop (length table) u.table.items) ≡ table = take_whole u.table.len table (drop (length table) u.table.items) table_long in
    let shown_is : c.as_slice-2.result.now ≡ table = c.as_slice-2.ensures.value ∙ table_is in
    let s : Leaves = leaves_of u in
    let e : Encoder = u.encoder in
    let f : Encoder = c.encode_frame.new.encoder in
    let cs = g.S.Sat.clauses c.args.solver.now in
    let es = g.S.Sat.clauses c.give_frame.new.solver in
    let h : IsUnrolled m cone s u.state.items e cs = c.requires.at.unrolled in
    let states : AreStates m cone s (told e cs) (length s.firsts) e.variables c.as_slice.result.now = subst (λ q. AreStates m cone s (told e cs) (length s.firsts) e.variables q) (sym c.as_slice.ensures.value) h.states in
    let stands = c.in_ok-encode_frame.ensures.table s cs states in
    let added : AreAdded m f table cs es = subst (λ q. AreAdded m f q cs es) shown_is c.in_ok-give_frame.ensures.added in
    let both = unrolled_more m cone s u.state.items table e f cs added.clauses es c.well_formed-2.ensures c.requires.cone h
    (record { grown = c.in_ok-encode_frame.ensures.extended; encoding = c.in_ok-encode_frame.ensures.encoding; range = added.range; more = added.more; stands = stands }) added.units
    (λ i i_in. next_small m cone i c.well_formed-2.ensures c.requires.cone i_in) in
    let firsts_is : c.push.new.to.items ≡ u.firsts.items ++ e.variables ∷ [] = c.in_ok-push.ensures.items in
    let given : List Bool = c.give_frame.new.given in
    let given_long : length given ≡ u.given.len = search rules in
    let given_is : take u.given.len (given ++ drop (length given) u.given.items) ≡ given = take_whole u.given.len given (drop (length given) u.given.items) given_long in
    let state : List ℤ = c.next_state.new.state in
    let later_is : c.as_slice-table.result.now ≡ table = c.as_slice-table.ensures.value ∙ table_is in
    let made : state ≡ map (λ i. literal_of table (next_of m.latches (latch_at m.latches i).lit)) cone.latches.items = c.next_state.ensures ∙ ap (λ q. map (λ i. literal_of q (next_of m.latches (latch_at m.latches i).lit)) cone.latches.items) later_is in
    let state_long : length state ≡ u.state.len = search rules in
    let state_is : take u.state.len (state ++ drop (length state) u.state.items) ≡ map (λ i. literal_of table (next_of m.latches (latch_at m.latches i).lit)) cone.latches.items =
    take_whole u.state.len state (drop (length state) u.state.items) state_long ∙ made in
    record {
      unrolled = rw (firsts_is, state_is) both.0;
      whole = ap length table_is ∙ c.in_ok-encode_frame.ensures.whole ∙ ap length c.as_mut_slice.ensures.value ∙ c.requires.at.whole;
      literals = subst (All (IsLiteral f.variables)) (sym table_is) c.in_ok-encode_frame.ensures.literals;
      given = rw given_is c.in_ok-give_frame.ensures.given;
    }

pub returns-clause-stands : goal.returns-clause-stands
returns-clause-stands g c =
    let m = c.args.circuit.now in
    let cone = c.args.cone.now in
    let u = c.args.self.now in
    let table : List ℤ = c.encode_frame.new.table in
    let table_long : length table ≡ u.table.len = search rules in
    let table_is : take u.table.len (table ++ drop (length table) u.table.items) ≡ table = take_whole u.table.len table (drop (length table) u.table.items) table_long in
    let shown_is : c.as_slice-2.result.now ≡ table = c.as_slice-2.ensures.value ∙ table_is in
    let s : Leaves = leaves_of u in
    let e : Encoder = u.encoder in
    let f : Encoder = c.encode_frame.new.encoder in
    let cs = g.S.Sat.clauses c.args.solver.now in
    let es = g.S.Sat.clauses c.give_frame.new.solver in
    let h : IsUnrolled m cone s u.state.items e cs = c.requires.at.unrolled in
    let states : AreStates m cone s (told e cs) (length s.firsts) e.variables c.as_slice.result.now = subst (λ q. AreStates m cone s (told e cs) (length s.firsts) e.variables q) (sym c.as_slice.ensures.value) h.states in
    let stands = c.in_ok-encode_frame.ensures.table s cs states in
    let added : AreAdded m f table cs es = subst (λ q. AreAdded m f q cs es) shown_is c.in_ok-give_frame.ensures.added in
    let both = unrolled_more m cone s u.state.items table e f cs added.clauses es c.well_formed-2.ensures c.requires.cone h
    (record { grown = c.in_ok-encode_frame.ensures.extended; encoding = c.in_ok-encode_frame.ensures.encoding; range = added.range; more = added.more; stands = stands }) added.units
    (λ i i_in. next_small m cone i c.well_formed-2.ensures c.requires.cone i_in) in
    let firsts_is : c.push.new.to.items ≡ u.firsts.items ++ e.variables ∷ [] = c.in_ok-push.ensures.items in
    rw (firsts_is, table_is) both.1

pub returns-clause-bad : goal.returns-clause-bad
returns-clause-bad g c =
    let m = c.args.circuit.now in
    let cone = c.args.cone.now in
    let u = c.args.self.now in
    let table : List ℤ = c.encode_frame.new.table in
    let table_long : length table ≡ u.table.len = search rules in
    let table_is : take u.table.len (table ++ drop (length table) u.table.items) ≡ table = take_whole u.table.len table (drop (length table) u.table.items) table_long in
    let shown_is : c.as_slice-2.result.now ≡ table = c.as_slice-2.ensures.value ∙ table_is in
    let given : List Bool = c.give_frame.new.given in
    let given_long : length given ≡ u.given.len = search rules in
    let given_is : take u.given.len (given ++ drop (length given) u.given.items) ≡ given = take_whole u.given.len given (drop (length given) u.given.items) given_long in
    rw (table_is, given_is) (rw shown_is at c.in_ok-give_frame.ensures.bad)

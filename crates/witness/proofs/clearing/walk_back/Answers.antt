use Rattle.std.proofs.Common.{◌≡◌, ◌+◌, ◌-◌, ◌<◌, List, Bool, Option, [], length, get_or, sym, ◌∙◌, ap, subst, arith}
use Rattle.graph.specs.declared.circuit.Lit.{Lit}
use Rattle.stimulus.proofs.LassoLaws.{if_some_at}
use Rattle.witness.specs.Completions.{Completes}
use Rattle.witness.specs.Cleared.{IsTimeEnough}
use Rattle.witness.proofs.WalkLaws.{IsWalked, walked_more, completes_long, own_at}
use Rattle.witness.proofs.clearing.walk_back.Goals as goal

pub left_of_time-requires-clause-later : goal.left_of_time-requires-clause-later
left_of_time-requires-clause-later c =
    let inside : c.loop-t.t < length c.args.states.now = omega (arith, c.loop-t.auto.t, c.requires.states) in
    ap length c.as_slice-later.ensures ∙ (completes_long c.loop-t.state (get_or c.args.states.now c.loop-t.t []) c.loop-t.invariant.has_state ∙ c.requires.states_fit c.loop-t.t [] inside)

pub loop-t-preserved : goal.loop-t-preserved
loop-t-preserved c =
    let m = c.args.circuit.now in
    let i = c.loop-t.t - 1 in
    let left = c.in-Some.field-0 in
    let e : i + 1 ≡ c.loop-t.t = omega (arith, c.loop-t-test.true) in
    let i_in : i < length c.args.lines.now = omega (arith, c.loop-t-test.true, c.loop-t.auto.t) in
    let goal_is : c.as_slice-goal.result.now ≡ get_or c.args.goals.now i [] = c.as_slice-goal.ensures ∙ own_at c.args.goals.now i c.index-goals-t.result [] (omega (arith, i_in, c.requires.goals)) c.index-goals-t.is in
    let line_is : c.as_slice-line.result.now ≡ get_or c.args.lines.now i [] = c.as_slice-line.ensures ∙ own_at c.args.lines.now i c.index-lines-t.result [] i_in c.index-lines-t.is in
    let state_is : c.as_slice.result.now ≡ get_or c.args.states.now i [] = c.as_slice.ensures ∙ own_at c.args.states.now i c.index-states-t.result [] (omega (arith, i_in, c.requires.states)) c.index-states-t.is in
    let one0 = if_some_at (λ l. IsTimeEnough m c.as_slice-goal.result.now c.as_slice-later.result.now l.state l.row) c.in_ok-before.field-0 left c.in_ok-before.ensures.enough c.in-Some.is in
    let one1 = subst (λ (g : List Lit). IsTimeEnough m g c.as_slice-later.result.now left.state left.row) goal_is one0 in
    let one = subst (λ (later : List (Option Bool)). IsTimeEnough m (get_or c.args.goals.now i []) later left.state left.row) c.as_slice-later.ensures one1 in
    let has_state = subst (Completes left.state) state_is (if_some_at (λ l. Completes l.state c.as_slice.result.now) c.in_ok-before.field-0 left c.in_ok-before.ensures.state c.in-Some.is) in
    let has_row = subst (Completes left.row) line_is (if_some_at (λ l. Completes l.row c.as_slice-line.result.now) c.in_ok-before.field-0 left c.in_ok-before.ensures.row c.in-Some.is) in
    let before = subst (λ k. IsWalked m c.args.states.now c.args.lines.now c.args.goals.now c.args.closing k c.loop-t.state c.loop-t.rows.items) (sym e) c.loop-t.invariant in
    rw c.in_ok-push.ensures.items (walked_more m c.args.states.now c.args.lines.now c.args.goals.now c.args.closing c.loop-t.state left.state left.row i c.loop-t.rows.items i_in c.requires.goals one has_state has_row before)

use Rattle.std.proofs.Common.{◌≡◌, ◌+◌, ◌*◌, ◌≤◌, ◌∷◌, [], ℕ, length, get_or, refl, ◌∙◌, ap, subst, arith}
use Rattle.std.proofs.lemmas.List.{get_or_read}
use Rattle.std.proofs.lemmas.List.Elements.{All-head}
use Rattle.graph.specs.declared.circuit.Lit.{Lit}
use Rattle.graph.specs.Circuits.{variable}
use Rattle.cnf.specs.Clauses.{next_of}
use Rattle.cnf.proofs.CaseLaws.{nexts_in_range}
use Rattle.cones.specs.Marks.{IsMarked}
use Rattle.cones.specs.Reach.{Grows}
use Rattle.cones.proofs.Growing.{grows_then, grows_less}
use Rattle.cuts.specs.declared.cut.Cut.{Cut}
use Rattle.cuts.specs.Cuts.{cut_at}
use Rattle.unrolling.specs.Cones.{IsVisited}
use Rattle.unrolling.proofs.Closed.{leaves_range, next_range, visited_leaves}
use Rattle.unrolling.proofs.cone.visit.Goals as goal

pub mark-requires : goal.mark-requires
mark-requires c =
    let m = c.args.circuit.now in
    let v : ℕ = c.index-variable.result.now in
    let a : Lit = record { 0 = 2 * v } in
    let is : c.next_of.result ≡ next_of m.latches a = c.next_of.ensures ∙ c.requires.nexts.nexts a in
    let v_is : v ≡ get_or c.args.list.now.items c.args.place 0 = get_or_read c.args.list.now.items c.args.place v c.requires.inside c.index-variable.ensures 0 in
    let v_in = c.requires.in_range c.args.place 0 c.requires.inside in
    let range : (next_of m.latches a).0 ≤ 2 * m.max_var + 1 = next_range (2 * m.max_var + 1) m.latches a (nexts_in_range m c.well_formed-2.ensures) (omega (arith, v_is, v_in, c.requires.places)) (omega arith) in
    let x_is : c.variable.result ≡ variable (next_of m.latches a) = c.variable.ensures ∙ ap variable is in
    omega (arith, x_is, range, c.requires.places)

pub mark-requires-2 : goal.mark-requires-2
mark-requires-2 c =
    let v : ℕ = c.index-variable.result.now in
    let n : ℕ = length c.args.marks.now in
    let v_is : v ≡ get_or c.args.list.now.items c.args.place 0 = get_or_read c.args.list.now.items c.args.place v c.requires.inside c.index-variable.ensures 0 in
    let v_in = c.requires.in_range c.args.place 0 c.requires.inside in
    let range = leaves_range c.args.circuit.now c.args.cuts.now v n c.requires.cuts (omega (arith, v_is, v_in)) c.requires.places in
    let long : length c.mark.new.marks ≡ n = c.in_ok-mark.ensures.places in
    omega (arith, long, range.0)

pub mark-requires-3 : goal.mark-requires-3
mark-requires-3 c =
    let v : ℕ = c.index-variable.result.now in
    let n : ℕ = length c.args.marks.now in
    let v_is : v ≡ get_or c.args.list.now.items c.args.place 0 = get_or_read c.args.list.now.items c.args.place v c.requires.inside c.index-variable.ensures 0 in
    let v_in = c.requires.in_range c.args.place 0 c.requires.inside in
    let range = leaves_range c.args.circuit.now c.args.cuts.now v n c.requires.cuts (omega (arith, v_is, v_in)) c.requires.places in
    let long : length c.mark-2.new.marks ≡ n = c.in_ok-mark-2.ensures.places ∙ c.in_ok-mark.ensures.places in
    omega (arith, long, range.1)

pub mark-requires-4 : goal.mark-requires-4
mark-requires-4 c =
    let v : ℕ = c.index-variable.result.now in
    let n : ℕ = length c.args.marks.now in
    let v_is : v ≡ get_or c.args.list.now.items c.args.place 0 = get_or_read c.args.list.now.items c.args.place v c.requires.inside c.index-variable.ensures 0 in
    let v_in = c.requires.in_range c.args.place 0 c.requires.inside in
    let range = leaves_range c.args.circuit.now c.args.cuts.now v n c.requires.cuts (omega (arith, v_is, v_in)) c.requires.places in
    let long : length c.mark-3.new.marks ≡ n = c.in_ok-mark-3.ensures.places ∙ c.in_ok-mark-2.ensures.places ∙ c.in_ok-mark.ensures.places in
    omega (arith, long, range.2)

pub mark-requires-5 : goal.mark-requires-5
mark-requires-5 c =
    let v : ℕ = c.index-variable.result.now in
    let n : ℕ = length c.args.marks.now in
    let v_is : v ≡ get_or c.args.list.now.items c.args.place 0 = get_or_read c.args.list.now.items c.args.place v c.requires.inside c.index-variable.ensures 0 in
    let v_in = c.requires.in_range c.args.place 0 c.requires.inside in
    let range = leaves_range c.args.circuit.now c.args.cuts.now v n c.requires.cuts (omega (arith, v_is, v_in)) c.requires.places in
    let long : length c.mark-4.new.marks ≡ n = c.in_ok-mark-4.ensures.places ∙ c.in_ok-mark-3.ensures.places ∙ c.in_ok-mark-2.ensures.places ∙ c.in_ok-mark.ensures.places in
    omega (arith, long, range.3)

pub returns-clause-grows : goal.returns-clause-grows
returns-clause-grows c =
    grows_less _ _ _ _ _
    (grows_then _ _ _ _ _ _ _ _ (grows_then _ _ _ _ _ _ _ _ (grows_then _ _ _ _ _ _ _ _ (grows_then _ _ _ _ _ _ _ _ c.in_ok-mark.ensures c.in_ok-mark-2.ensures) c.in_ok-mark-3.ensures) c.in_ok-mark-4.ensures) c.in_ok-mark-5.ensures)

pub returns-clause-visited : goal.returns-clause-visited
returns-clause-visited c =
    let m = c.args.circuit.now in
    let cuts = c.args.cuts.now in
    let v : ℕ = c.index-variable.result.now in
    let a : Lit = record { 0 = 2 * v } in
    let marks = c.mark-5.new.marks in
    let cut : Cut = cut_at cuts v in
    let first : Grows (c.variable.result ∷ []) c.args.marks.now c.args.list.now.items c.mark.new.marks c.mark.new.list.items = c.in_ok-mark.ensures in
    let second : Grows (cut.leaves.0 ∷ []) c.mark.new.marks c.mark.new.list.items c.mark-2.new.marks c.mark-2.new.list.items = c.in_ok-mark-2.ensures in
    let third : Grows (cut.leaves.1 ∷ []) c.mark-2.new.marks c.mark-2.new.list.items c.mark-3.new.marks c.mark-3.new.list.items = c.in_ok-mark-3.ensures in
    let fourth : Grows (cut.leaves.2 ∷ []) c.mark-3.new.marks c.mark-3.new.list.items c.mark-4.new.marks c.mark-4.new.list.items = c.in_ok-mark-4.ensures in
    let fifth : Grows (cut.leaves.3 ∷ []) c.mark-4.new.marks c.mark-4.new.list.items c.mark-5.new.marks c.mark-5.new.list.items = c.in_ok-mark-5.ensures in
    let is : c.variable.result ≡ variable (next_of m.latches a) = c.variable.ensures ∙ ap variable (c.next_of.ensures ∙ c.requires.nexts.nexts a) in
    let v_is : v ≡ get_or c.args.list.now.items c.args.place 0 = get_or_read c.args.list.now.items c.args.place v c.requires.inside c.index-variable.ensures 0 in
    let on : IsMarked c.mark.new.marks c.variable.result = All-head (IsMarked c.mark.new.marks) c.variable.result [] first.marked in
    let next : IsMarked marks (variable (next_of m.latches a)) = subst (IsMarked marks) is (fifth.kept _ (fourth.kept _ (third.kept _ (second.kept _ on)))) in
    let on0 : IsMarked marks cut.leaves.0 = fifth.kept _ (fourth.kept _ (third.kept _ (All-head (IsMarked c.mark-2.new.marks) cut.leaves.0 [] second.marked))) in
    let on1 : IsMarked marks cut.leaves.1 = fifth.kept _ (fourth.kept _ (All-head (IsMarked c.mark-3.new.marks) cut.leaves.1 [] third.marked)) in
    let on2 : IsMarked marks cut.leaves.2 = fifth.kept _ (All-head (IsMarked c.mark-4.new.marks) cut.leaves.2 [] fourth.marked) in
    let on3 : IsMarked marks cut.leaves.3 = All-head (IsMarked marks) cut.leaves.3 [] fifth.marked in
    subst (IsVisited m cuts marks) v_is (visited_leaves m cuts marks v cut refl on0 on1 on2 on3 next)

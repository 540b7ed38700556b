use Rattle.std.proofs.Common.{◌≡◌, ◌∙◌, ◌+◌, ◌*◌, ◌++◌, ◌∷◌, [], ℕ, List, Some, length, get_or, sym, ap, subst, refl, arith, length-append}
use Rattle.std.proofs.lemmas.List.{get_or_at}
use Rattle.std.specs.HashMap.{get}
use Rattle.graph.specs.declared.circuit.Lit.{Lit}
use Rattle.graph.specs.declared.circuit.Gate.{Gate}
use Rattle.shrink.specs.Making.{AreMade, IsTable, same_sides, sides}
use Rattle.shrink.proofs.Made.{blank, made_conjunction, made_push, table_push}
use Rattle.shrink.proofs.making.Making.gate.Goals as goal

pub overflow_mul-result : goal.overflow_mul-result
overflow_mul-result c =
    let at = c.requires.table.sound (c.args.rhs0.0, c.args.rhs1.0) c.in-Some.variable.now (sym c.in-Some.ensures.value) in
    let room = c.requires.room in
    omega (arith, at.1, at.2)

pub returns-in-Some-clause-below : goal.returns-in-Some-clause-below
returns-in-Some-clause-below c =
    let at = c.requires.table.sound (c.args.rhs0.0, c.args.rhs1.0) c.in-Some.variable.now (sym c.in-Some.ensures.value) in
    omega (arith, at.1, at.2)

pub returns-in-Some-clause-conjunction : goal.returns-in-Some-clause-conjunction
returns-in-Some-clause-conjunction c =
    let at = c.requires.table.sound (c.args.rhs0.0, c.args.rhs1.0) c.in-Some.variable.now (sym c.in-Some.ensures.value) in
    made_conjunction c.args.first c.args.self.now.gates at.0 c.args.rhs0 c.args.rhs1 (record { 0 = 2 * c.in-Some.variable.now }) c.requires.made at.1 (at.3 blank) (ap (λ n. 2 * n) at.2)

-- the gate that is made
abbrev made_gate : ℕ → Lit → Lit → Gate
made_gate v a b = record { lhs = record { 0 = 2 * v }; rhs0 = a; rhs1 = b }

pub returns-clause-made : goal.returns-clause-made
returns-clause-made c =
    let gs : List Gate = c.args.self.now.gates in
    let g : Gate = made_gate (c.args.first + c.len.result) c.args.rhs0 c.args.rhs1 in
    let is : c.push.new.self ≡ gs ++ g ∷ [] = c.in_ok-push.ensures.ok in
    let long : c.len.result ≡ length gs = c.len.ensures in
    let below = c.requires.below in
    subst (AreMade c.args.first) (sym is) (made_push c.args.first gs g c.requires.made (record {
      numbered = ap (λ n. 2 * (c.args.first + n)) long;
      below = omega arith;
      descends = c.requires.descends;
      proper = record { left = c.requires.proper.0; right = c.requires.proper.1; two = c.requires.proper.2 };
    }))

pub returns-clause-table : goal.returns-clause-table
returns-clause-table c =
    let gs : List Gate = c.args.self.now.gates in
    let g : Gate = made_gate (c.args.first + c.len.result) c.args.rhs0 c.args.rhs1 in
    let is : c.push.new.self ≡ gs ++ g ∷ [] = c.in_ok-push.ensures.ok in
    let updates = c.in_ok-insert_hashed.ensures.updates in
    subst (λ hs. IsTable c.args.first hs (get same_sides c.insert_hashed.new.to)) (sym is)
    (table_push c.args.first gs g (get same_sides c.args.self.now.table) (get same_sides c.insert_hashed.new.to) c.requires.table (sym c.in_default.ensures.value)
    (updates.1 ∙ ap (λ n. Some (c.args.first + n)) c.len.ensures) updates.2)

pub returns-clause-conjunction : goal.returns-clause-conjunction
returns-clause-conjunction c =
    let gs : List Gate = c.args.self.now.gates in
    let g : Gate = made_gate (c.args.first + c.len.result) c.args.rhs0 c.args.rhs1 in
    let is : c.push.new.self ≡ gs ++ g ∷ [] = c.in_ok-push.ensures.ok in
    let long : c.len.result ≡ length gs = c.len.ensures in
    let last : get_or c.push.new.self (length gs) blank ≡ g = ap (λ hs. get_or hs (length gs) blank) is ∙ get_or_at gs g [] blank (length gs) refl in
    made_conjunction c.args.first c.push.new.self (length gs) c.args.rhs0 c.args.rhs1 (record { 0 = 2 * (c.args.first + c.len.result) }) (returns-clause-made c)
    (omega (arith, length-append gs (g ∷ []), ap length is)) (ap sides last) (ap (λ n. 2 * (c.args.first + n)) long)

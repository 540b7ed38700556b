use Rattle.std.proofs.Common.{◌≡◌, ◌+◌, ◌<◌, ℕ, length, rules}
use Rattle.signal_classes.specs.Paired.{later_in, lit_at}
use Rattle.signal_classes.proofs.Later.{later_of_table}
use Rattle.signal_classes.proofs.pairing.lits_by.Goals as goal

pub returns : goal.returns
returns c =
    let m = c.args.circuit.now in
    let t = c.args.nexts.now in
    let later = c.loop-variable.later.items in
    let long : length later ≡ m.max_var + 1 = search rules in
    let each : (v : ℕ) → 0 < v → v < m.max_var + 1 → lit_at later v ≡ later_in t m.max_var v = search rules in
    later_of_table m t later c.requires.table long c.loop-variable.invariant.constant each

use Rattle.std.proofs.Common.{arith, refl, ap, ◌∙◌, length, length-append, ◌≤◌, ◌+◌}
use Rattle.live_safe.specs.Shadow.{equal_literals, seen_literals}
use Rattle.live_safe.proofs.Extended.{length-equal, length-seen}
use Rattle.live_safe.proofs.gates.push_gates.Goals as goal

pub push_chain-requires : goal.push_chain-requires
push_chain-requires c =
    let ls = c.args.latches.now in
    let qs = c.args.wanted.now in
    let same = ap length (c.deref.ensures.value ∙ c.in_ok-rest.ensures ls qs refl refl) in
    let room : c.args.n.chain + length ls + length qs ≤ 4194304 = c.requires.spaced.chain in
    record { fits = omega (arith, same, room, length-append (equal_literals ls c.args.n.copies) (seen_literals qs c.args.n.seen), length-equal ls c.args.n.copies, length-seen qs c.args.n.seen) }

use Rattle.std.proofs.Common.{arith}
use Rattle.wave_texts.specs.Scopes.{alike}
use Rattle.wave_texts.proofs.ScopeLaws.{alike_all}
use Rattle.wave_texts.proofs.scopes.alike.Goals as goal

pub returns-clause-is : goal.returns-clause-is
returns-clause-is c =
    let before = c.args.before.now in
    let path = c.args.path.now in
    let all = alike_all before path c.loop-k.k (alike before path) (omega arith) c.loop-k.invariant in
    omega (arith, all)

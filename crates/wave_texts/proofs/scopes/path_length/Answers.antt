use Rattle.std.proofs.Common.{arith}
use Rattle.wave_texts.proofs.ScopeLaws.{path_found}
use Rattle.wave_texts.proofs.scopes.path_length.Goals as goal

pub returns-then-name-k-eq46-clause-is : goal.returns-then-name-k-eq46-clause-is
returns-then-name-k-eq46-clause-is c = path_found c.args.name.now c.loop-k.k 0 (omega arith) (omega arith) c.if-name-k-eq46.true c.loop-k.invariant

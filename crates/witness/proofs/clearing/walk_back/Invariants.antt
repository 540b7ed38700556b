use Rattle.witness.proofs.WalkLaws.{IsWalked}
use Rattle.witness.proofs.clearing.walk_back.Given as goal

abbrev pub invariant-loop-t : goal.invariant-loop-t
invariant-loop-t l = IsWalked l.fn.circuit l.states l.lines l.goals l.fn.closing l.t l.state l.rows.items

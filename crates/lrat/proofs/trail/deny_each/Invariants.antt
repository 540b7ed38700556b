use Rattle.std.proofs.Common.{◌≡◌, ◌+◌, ◌≤◌, ◌-◌, length, take, map, neg_ℤ}
use Rattle.std.specs.Vec.{vec_capacity, vec_len}
use Rattle.lrat.specs.Literals.{IsProper}
use Rattle.lrat.specs.Marks.{AreMarked}
use Rattle.lrat.proofs.trail.deny_each.Given as goal

abbrev pub invariant-loop-literal : goal.invariant-loop-literal
invariant-loop-literal l = record {
  marked : AreMarked l._vars l.marks.items l.literals.items;
  room : vec_len l.literals + (length l.clause - l.literal-index) ≤ vec_capacity l.literals;
  proper : IsProper l._vars (take l.literal-index l.clause);
  supposed : l.literals.items ≡ map neg_ℤ (take l.literal-index l.clause);
}

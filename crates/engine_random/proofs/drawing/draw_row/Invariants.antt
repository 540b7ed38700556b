use Rattle.std.proofs.Common.{◌≡◌, ◌-◌, length}
use Rattle.engine_random.specs.Words.{draws}
use Rattle.engine_random.proofs.DrawLaws.{drawn}
use Rattle.engine_random.proofs.drawing.draw_row.Given as goal

abbrev pub invariant-loop : goal.invariant-loop
invariant-loop l = (length l.row.items ≡ l.counter) × (drawn l.row.items (l.count - l.counter) l.generator ≡ draws l.count l.initial.generator)

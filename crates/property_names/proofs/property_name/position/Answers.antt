use Rattle.std.proofs.Common.{◌≡◌, length, arith}
use Rattle.property_names.proofs.Positions.{read_spelled, spelled_same, spelled_not_refused}
use Rattle.property_names.proofs.property_name.position.Goals as goal

pub returns-in_default-clause-only : goal.returns-in_default-clause-only
returns-in_default-clause-only c n spelled small = absurd (spelled_not_refused _ _ _ _ n c.in_default.is c.number.ensures.value c.number.ensures.place spelled small)

pub returns-then-is_empty-clause-spelled : goal.returns-then-is_empty-clause-spelled
returns-then-is_empty-clause-spelled c =
    let none : length c.in-Ok.rest.now ≡ 0 = grind arith in
    read_spelled _ _ _ c.in-Ok.ensures.value none

pub returns-then-is_empty-clause-only : goal.returns-then-is_empty-clause-only
returns-then-is_empty-clause-only c n spelled small = (spelled_same _ _ _ n c.in-Ok.ensures.value spelled small).0

pub returns-else-is_empty-clause-only : goal.returns-else-is_empty-clause-only
returns-else-is_empty-clause-only c n spelled small =
    let none : length c.in-Ok.rest.now ≡ 0 = (spelled_same _ _ _ n c.in-Ok.ensures.value spelled small).1 in
    grind arith

use Rattle.std.proofs.Common.{◌≡◌, ◌++◌, take, drop}
use Rattle.scan.specs.Bytes.{tag_at}
use Rattle.scan.proofs.bytes.tag.Given as goal

abbrev pub invariant-loop-c : goal.invariant-loop-c
invariant-loop-c g l =
    (tag_at (drop l.c-index l.wanted) l.rest ≡ tag_at l.wanted l.text)
    × (l.text ≡ take l.c-index l.wanted ++ l.rest)

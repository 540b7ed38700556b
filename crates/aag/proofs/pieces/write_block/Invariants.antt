use Rattle.std.proofs.Common.{◌≡◌, ◌*◌, ◌≤◌, drop, flat_map, length}
use Rattle.aag.proofs.pieces.write_block.Given as goal

abbrev pub invariant-writing : goal.invariant-writing
invariant-writing g l = record {
  within : l.left ≤ length l.items;
  room : 33 * l.left ≤ l.start;
  inside : l.start ≤ length l.block;
  written : drop l.start l.block ≡ flat_map g.P.ShortPiece.text (drop l.left l.items);
}

abbrev pub decreases-writing : goal.decreases-writing
decreases-writing g l = l.left

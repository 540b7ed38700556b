use Rattle.std.proofs.Common.{◌≡◌, ◌<◌, List, Bool, length, All, arith}
use Rattle.graph.specs.declared.parts.Parts.{Parts}
use Rattle.graph.specs.Circuits.{variable}
use Rattle.graph.specs.WellFormed.{used}
use Rattle.graph.proofs.Tabled.{HoldsOfUsed, holds_of_used, StaysMarked-and}
use Rattle.graph.proofs.definitions.mention_all.Goals as goal

in_table : (m : Parts) (table : List Bool) → All (λ a. variable a < length table) (used m) → HoldsOfUsed (λ a. variable a < length table) m
in_table m table h = holds_of_used (λ a. variable a < length table) m h

pub mention_next-requires : goal.mention_next-requires
mention_next-requires c = rw c.as_slice.ensures (in_table c.args.parts.now c.args.table.now c.requires).next

pub mention-requires : goal.mention-requires
mention-requires c =
    let long : length c.mention_next.new.table ≡ length c.args.table.now = omega arith in
    rw (c.as_slice-2.ensures, long) (in_table c.args.parts.now c.args.table.now c.requires).outputs

pub mention-requires-2 : goal.mention-requires-2
mention-requires-2 c =
    let long : length c.mention.new.table ≡ length c.args.table.now = omega arith in
    rw (c.as_slice-3.ensures, long) (in_table c.args.parts.now c.args.table.now c.requires).bad

pub mention-requires-3 : goal.mention-requires-3
mention-requires-3 c =
    let long : length c.mention-2.new.table ≡ length c.args.table.now = omega arith in
    rw (c.as_slice-4.ensures, long) (in_table c.args.parts.now c.args.table.now c.requires).constraints

pub mention_justice-requires : goal.mention_justice-requires
mention_justice-requires c =
    let long : length c.mention-3.new.table ≡ length c.args.table.now = omega arith in
    rw (c.as_slice-5.ensures, long) (in_table c.args.parts.now c.args.table.now c.requires).justice

pub mention-requires-4 : goal.mention-requires-4
mention-requires-4 c =
    let long : length c.mention_justice.new.table ≡ length c.args.table.now = omega arith in
    rw (c.as_slice-6.ensures, long) (in_table c.args.parts.now c.args.table.now c.requires).fairness

pub mention_left-requires : goal.mention_left-requires
mention_left-requires c =
    let long : length c.mention-4.new.table ≡ length c.args.table.now = omega arith in
    rw (c.as_slice-7.ensures, long) (in_table c.args.parts.now c.args.table.now c.requires).left

pub mention_right-requires : goal.mention_right-requires
mention_right-requires c =
    let long : length c.mention_left.new.table ≡ length c.args.table.now = omega arith in
    rw (c.as_slice-8.ensures, long) (in_table c.args.parts.now c.args.table.now c.requires).right

pub returns : goal.returns
returns c =
    let next = rw c.as_slice.ensures at c.mention_next.ensures in
    let outputs = StaysMarked-and _ _ _ _ _ next (rw c.as_slice-2.ensures at c.mention.ensures) in
    let bad = StaysMarked-and _ _ _ _ _ outputs (rw c.as_slice-3.ensures at c.mention-2.ensures) in
    let constraints = StaysMarked-and _ _ _ _ _ bad (rw c.as_slice-4.ensures at c.mention-3.ensures) in
    let justice = StaysMarked-and _ _ _ _ _ constraints (rw c.as_slice-5.ensures at c.mention_justice.ensures) in
    let fairness = StaysMarked-and _ _ _ _ _ justice (rw c.as_slice-6.ensures at c.mention-4.ensures) in
    let left = StaysMarked-and _ _ _ _ _ fairness (rw c.as_slice-7.ensures at c.mention_left.ensures) in
    StaysMarked-and _ _ _ _ _ left (rw c.as_slice-8.ensures at c.mention_right.ensures)

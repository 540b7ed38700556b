use Rattle.std.proofs.Common.{rules, ◌↔◌, ℤ, pos, unsigned_abs, inl, inr, SFits, w32}
use Rattle.lrat.specs.Literals.{IsLiteral}
use Rattle.lrat.proofs.Fit.{read32}
use Rattle.unrolling.specs.Encodings.{IsAmong}
use Rattle.unrolling.proofs.Added.{read_as}
use Rattle.unrolling.proofs.Arranged.{on_among, unsigned_literal}
use Rattle.unrolling.proofs.function.Function.arranged.Goals as goal

pub literal_table-requires-clause-among : goal.literal_table-requires-clause-among
literal_table-requires-clause-among c =
    let f : SFits w32 c.unsigned.result = search rules in
    (c.sorted-leaves.ensures _).1 (inl (read_as _ _ f c.unsigned.ensures))

pub literal_table-requires-2-clause-among : goal.literal_table-requires-2-clause-among
literal_table-requires-2-clause-among c =
    let f : SFits w32 c.unsigned-2.result = search rules in
    (c.sorted-leaves.ensures _).1 (inr (inl (read_as _ _ f c.unsigned-2.ensures)))

pub literal_table-requires-3-clause-among : goal.literal_table-requires-3-clause-among
literal_table-requires-3-clause-among c =
    let f : SFits w32 c.unsigned-3.result = search rules in
    (c.sorted-leaves.ensures _).1 (inr (inr (inl (read_as _ _ f c.unsigned-3.ensures))))

pub literal_table-requires-4-clause-among : goal.literal_table-requires-4-clause-among
literal_table-requires-4-clause-among c =
    let f : SFits w32 c.unsigned-4.result = search rules in
    (c.sorted-leaves.ensures _).1 (inr (inr (inr (read_as _ _ f c.unsigned-4.ensures))))

pub returns-clause-leaves : goal.returns-clause-leaves
returns-clause-leaves c = λ n is.
    let q = c.args.self.leaves in
    let p : ℤ × ℤ × ℤ × ℤ = (pos (unsigned_abs q.0), pos (unsigned_abs q.1), pos (unsigned_abs q.2), pos (unsigned_abs q.3)) in
    let fx : SFits w32 q.0 = search rules in
    let fy : SFits w32 q.1 = search rules in
    let fz : SFits w32 q.2 = search rules in
    let fw : SFits w32 q.3 = search rules in
    let f1 : SFits w32 c.unsigned.result = search rules in
    let f2 : SFits w32 c.unsigned-2.result = search rules in
    let f3 : SFits w32 c.unsigned-3.result = search rules in
    let f4 : SFits w32 c.unsigned-4.result = search rules in
    let e1 = rw (read32 _ fx) at c.unsigned.ensures in
    let e2 = rw (read32 _ fy) at c.unsigned-2.ensures in
    let e3 = rw (read32 _ fz) at c.unsigned-3.ensures in
    let e4 = rw (read32 _ fw) at c.unsigned-4.ensures in
    let same : (l : ℤ) → IsAmong c.sorted-leaves.result l ↔ IsAmong p l = rw (read_as _ _ f1 e1, read_as _ _ f2 e2, read_as _ _ f3 e3, read_as _ _ f4 e4) at c.sorted-leaves.ensures in
    on_among (IsLiteral n) c.sorted-leaves.result p same (unsigned_literal n q.0 is.0, unsigned_literal n q.1 is.1, unsigned_literal n q.2 is.2, unsigned_literal n q.3 is.3)

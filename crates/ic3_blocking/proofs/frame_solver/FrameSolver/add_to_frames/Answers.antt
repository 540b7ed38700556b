use Rattle.std.proofs.Common.{◌≡◌, ◌+◌, ◌<◌, All, refl, arith, sym, subst, ◌∙◌}
use Rattle.cnf.specs.Formulas.{bad_literal}
use Rattle.states.specs.States.{Holds}
use Rattle.ic3_frames.specs.declared.frames.Entry.{Entry}
use Rattle.ic3_frames.specs.Frames.{IsStateClause}
use Rattle.ic3_blocking.specs.Sound.{HasFrames}
use Rattle.ic3_blocking.proofs.Guarding.{has_within}
use Rattle.ic3_blocking.proofs.Joining.{all_more, entry_holds}
use Rattle.ic3_blocking.proofs.frame_solver.FrameSolver.add_to_frames.Goals as goal

pub add_clause-requires : goal.add_clause-requires
add_clause-requires g c =
    let sound = c.requires.sound in
    let top = sound.top in
    record {
      has = (c.args.frames.now.entries, sound.has);
      level = omega (arith, top, c.requires.below);
      clause = subst (IsStateClause c.args.circuit.now) (sym c.as_slice.ensures) c.requires.inductive.clause;
    }

pub returns-clause-sound : goal.returns-clause-sound
returns-clause-sound g c =
    let m = c.args.circuit.now in
    let a = c.args.self.now in
    let old = c.args.frames.now.entries in
    let new = c.add.new.self.entries in
    let added = c.in_ok-add.ensures in
    let sound = c.requires.sound in
    let is = c.requires.inductive in
    let top = sound.top in
    let level : Entry = record { clause = c.args.clause; level = c.args.level + 1 } in
    let same : a.levels ≡ c.add_clause.new.self.levels = sym c.add_clause.ensures.levels in
    let kept = c.add_clause.new.self in
    let counted : c.count_subsumed.new.self ≡ kept.transition = c.count_subsumed.ensures ∙ c.count.ensures in
    record {
      has = subst (λ t. HasFrames {S = g.row.S.Denot} m new (record { transition = t; levels = kept.levels; room = kept.room; next = kept.next })) (sym counted)
          (c.in_ok-add_clause.ensures.has new (has_within m old new a added.within sound.has)
          (λ s inside. subst (Holds s) (sym c.as_slice.ensures) (entry_holds new c.args.clause (c.args.level + 1) s added.newest inside)));
      laws = added.laws m (bad_literal m 0) c.args.level sound.laws refl is.clause is.initial is.onward;
      top = omega (arith, top, same, c.add.ensures.top);
      below = all_more (λ (e : Entry). e.level < c.add_clause.new.self.levels) old new level added.only
          (subst (λ n. All (λ (e : Entry). e.level < n) old) same sound.below) (omega (arith, top, same, c.requires.below));
    }

pub returns-clause-held : goal.returns-clause-held
returns-clause-held g c = λ s inside. entry_holds c.add.new.self.entries c.args.clause (c.args.level + 1) s c.in_ok-add.ensures.newest inside

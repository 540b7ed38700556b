use Rattle.std.proofs.Common.{◌∙◌, arith, length-set, map, refl, sym, None}
use Rattle.std.proofs.lemmas.List.{get_or-map, length-map}
use Rattle.graph.specs.Circuits.{variable}
use Rattle.wave_signals.proofs.OpenFillLaws.{open_written_at, open_written_kept, open_written_more, open_written_none}
use Rattle.wave_signals.proofs.OpenLaws.{stand_given}
use Rattle.wave_signals.proofs.open_values.fill.Goals as goal

pub loop-i-init : goal.loop-i-init
loop-i-init c = record { places = refl; written = open_written_none (map variable c.args.lits.now) c.args.given.now c.args.out.now; stand = λ w h g. h }

pub returns-clause-written : goal.returns-clause-written
returns-clause-written c = open_written_at c.args.lits.now c.args.given.now c.args.out.now c.loop-i.out c.loop-i.i (omega arith) c.loop-i.invariant.written

pub returns-clause-kept : goal.returns-clause-kept
returns-clause-kept c = open_written_kept (map variable c.args.lits.now) c.args.given.now c.args.out.now c.loop-i.out c.loop-i.i (omega (arith, length-map c.args.lits.now variable)) c.loop-i.invariant.written

pub loop-i-preserved : goal.loop-i-preserved
loop-i-preserved c =
    let range = c.requires.in_range c.loop-i.i (record { 0 = 0 }) (omega arith) in
    record {
      places = length-set c.loop-i.out c.variable.result _ ∙ c.loop-i.invariant.places;
      written = open_written_more (map variable c.args.lits.now) c.args.given.now c.args.out.now c.loop-i.out c.loop-i.i c.variable.result _ (omega (arith, length-map c.args.lits.now variable)) c.requires.once
          (get_or-map variable c.args.lits.now c.loop-i.i (record { 0 = 0 }) 0 (omega arith) ∙ sym c.variable.ensures) (omega (arith, range, c.variable.ensures, c.loop-i.invariant.places)) refl c.loop-i.invariant.written;
      stand = λ w h g.
          stand_given c.args.lits.now c.args.given.now c.loop-i.i (record { 0 = 0 }) None c.loop-i.out w c.variable.result _ (omega arith) c.requires.lengths c.variable.ensures refl
          (omega (arith, range, c.variable.ensures, c.loop-i.invariant.places)) g (c.loop-i.invariant.stand w h g);
    }

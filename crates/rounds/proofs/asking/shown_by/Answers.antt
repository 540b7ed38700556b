use Rattle.rounds.proofs.Clauses.{meant_on}
use Rattle.rounds.proofs.Tried.{tried_by_clauses}
use Rattle.rounds.proofs.asking.shown_by.Goals as goal

pub returns-clause-tried : goal.returns-clause-tried
returns-clause-tried c =
    tried_by_clauses c.args.circuit.now c.args.position c.args.rounds c.args.invariant c.certify.new.budget c.certify.result c.of_certified.result c.of_certified.ensures c.accepted_law.ensures
    c.accepted_rounds_law.ensures c.well_formed-2.ensures c.certify.ensures.certified

pub returns-clause-meant : goal.returns-clause-meant
returns-clause-meant c h =
    meant_on c.args.circuit.now c.args.position c.args.rounds c.args.invariant c.certify.new.budget c.certify.result c.of_certified.result c.of_certified.ensures
    (record {
      showable = c.requires.showable;
      well = c.rounds_laws.ensures.formed.formed c.requires.showable.within;
      invariant = h;
    })
    c.certify.ensures.certified c.certify.ensures.honest c.certify.ensures.refused

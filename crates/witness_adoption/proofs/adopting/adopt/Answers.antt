use Rattle.stimulus.proofs.RowLaws.{err_at}
use Rattle.witness_pairs.specs.Pairs.{IsRefused}
use Rattle.witness_adoption.proofs.Adoption.{other_refused}
use Rattle.witness_adoption.proofs.adopting.adopt.Goals as goal

pub returns-in_err-addition-clause-refused : goal.returns-in_err-addition-clause-refused
returns-in_err-addition-clause-refused c =
    err_at _ _ (IsRefused c.args.witness.now) c.from_residual-in_err-addition.ensures.1 (other_refused c.args.witness.now _ c.in_err-addition.ensures)

pub returns-clause-clauses : goal.returns-clause-clauses
returns-clause-clauses c = record { bad = c.in_ok-bad.bad; about = c.in_ok-bad.ensures.about; adopted = c.in_ok-adopted.ensures }

use Rattle.std.proofs.Common.{sym, length, ◌∙◌}
use Rattle.std.proofs.lemmas.Option.{same_Some}
use Rattle.invariant.proofs.Negated.{negation_law}
use Rattle.invariant.proofs.PlaLaws.{pla_found, pla_again, pla_fails}
use Rattle.invariant.proofs.pla.read_pla.Goals as goal

pub returns-in-Ok-clause-found : goal.returns-in-Ok-clause-found
returns-in-Ok-clause-found c = pla_found c.args.file.now c.args.text.now c.in-Ok.clauses c.in-Ok.ensures

pub returns-in-Ok-clause-only : goal.returns-in-Ok-clause-only
returns-in-Ok-clause-only c =
    λ cs s. same_Some c.in-Ok.clauses cs (sym c.in-Ok.ensures ∙ pla_again c.args.file.now c.args.text.now cs s)

pub returns-in-Err-clause-only : goal.returns-in-Err-clause-only
returns-in-Err-clause-only c =
    λ cs s. c.error.ensures ∙ pla_fails c.args.file.now c.args.text.now cs (length c.args.text.now) c.in-Err.fault c.in-Err.ensures s

pub returns-in-Ok-clause-negation : goal.returns-in-Ok-clause-negation
returns-in-Ok-clause-negation c = negation_law

pub returns-in-Err-clause-negation : goal.returns-in-Err-clause-negation
returns-in-Err-clause-negation c = negation_law

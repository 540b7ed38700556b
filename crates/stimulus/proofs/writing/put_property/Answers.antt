use Rattle.std.proofs.Common.{◌≡◌, ◌++◌, ◌∷◌, [], ◌∙◌, subst}
use Rattle.std.specs.Prelude.{decimal}
use Rattle.base.specs.Devices.{Puts}
use Rattle.base.proofs.Putting.{puts_of, puts_then}
use Rattle.stimulus.proofs.Pieces.{three}
use Rattle.stimulus.proofs.WriteLaws.{first_fails}
use Rattle.stimulus.proofs.writing.put_property.Goals as goal

pub returns-in_err-put_all-clause-puts : goal.returns-in_err-put_all-clause-puts
returns-in_err-put_all-clause-puts g c =
    let r = c.from_residual in
    subst (Puts r.result _ _) (three c.args.letter.now (decimal c.args.position) (10 ∷ [])) (
    first_fails r.result _ _ c.args.letter.now (decimal c.args.position ++ 10 ∷ []) r.ensures.0 c.in_err-put_all.ensures.beginning)

pub returns-in_err-put_all-2-clause-puts : goal.returns-in_err-put_all-2-clause-puts
returns-in_err-put_all-2-clause-puts g c =
    let r = c.from_residual-in_err-put_all-2 in
    let same : c.as_bytes.result.now ≡ decimal c.args.position = c.as_bytes.ensures.value ∙ c.format.ensures.text in
    subst (Puts r.result _ _) (three c.args.letter.now (decimal c.args.position) (10 ∷ [])) (
    puts_then r.result _ (g.W.Sink.contents c.put_all.new.out) _ c.args.letter.now (decimal c.args.position ++ 10 ∷ []) c.in_ok-put_all.ensures.whole
    (first_fails r.result _ _ (decimal c.args.position) (10 ∷ []) r.ensures.0 (rw same at c.in_err-put_all-2.ensures.beginning)))

pub returns-clause-puts : goal.returns-clause-puts
returns-clause-puts g c =
    let r = c.put_all-3 in
    let same : c.as_bytes.result.now ≡ decimal c.args.position = c.as_bytes.ensures.value ∙ c.format.ensures.text in
    let between = g.W.Sink.contents c.put_all-2.new.out in
    subst (Puts r.result _ _) (three c.args.letter.now (decimal c.args.position) (10 ∷ [])) (
    puts_then r.result _ (g.W.Sink.contents c.put_all.new.out) _ c.args.letter.now (decimal c.args.position ++ 10 ∷ []) c.in_ok-put_all.ensures.whole
    (puts_then r.result _ between _ (decimal c.args.position) (10 ∷ []) (rw same at c.in_ok-put_all-2.ensures.whole)
    (puts_of r.result between _ (10 ∷ []) r.ensures.whole r.ensures.beginning))
    )

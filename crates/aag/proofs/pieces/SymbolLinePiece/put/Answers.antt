use Rattle.std.proofs.Common.{◌∷◌, [], subst}
use Rattle.base.specs.Devices.{Puts}
use Rattle.base.proofs.Putting.{puts_of, puts_then}
use Rattle.aag.specs.Tail.{letter_of}
use Rattle.aag.proofs.PieceLaws.{first_fails, symbol_is, word}
use Rattle.aag.proofs.pieces.SymbolLinePiece.put.Goals as goal

pub returns-in_err-put_all-clause-puts : goal.returns-in_err-put_all-clause-puts
returns-in_err-put_all-clause-puts g c =
    let s = c.args.item.now in
    let r = c.from_residual in
    subst (Puts r.result _ _) (symbol_is s) (first_fails r.result _ _ (letter_of s.kind ∷ []) _ r.ensures.0 (rw c.letter_of.ensures at c.in_err-put_all.ensures.beginning))

pub returns-in_err-put_number-clause-puts : goal.returns-in_err-put_number-clause-puts
returns-in_err-put_number-clause-puts g c =
    let s = c.args.item.now in
    let r = c.from_residual-in_err-put_number in
    subst (Puts r.result _ _) (symbol_is s)
    (puts_then r.result _ (g.W.Sink.contents c.put_all.new.out) _ (letter_of s.kind ∷ []) _ (rw c.letter_of.ensures at c.in_ok-put_all.ensures.whole)
    (first_fails r.result _ _ (word s.position 32) _ r.ensures.0 c.in_err-put_number.ensures.puts))

pub returns-in_err-put_all-2-clause-puts : goal.returns-in_err-put_all-2-clause-puts
returns-in_err-put_all-2-clause-puts g c =
    let s = c.args.item.now in
    let r = c.from_residual-in_err-put_all-2 in
    subst (Puts r.result _ _) (symbol_is s)
    (puts_then r.result _ (g.W.Sink.contents c.put_all.new.out) _ (letter_of s.kind ∷ []) _ (rw c.letter_of.ensures at c.in_ok-put_all.ensures.whole)
    (puts_then r.result _ (g.W.Sink.contents c.put_number.new.out) _ (word s.position 32) _ c.in_ok-put_number.ensures.puts
    (first_fails r.result _ _ s.name _ r.ensures.0 (rw c.as_slice.ensures at c.in_err-put_all-2.ensures.beginning))))

pub returns-clause-puts : goal.returns-clause-puts
returns-clause-puts g c =
    let s = c.args.item.now in
    let last = c.put_all-3 in
    let before_last = g.W.Sink.contents c.put_all-2.new.out in
    subst (Puts last.result _ _) (symbol_is s)
    (puts_then last.result _ (g.W.Sink.contents c.put_all.new.out) _ (letter_of s.kind ∷ []) _ (rw c.letter_of.ensures at c.in_ok-put_all.ensures.whole)
    (puts_then last.result _ (g.W.Sink.contents c.put_number.new.out) _ (word s.position 32) _ c.in_ok-put_number.ensures.puts
    (puts_then last.result _ before_last _ s.name _ (rw c.as_slice.ensures at c.in_ok-put_all-2.ensures.whole)
    (puts_of last.result before_last _ (10 ∷ []) last.ensures.whole last.ensures.beginning))))

use Rattle.std.proofs.Common.{◌∷◌, [], ◌++◌, subst}
use Rattle.std.specs.Prelude.{decimal, flat_map}
use Rattle.base.specs.Devices.{Puts}
use Rattle.base.proofs.Putting.{puts_of, puts_then}
use Rattle.scan.specs.Lists.{spaced}
use Rattle.aag.specs.Writing.{trimmed}
use Rattle.aag.proofs.PieceLaws.{first_fails, four_counts, header_is, other_counts}
use Rattle.aag.proofs.writing.put_header.Goals as goal

pub returns-in_err-put_all-clause-puts : goal.returns-in_err-put_all-clause-puts
returns-in_err-put_all-clause-puts g c =
    let m = c.args.parts.now in
    let r = c.from_residual in
    subst (Puts r.result _ _) (header_is c.args.word.now m)
    (first_fails r.result _ _ c.args.word.now _ r.ensures.0 c.in_err-put_all.ensures.beginning)

pub returns-in_err-put_number-clause-puts : goal.returns-in_err-put_number-clause-puts
returns-in_err-put_number-clause-puts g c =
    let m = c.args.parts.now in
    let r = c.from_residual-in_err-put_number in
    subst (Puts r.result _ _) (header_is c.args.word.now m)
    (puts_then r.result _ (g.W.Sink.contents c.put_all.new.out) _ c.args.word.now _ c.in_ok-put_all.ensures.whole
    (first_fails r.result _ _ (decimal m.max_var ++ []) _ r.ensures.0 c.in_err-put_number.ensures.puts))

pub returns-in_err-put_each-clause-puts : goal.returns-in_err-put_each-clause-puts
returns-in_err-put_each-clause-puts g c =
    let m = c.args.parts.now in
    let r = c.from_residual-in_err-put_each in
    subst (Puts r.result _ _) (header_is c.args.word.now m)
    (puts_then r.result _ (g.W.Sink.contents c.put_all.new.out) _ c.args.word.now _ c.in_ok-put_all.ensures.whole
    (puts_then r.result _ (g.W.Sink.contents c.put_number.new.out) _ (decimal m.max_var ++ []) _ c.in_ok-put_number.ensures.puts
    (first_fails r.result _ _ (flat_map spaced (four_counts m)) _ r.ensures.0 (rw (c.len.ensures, c.len-2.ensures, c.len-3.ensures, c.len-4.ensures) at c.in_err-put_each.ensures.puts))))

pub returns-in_err-put_each-2-clause-puts : goal.returns-in_err-put_each-2-clause-puts
returns-in_err-put_each-2-clause-puts g c =
    let m = c.args.parts.now in
    let r = c.from_residual-in_err-put_each-2 in
    subst (Puts r.result _ _) (header_is c.args.word.now m)
    (puts_then r.result _ (g.W.Sink.contents c.put_all.new.out) _ c.args.word.now _ c.in_ok-put_all.ensures.whole
    (puts_then r.result _ (g.W.Sink.contents c.put_number.new.out) _ (decimal m.max_var ++ []) _ c.in_ok-put_number.ensures.puts
    (puts_then r.result _ (g.W.Sink.contents c.put_each.new.out) _ (flat_map spaced (four_counts m)) _ (rw (c.len.ensures, c.len-2.ensures, c.len-3.ensures, c.len-4.ensures) at c.in_ok-put_each.ensures.puts)
    (first_fails r.result _ _ (flat_map spaced (trimmed (other_counts m))) _ r.ensures.0 (rw (c.trimmed.ensures, c.len-5.ensures, c.len-6.ensures, c.len-7.ensures, c.len-8.ensures) at c.in_err-put_each-2.ensures.puts)))))

pub returns-clause-puts : goal.returns-clause-puts
returns-clause-puts g c =
    let m = c.args.parts.now in
    let r = c.put_all-2 in
    subst (Puts r.result _ _) (header_is c.args.word.now m)
    (puts_then r.result _ (g.W.Sink.contents c.put_all.new.out) _ c.args.word.now _ c.in_ok-put_all.ensures.whole
    (puts_then r.result _ (g.W.Sink.contents c.put_number.new.out) _ (decimal m.max_var ++ []) _ c.in_ok-put_number.ensures.puts
    (puts_then r.result _ (g.W.Sink.contents c.put_each.new.out) _ (flat_map spaced (four_counts m)) _ (rw (c.len.ensures, c.len-2.ensures, c.len-3.ensures, c.len-4.ensures) at c.in_ok-put_each.ensures.puts)
    (puts_then r.result _ (g.W.Sink.contents c.put_each-2.new.out) _ (flat_map spaced (trimmed (other_counts m))) _ (rw (c.trimmed.ensures, c.len-5.ensures, c.len-6.ensures, c.len-7.ensures, c.len-8.ensures) at c.in_ok-put_each-2.ensures.puts) (puts_of r.result (g.W.Sink.contents c.put_each-2.new.out) _ (10 ∷ []) r.ensures.whole r.ensures.beginning)))))

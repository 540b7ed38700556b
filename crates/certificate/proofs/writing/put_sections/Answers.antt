use Rattle.std.proofs.Common.{◌≡◌, ◌+◌, ◌-◌, ◌++◌, take, drop, arith}
use Rattle.std.specs.Prelude.{flat_map}
use Rattle.std.specs.Io.KnownBytes.{Appends}
use Rattle.std.proofs.lemmas.List.{take_rest}
use Rattle.base.specs.Devices.{PutsBeginning}
use Rattle.lrat.specs.Texts.{Puts}
use Rattle.lrat.proofs.PutLaws.{puts_then}
use Rattle.certificate.specs.Texts.{section_text}
use Rattle.certificate.proofs.PutLaws.{stops, puts_as, sections_parts}
use Rattle.certificate.proofs.writing.put_sections.Goals as goal

pub returns-in_err-put_each-clause-puts : goal.returns-in_err-put_each-clause-puts
returns-in_err-put_each-clause-puts g c =
    let n = c.args.clauses in
    let proofs = c.args.proofs.now in
    let initial = flat_map (section_text 105) (take n proofs) in
    let steps = flat_map (section_text 115) (take n (drop n proofs)) in
    let bad = flat_map (section_text 98) (drop (n + n) proofs) in
    let before = g.W.Sink.contents c.args.out.now in
    let one = g.W.Sink.contents c.put_each.new.out in
    let r = c.from_residual.result in
    puts_as r before one _ _ (sections_parts n proofs) (stops r before one initial (steps ++ bad) c.from_residual.ensures.0 c.in_err-put_each.ensures.puts)

pub returns-in_err-put_each-2-clause-puts : goal.returns-in_err-put_each-2-clause-puts
returns-in_err-put_each-2-clause-puts g c =
    let n = c.args.clauses in
    let proofs = c.args.proofs.now in
    let initial = flat_map (section_text 105) (take n proofs) in
    let steps = flat_map (section_text 115) (take n (drop n proofs)) in
    let bad = flat_map (section_text 98) (drop (n + n) proofs) in
    let before = g.W.Sink.contents c.args.out.now in
    let one = g.W.Sink.contents c.put_each.new.out in
    let half : n + n - n ≡ n = omega arith in
    let two = g.W.Sink.contents c.put_each-2.new.out in
    let r = c.from_residual-in_err-put_each-2.result in
    let begun : PutsBeginning one two steps = rw half at c.in_err-put_each-2.ensures.puts in
    puts_as r before two _ _ (sections_parts n proofs)
    (puts_then r before one two initial (steps ++ bad) c.in_ok-put_each.ensures.puts (stops r one two steps bad c.from_residual-in_err-put_each-2.ensures.0 begun))

pub returns-clause-puts : goal.returns-clause-puts
returns-clause-puts g c =
    let n = c.args.clauses in
    let proofs = c.args.proofs.now in
    let initial = flat_map (section_text 105) (take n proofs) in
    let steps = flat_map (section_text 115) (take n (drop n proofs)) in
    let bad = flat_map (section_text 98) (drop (n + n) proofs) in
    let before = g.W.Sink.contents c.args.out.now in
    let one = g.W.Sink.contents c.put_each.new.out in
    let half : n + n - n ≡ n = omega arith in
    let two = g.W.Sink.contents c.put_each-2.new.out in
    let after = g.W.Sink.contents c.put_each-3.new.out in
    let r = c.put_each-3.result in
    let second : Appends one two steps = rw half at c.in_ok-put_each-2.ensures.puts in
    let last : Puts r two after bad = rw (take_rest proofs (n + n)) at c.put_each-3.ensures.puts in
    puts_as r before after _ _ (sections_parts n proofs)
    (puts_then r before one after initial (steps ++ bad) c.in_ok-put_each.ensures.puts (puts_then r one two after steps bad second last))

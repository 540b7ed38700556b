use Rattle.std.proofs.Common.{◌≡◌, ◌-◌, ◌++◌, List, None, length, map, take}
use Rattle.base.specs.Devices.{Reads}
use Rattle.scan.specs.Lists.{many_at}
use Rattle.lrat.specs.declared.line.Line.{Line}
use Rattle.certificate.specs.Reading.{section_at}
use Rattle.certificate.specs.Streams.{StillReads}
use Rattle.checker2.specs.Accepted.{step_case}
use Rattle.checker2.specs.Streamed.{AreProofs}
use Rattle.checker2.proofs.case_text.check_steps.Given as goal

abbrev pub invariant-loop-k : goal.invariant-loop-k
invariant-loop-k g l = record {
  steady : g.S.Source.failed l.from ≡ g.S.Source.failed l.fn.from;
  fresh : l.refuter.refusal ≡ None;
  base : l.refuter.base ≡ l.fn.refuter.base;
  reads : Reads (g.S.Source.leaves l.fn.from) (g.S.Source.leaves l.from) (λ ys zs. (front : List (List Line)) × AreProofs (map (step_case l.check.circuit.now l.fn.refuter.base) (take l.k l.fn.check.invariant.now)) front × StillReads (many_at (section_at 115) (length l.fn.check.invariant.now) (l.fn.reader.held ++ ys)) front (many_at (section_at 115) (length l.fn.check.invariant.now - l.k)) l.reader.held zs);
}

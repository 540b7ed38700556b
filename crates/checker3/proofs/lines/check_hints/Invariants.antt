use Rattle.std.proofs.Common.{◌≡◌, ◌-◌, ◌++◌, ℕ, List, map, length}
use Rattle.std.specs.FinMap as fin
use Rattle.base.specs.Devices.{Reads}
use Rattle.scan.specs.Lists.{many_at}
use Rattle.cnf.specs.Clauses.{literal}
use Rattle.certificate.specs.Streams.{StillReads}
use Rattle.certificate3.specs.Reading.{hints_at}
use Rattle.checker3.specs.Judged.{AreShown}
use Rattle.checker3.proofs.lines.check_hints.Given as goal

abbrev pub invariant-loop-k : goal.invariant-loop-k
invariant-loop-k g l = record {
  steady : g.S.Source.failed l.from ≡ g.S.Source.failed l.fn.from;
  same : l.refuter ≡ l.fn.refuter;
  reads : Reads (g.S.Source.leaves l.fn.from) (g.S.Source.leaves l.from) (λ ys zs. (front : List (List ℕ)) × (length front ≡ l.k)
      × AreShown l.fn.refuter.base.vars (fin.get l.fn.refuter.stage.present) (map (map (literal l.timed.time.max_var l.timed.time.offset)) l.timed.clauses.now) front l.k
      × StillReads (many_at hints_at (length l.timed.clauses.now) (l.fn.reader.held ++ ys)) front (many_at hints_at (length l.timed.clauses.now - l.k)) l.reader.held zs);
}

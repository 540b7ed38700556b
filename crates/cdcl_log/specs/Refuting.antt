-- A formula that is refuted with units.
use Rattle.std.specs.Prelude.{ℕ, List}
use Rattle.lrat.specs.declared.formula.Formula.{Formula}
use Rattle.lrat.specs.declared.line.Line.{Line}
use Rattle.cdcl_log.specs.Logged.{Logged, added_to}

-- the formula, how many units there may be, and the lines of the log on which closings rest
pub record Refuting : Type 0 where
  pub formula : Formula
  pub room : ℕ
  pub log : List Line

-- what a kernel with a log is seen as
abbrev pub refuting : Logged → Refuting
refuting k = record { formula = added_to k; room = k.room; log = k.shared }

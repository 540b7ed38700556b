-- What is answered by a search through stages.
use Rattle.std.specs.Prelude.{ℕ, Result, IfOk}
use Rattle.base.specs.Budget.{Steps}
use Rattle.graph.specs.declared.parts.Parts.{Parts}
use Rattle.engine.specs.declared.engine_error.EngineError.{EngineError}
use Rattle.engine.specs.declared.finding.Finding.{Finding}
use Rattle.engine.specs.Findings.{IsSo}
use Rattle.engine.specs.InOrder.{IsInOrder}
use Rattle.bmc.specs.Depths.{IsShortest, IsWithinDepth}
use Rattle.ic3.specs.Answers.{IsDecided}
use Rattle.correspondence.specs.Answered.{IsAnswered}
use Rattle.strategies.specs.Shares.{AreInShares}

-- what bounded search answers of runs of at most so many steps
unfoldable pub IsBounded : ℕ → Parts → Steps → Result Finding EngineError → Steps → Type 0
IsBounded depth m before r after = IfOk r (IsSo m after) × IfOk r (IsShortest m) × IfOk r (IsWithinDepth depth)

-- what IC3 answers
unfoldable pub IsInductive : Parts → Steps → Result Finding EngineError → Steps → Type 0
IsInductive m before r after = IfOk r (IsSo m after) × IfOk r (IsDecided m)

-- what register correspondence answers, and behind it bounded search, IC3 and bounded search with another depth about the
-- circuit in which latches are merged
unfoldable pub IsSearched : ℕ → ℕ → Parts → Steps → Result Finding EngineError → Steps → Type 0
IsSearched first last = IsAnswered (IsInOrder (IsBounded first) (AreInShares IsInductive (IsBounded last)))

-- what bounded search answers with a part of the budget, and behind it IC3 and bounded search with another depth
unfoldable pub IsBegun : ℕ → ℕ → Parts → Steps → Result Finding EngineError → Steps → Type 0
IsBegun first last = AreInShares (IsBounded first) (AreInShares IsInductive (IsBounded last))

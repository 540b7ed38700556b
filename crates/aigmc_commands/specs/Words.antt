-- What JSON says of a conclusion.
use Rattle.std.specs.Prelude.{ℕ, List, codes}
use Rattle.verdict.specs.declared.verdict.Verdict.TheVariants.{Safe, Unsafe, Unknown}
use Rattle.rounds.specs.declared.counted.Counted.TheVariants as counted
use Rattle.portfolio.specs.declared.conclusion.Conclusion.{Conclusion}
use Rattle.portfolio.specs.declared.conclusion.Conclusion.TheVariants.{Decided, Counted, Shown}

-- the word for what was found
abbrev pub verdict_word : Conclusion → List ℕ
verdict_word (Decided (Safe certificate)) = codes "holds"
verdict_word (Decided (Unsafe stimulus)) = codes "violated"
verdict_word (Decided (Unknown reason)) = codes "unknown"
verdict_word (Counted (counted.Bounded rounds text)) = codes "holds"
verdict_word (Counted (counted.Unknown cause held)) = codes "unknown"
verdict_word (Shown text) = codes "holds"

-- whether the evidence was judged: a run was replayed, and a certificate checked where its text was made
abbrev pub checked_word : Conclusion → List ℕ
checked_word (Decided (Safe certificate)) = codes "null"
checked_word (Decided (Unsafe stimulus)) = codes "true"
checked_word (Decided (Unknown reason)) = codes "null"
checked_word (Counted (counted.Bounded rounds text)) = codes "true"
checked_word (Counted (counted.Unknown cause held)) = codes "null"
checked_word (Shown text) = codes "true"

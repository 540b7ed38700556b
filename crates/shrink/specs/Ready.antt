-- Files that can be written in the binary layout.
use Rattle.std.specs.Prelude.{◌≡◌}
use Rattle.graph.specs.File.{File}
use Rattle.graph.specs.Circuits.{IsOrdered}
use Rattle.shrink.specs.Shrunk.{IsShrunk}

-- the second file's circuit is ordered: it is the first one's where that is, and else that made smaller by structural
-- hashing; names and comment are the same
pub record IsReady (f g : File) : Type 0 where
  pub ordered : IsOrdered g.model
  pub kept : IsOrdered f.model → g.model ≡ f.model
  pub shrunk : (IsOrdered f.model → ⊥) → IsShrunk f.model g.model
  pub symbols : g.symbols ≡ f.symbols
  pub comment : g.comment ≡ f.comment

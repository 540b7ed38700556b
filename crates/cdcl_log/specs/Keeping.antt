-- What a search does to the clauses.
use Rattle.std.specs.Prelude.{◌≡◌}
use Rattle.cdcl_log.specs.Logged.{Logged, is_wanted}

-- the variables and the clauses that were added stay, whatever is learned and forgotten, and so does whether a log is wanted
-- and what room it has, and the lines on which closings rest
pub record Keeps (old new : Logged) : Type 0 where
  pub same_vars : new.vars ≡ old.vars
  pub same_clauses : new.clauses ≡ old.clauses
  pub same_wanted : is_wanted new.log ≡ is_wanted old.log
  pub same_room : new.room ≡ old.room
  pub same_shared : new.shared ≡ old.shared

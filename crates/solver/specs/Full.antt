-- The witness that all ids of clauses are taken.
use Rattle.solver.specs.declared.full.Full.{Full}

-- all witnesses are this one value
abbrev pub full : Full
full = record { all_taken = tt }

-- The witness that memory was refused.
use Rattle.base.specs.declared.refused.Refused.{Refused}

-- all witnesses are this one value
abbrev pub witness : Refused
witness = record { made_here = tt }

-- The names of files with evidence.
use Rattle.std.specs.Prelude.{ℕ, List, ◌++◌, codes}
use Rattle.graph.specs.declared.circuit.Property.{Property}
use Rattle.graph.specs.Circuits.{property_text}
use Rattle.properties.specs.declared.naming.Evidence.{Evidence}
use Rattle.properties.specs.declared.naming.Evidence.TheVariants.{Certificate, Stimulus}

-- how the name of a file with this evidence ends
abbrev pub ending_of : Evidence → List ℕ
ending_of Certificate = codes ".cert"
ending_of Stimulus = codes ".stim"

-- the file of a folder that is named as the property
abbrev pub evidence_path : List ℕ → Property → Evidence → List ℕ
evidence_path folder p e = folder ++ (codes "/" ++ (property_text p ++ ending_of e))

-- What is judged of evidence of either kind.
use Rattle.std.specs.Prelude.{ℕ, List, Option}
use Rattle.graph.specs.declared.circuit.Property.{Property}
use Rattle.properties.specs.declared.naming.Evidence.{Evidence}
use Rattle.properties.specs.declared.naming.Evidence.TheVariants.{Certificate, Stimulus}
use Rattle.checker.specs.declared.line.Question.{Question}
use Rattle.checker.specs.declared.line.Question.TheVariants.{Safe, Run}
use Rattle.checker.specs.Readers.{IsRefusalOf, IsRunRefusalOf}
use Rattle.checker.specs.Replayed.{Confirms}
use Rattle.checker.specs.Verdicts.{Accepts}

-- the question that such evidence answers
abbrev pub question_of : Evidence → Question
question_of Certificate = Safe
question_of Stimulus = Run

-- such evidence is accepted, for this property of the circuit
abbrev pub IsAccepted : Evidence → List ℕ → List ℕ → Property → Type 0
IsAccepted Certificate = Accepts
IsAccepted Stimulus = Confirms

-- why such evidence is not accepted, for the property that is wanted, where one is
abbrev pub IsNo : Evidence → Option Property → List ℕ → List ℕ → ℕ → Type 0
IsNo Certificate = IsRefusalOf
IsNo Stimulus = IsRunRefusalOf

-- The order of a circuit's properties.
use Rattle.std.specs.Prelude.{ℕ, ◌<◌}
use Rattle.graph.specs.declared.circuit.Property.{Property}
use Rattle.graph.specs.declared.circuit.Property.TheVariants.{Bad, Justice, Output}
use Rattle.properties.specs.declared.listing.Kind.{Kind}
use Rattle.properties.specs.declared.listing.Kind.TheVariants as kind

abbrev pub property_at : Kind → ℕ → Property
property_at kind.Bad n = Bad n
property_at kind.Justice n = Justice n
property_at kind.Output n = Output n

-- bad literals come before justice properties and these before outputs, and those of a kind by their positions
abbrev pub ComesBefore : Property → Property → Type 0
ComesBefore (Bad m) (Bad n) = m < n
ComesBefore (Bad m) (Justice n) = Unit {0}
ComesBefore (Bad m) (Output n) = Unit {0}
ComesBefore (Justice m) (Bad n) = ⊥
ComesBefore (Justice m) (Justice n) = m < n
ComesBefore (Justice m) (Output n) = Unit {0}
ComesBefore (Output m) (Bad n) = ⊥
ComesBefore (Output m) (Justice n) = ⊥
ComesBefore (Output m) (Output n) = m < n

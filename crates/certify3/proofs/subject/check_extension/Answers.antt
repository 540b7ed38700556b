use Rattle.std.proofs.Common.{sym, subst}
use Rattle.std.proofs.lemmas.Bool.{true≢false}
use Rattle.graph.specs.declared.parts.Parts.{Parts}
use Rattle.extension.specs.Extended.{IsExtension}
use Rattle.certify3.proofs.subject.check_extension.Goals as goal

pub returns-then-not-is_extension : goal.returns-then-not-is_extension
returns-then-not-is_extension c = λ grown. true≢false (sym (c.if-not-is_extension.ensures.1 (subst (λ (m : Parts). IsExtension m c.args.extension.latches.now c.args.extension.gates.now) (sym c.parts.ensures.parts) grown.extends)))

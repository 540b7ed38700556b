use Rattle.std.proofs.Common.{◌≡◌, ℕ, ◌+◌, [], List, length, ◌∙◌, sym, ap, ap₂, subst, arith}
use Rattle.graph.specs.declared.circuit.Latch.{Latch}
use Rattle.graph.specs.declared.circuit.Lit.{Lit}
use Rattle.graph.specs.declared.parts.Parts.{Parts}
use Rattle.graph.specs.WellFormed.{IsWellFormed, only_bad}
use Rattle.extension.specs.Extended.{extended, IsExtension, FittingLaw, CarriedLaw, RestrictedLaw}
use Rattle.cover_circuits.specs.Covering.{IsBadBehind, ShowsRun, behind, step_latches, step_literal}
use Rattle.cover_circuits.proofs.Steps.{length-steps, steps_extend, behind_well_formed, bad_behind, shows_run}
use Rattle.cover_circuits.proofs.covering.behind.Goals as goal

pub extension_laws-requires : goal.extension_laws-requires
extension_laws-requires c =
    let m : Parts = c.args.circuit.now in
    let latches : c.deref.result.now ≡ step_latches (m.max_var + 1) c.args.steps = c.deref.ensures.value ∙ rw c.max_var-first.ensures at c.in_ok-latches.ensures in
    subst (λ (ls : List Latch). IsExtension m ls []) (sym latches) (steps_extend m c.args.steps)

pub extended_parts-requires : goal.extended_parts-requires
extended_parts-requires c =
    let m : Parts = c.args.circuit.now in
    let latches : c.deref-2.result.now ≡ step_latches (m.max_var + 1) c.args.steps = c.deref-2.ensures.value ∙ rw c.max_var-first.ensures at c.in_ok-latches.ensures in
    let long : length c.deref-2.result.now ≡ c.args.steps = ap length latches ∙ length-steps (m.max_var + 1) c.args.steps in
    let within = c.requires in
    rw c.parts.ensures.parts (omega (arith, long, within))

pub watching-requires : goal.watching-requires
watching-requires c =
    let m : Parts = c.args.circuit.now in
    let n : ℕ = c.args.steps in
    let first : c.deref.result.now ≡ step_latches (m.max_var + 1) n = c.deref.ensures.value ∙ rw c.max_var-first.ensures at c.in_ok-latches.ensures in
    let second : c.deref-2.result.now ≡ step_latches (m.max_var + 1) n = c.deref-2.ensures.value ∙ rw c.max_var-first.ensures at c.in_ok-latches.ensures in
    let parts : c.in_ok-parts.parts ≡ extended m (step_latches (m.max_var + 1) n) [] = c.in_ok-parts.ensures ∙ ap₂ (λ (p : Parts) (ls : List Latch). extended p ls []) c.parts.ensures.parts second in
    let literal : c.step_literal.result ≡ step_literal (m.max_var + 1) n = rw c.max_var-first.ensures at c.step_literal.ensures in
    let fitting : FittingLaw m (step_latches (m.max_var + 1) n) [] = subst (λ (ls : List Latch). FittingLaw m ls []) first c.extension_laws.ensures.fitting in
    subst IsWellFormed (sym (ap₂ (λ (p : Parts) (a : Lit). only_bad p a) parts literal)) (behind_well_formed m n fitting c.requires)

pub returns-clause-exact : goal.returns-clause-exact
returns-clause-exact c =
    let m : Parts = c.args.circuit.now in
    let n : ℕ = c.args.steps in
    let first : c.deref.result.now ≡ step_latches (m.max_var + 1) n = c.deref.ensures.value ∙ rw c.max_var-first.ensures at c.in_ok-latches.ensures in
    let second : c.deref-2.result.now ≡ step_latches (m.max_var + 1) n = c.deref-2.ensures.value ∙ rw c.max_var-first.ensures at c.in_ok-latches.ensures in
    let parts : c.in_ok-parts.parts ≡ extended m (step_latches (m.max_var + 1) n) [] = c.in_ok-parts.ensures ∙ ap₂ (λ (p : Parts) (ls : List Latch). extended p ls []) c.parts.ensures.parts second in
    let literal : c.step_literal.result ≡ step_literal (m.max_var + 1) n = rw c.max_var-first.ensures at c.step_literal.ensures in
    let made : c.in_ok-covered.covered ≡ behind m n = c.in_ok-covered.ensures ∙ ap₂ (λ (p : Parts) (a : Lit). only_bad p a) parts literal in
    let carried : CarriedLaw m (step_latches (m.max_var + 1) n) [] = subst (λ (ls : List Latch). CarriedLaw m ls []) first c.extension_laws.ensures.carried in
    let restricted : RestrictedLaw m (step_latches (m.max_var + 1) n) [] = subst (λ (ls : List Latch). RestrictedLaw m ls []) first c.extension_laws.ensures.restricted in
    subst (λ (p : Parts). IsBadBehind m p n) (sym made) (bad_behind m n carried restricted)

pub returns-clause-shows : goal.returns-clause-shows
returns-clause-shows c =
    let m : Parts = c.args.circuit.now in
    let n : ℕ = c.args.steps in
    let first : c.deref.result.now ≡ step_latches (m.max_var + 1) n = c.deref.ensures.value ∙ rw c.max_var-first.ensures at c.in_ok-latches.ensures in
    let second : c.deref-2.result.now ≡ step_latches (m.max_var + 1) n = c.deref-2.ensures.value ∙ rw c.max_var-first.ensures at c.in_ok-latches.ensures in
    let parts : c.in_ok-parts.parts ≡ extended m (step_latches (m.max_var + 1) n) [] = c.in_ok-parts.ensures ∙ ap₂ (λ (p : Parts) (ls : List Latch). extended p ls []) c.parts.ensures.parts second in
    let literal : c.step_literal.result ≡ step_literal (m.max_var + 1) n = rw c.max_var-first.ensures at c.step_literal.ensures in
    let made : c.in_ok-covered.covered ≡ behind m n = c.in_ok-covered.ensures ∙ ap₂ (λ (p : Parts) (a : Lit). only_bad p a) parts literal in
    let carried : CarriedLaw m (step_latches (m.max_var + 1) n) [] = subst (λ (ls : List Latch). CarriedLaw m ls []) first c.extension_laws.ensures.carried in
    let restricted : RestrictedLaw m (step_latches (m.max_var + 1) n) [] = subst (λ (ls : List Latch). RestrictedLaw m ls []) first c.extension_laws.ensures.restricted in
    subst (λ (p : Parts). ShowsRun m p n) (sym made) (shows_run m n c.well_formed-2.ensures (bad_behind m n carried restricted))

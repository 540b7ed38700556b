-- Clauses that are inductive from a frame.
use Rattle.std.proofs.Common.{◌≡◌, ℕ, Bool, true, false, List, Option, Some, None, IfSome, get_or, Contains, subst, refl, ◌∙◌}
use Rattle.std.specs.Option.{unwrap_or, is_some}
use Rattle.std.proofs.lemmas.Bool.{false≢true}
use Rattle.std.proofs.lemmas.List.{get_or-map}
use Rattle.base.specs.Budget.{Steps}
use Rattle.graph.specs.declared.circuit.Latch.{Latch}
use Rattle.graph.specs.declared.parts.Parts.{Parts}
use Rattle.graph.specs.Circuits.{Valuation, value_of, state_of, IsReset}
use Rattle.states.specs.declared.state_lit.StateLit.{StateLit}
use Rattle.ic3_step.specs.declared.step.Consecution.TheVariants.{Held}
use Rattle.states.specs.States.{IsPartOf, latch_at}
use Rattle.states.proofs.Defaults.{no_latch}
use Rattle.ic3_frames.specs.declared.frames.Entry.{Entry}
use Rattle.ic3_frames.specs.Clauses.{IsResetLit}
use Rattle.ic3_frames.specs.Frames.{IsStateClause, HoldsInitially, HoldsToward, HoldsOnward}
use Rattle.ic3_blocking.specs.Answers.{IsPicked, IsInductiveFrom, IsRelative}
use Rattle.ic3_blocking.proofs.Literals.{picked_part, picked_clause}

-- a reset literal of the part, or the clause's own
pub reset_of : (latches : List Latch) (part clause : List StateLit) (o : Option StateLit) (first : StateLit) → IfSome o (λ a. Contains part a × IsResetLit latches a) → IsPartOf part clause →
    Contains clause first → IsResetLit latches first → Contains clause (unwrap_or o first) × IsResetLit latches (unwrap_or o first)
reset_of latches part clause (Some a) first found inside among reset = (inside a found.0, found.1)
reset_of latches part clause None first found inside among reset = (among, reset)

reset_value : (w : Valuation) (l : Latch) (b : Bool) → IsReset w l → (b ≡ false → l.reset.0 ≡ 0) → (b ≡ true → l.reset.0 ≡ 1) → value_of w l.lit ≡ b
reset_value w l true law low high = law.high (high refl)
reset_value w l false law low high = law.low (low refl)

-- a clause with a reset literal holds at first
pub holds_at_first : (m : Parts) (a : StateLit) (c : List StateLit) → IsResetLit m.latches a → Contains c a → HoldsInitially m c
holds_at_first m a c reset among w first =
    let inside = reset.inside in
    let l : Latch = get_or m.latches a.latch no_latch in
    let law : IsReset w l = first a.latch no_latch inside in
    let at : latch_at (state_of m w) a.latch ≡ value_of w l.lit = get_or-map (λ (x : Latch). value_of w x.lit) m.latches a.latch no_latch false inside in
    (a, among, at ∙ reset_value w l a.value law (reset.low no_latch) (reset.high no_latch))

-- a clause between the part that holds after and the clause that held before is onward
pub between : (m : Parts) (es : List Entry) (k : ℕ) (part d c : List StateLit) → HoldsToward m es k c part → IsPartOf part d → IsPartOf d c → HoldsOnward m es k d
between m es k part d c toward wide narrow w time inside holds =
    let h = toward w time inside (holds.0, narrow holds.0 holds.1, holds.2) in
    (h.0, wide h.0 h.1, h.2)

-- what is kept of a clause is inductive
pub kept_inductive : (m : Parts) (es : List Entry) (k : ℕ) (part kept clause : List StateLit) (a : StateLit) (after : Steps) → IsStateClause m clause →
    IsRelative m es k clause after (Held part) → IsPicked kept clause → IsPartOf part kept → Contains kept a → IsResetLit m.latches a → IsInductiveFrom m es k kept
kept_inductive m es k part kept clause a after is law picked wide among reset = record {
  clause = picked_clause m kept clause picked is;
  initial = holds_at_first m a kept reset among;
  onward = between m es k part kept clause law.1 wide (picked_part kept clause picked);
}

-- the clause itself, where a part of it holds after
pub onward_by : (m : Parts) (es : List Entry) (k : ℕ) (part clause : List StateLit) (after : Steps) → IsRelative m es k clause after (Held part) → HoldsOnward m es k clause
onward_by m es k part clause after law = between m es k part clause clause law.1 law.0 (λ a found. found)

-- a clause in which a reset literal was found holds at first
pub first_by : (m : Parts) (c : List StateLit) (latches : List Latch) (lits : List StateLit) (o : Option StateLit) → latches ≡ m.latches → lits ≡ c →
    IfSome o (λ a. Contains lits a × IsResetLit latches a) → is_some o ≡ true → HoldsInitially m c
first_by m c latches lits (Some a) all are found some =
    holds_at_first m a c (subst (λ (ls : List Latch). IsResetLit ls a) all found.1) (subst (λ (xs : List StateLit). Contains xs a) are found.0)
first_by m c latches lits None all are found some = absurd (false≢true some)

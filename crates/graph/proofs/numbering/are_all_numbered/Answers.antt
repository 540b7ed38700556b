use Rattle.std.proofs.Common.{map, ◌++◌, refl, sym, ◌∙◌}
use Rattle.std.proofs.lemmas.List.{length-map}
use Rattle.graph.proofs.Numbered.{IsNumbered-left, IsNumbered-second, IsNumbered-third, IsNumbered-all}
use Rattle.graph.proofs.numbering.are_all_numbered.Goals as goal

pub returns-then-not-are_inputs_numbered : goal.returns-then-not-are_inputs_numbered
returns-then-not-are_inputs_numbered c =
    let m = c.args.parts.now in
    let test = rw c.as_slice.ensures at c.if-not-are_inputs_numbered.ensures in (
      λ t. absurd (let bad : ⊥ = cc t in bad),
      λ h. test.1 (IsNumbered-left 1 m.inputs _ (IsNumbered-left 1 (m.inputs ++ map (λ l. l.lit) m.latches) (map (λ g. g.lhs) m.gates) h)),
    )

pub returns-then-not-are_latches_numbered : goal.returns-then-not-are_latches_numbered
returns-then-not-are_latches_numbered c =
    let m = c.args.parts.now in
    let test = rw c.as_slice-2.ensures at c.if-not-are_latches_numbered.ensures in (
      λ t. absurd (let bad : ⊥ = cc t in bad),
      λ h. test.1 (IsNumbered-second m.inputs (map (λ l. l.lit) m.latches) (map (λ g. g.lhs) m.gates) _ c.len-inputs.ensures h),
    )

pub returns : goal.returns
returns c =
    let m = c.args.parts.now in
    let inputs = (rw c.as_slice.ensures at c.if-not-are_inputs_numbered.ensures).0 refl in
    let latches = (rw c.as_slice-2.ensures at c.if-not-are_latches_numbered.ensures).0 refl in
    let test = rw c.as_slice-3.ensures at c.are_gates_numbered.ensures in (
      λ t. IsNumbered-all m.inputs (map (λ l. l.lit) m.latches) (map (λ g. g.lhs) m.gates) _ _ c.len-inputs.ensures (c.len-latches.ensures ∙ sym (length-map m.latches (λ l. l.lit))) inputs latches (test.0 t),
      λ h. test.1 (IsNumbered-third m.inputs (map (λ l. l.lit) m.latches) (map (λ g. g.lhs) m.gates) _ _ c.len-inputs.ensures (c.len-latches.ensures ∙ sym (length-map m.latches (λ l. l.lit))) h),
    )

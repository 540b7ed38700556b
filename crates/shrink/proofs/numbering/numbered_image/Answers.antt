use Rattle.std.proofs.Common.{rules, ◌≡◌, ◌∙◌, ◌+◌, ◌*◌, ◌<◌, ◌≤◌, ℕ, List, All, length, drop, get_or, map, Contains, inl, inr, sym, ap, arith}
use Rattle.std.proofs.lemmas.List.{get_or-map, get_or-replicate, length-map}
use Rattle.graph.specs.declared.circuit.Lit.{Lit}
use Rattle.graph.specs.Circuits.{variable}
use Rattle.graph.proofs.Tabled.{take_whole}
use Rattle.shrink.specs.Hashed.{image_of}
use Rattle.shrink.proofs.numbering.numbered_image.Goals as goal

-- no base is the constant
not_base : (bases : List Lit) (max : ℕ) → All (λ a. (2 ≤ a.0) × (a.0 ≤ 2 * max + 1)) bases → Contains (map variable bases) 0 → ⊥
not_base bases max range (k, k_in, at) =
    let short : k < length bases = omega (arith, length-map bases variable) in
    let big = range k (record { 0 = 0 }) short in
    let is : variable (get_or bases k (record { 0 = 0 })) ≡ 0 = sym (get_or-map variable bases k (record { 0 = 0 }) 0 short) ∙ at in
    omega (arith, big.0, is)

pub returns-clause-numbered : goal.returns-clause-numbered
returns-clause-numbered c =
    let kept : length c.number.new.image ≡ c.in_ok-image.image.len = search rules in
    let blank : Lit = record { 0 = 0 } in
    let begin : image_of c.as_mut_slice.result.now 0 ≡ blank =
    ap (λ xs. image_of xs 0) (c.as_mut_slice.ensures.value ∙ c.in_ok-image.ensures) ∙ get_or-replicate (c.args.parts.now.max_var + 1) 0 blank blank (omega arith) in
    rw (take_whole c.in_ok-image.image.len c.number.new.image (drop (length c.number.new.image) c.in_ok-image.image.items) kept) (record {
      constant = elim (c.number.ensures.kept 0) [
        | inl found ↦ absurd (not_base c.args.bases.now c.args.parts.now.max_var c.requires.in_range found)
        | inr same ↦ same ∙ begin
      ];
      each = c.number.ensures.numbered;
    })

use Rattle.std.proofs.Common.{rules, ◌≡◌, ◌<◌, ◌+◌, ◌∙◌, length, ap, sym, subst, arith}
use Rattle.wave_signals.proofs.NameLaws.{NamesSoFar, name_whole, names_given, names_kept}
use Rattle.wave_signals.proofs.bits.names_of.Goals.{then-eq, else-eq}
use Rattle.wave_signals.proofs.bits.names_of.Goals as goal

pub loop-symbol-preserved : goal.loop-symbol-preserved
loop-symbol-preserved c =
    let symbols = c.args.symbols.now in
    let kind = c.args.kind in
    let count = length c.args.lits.now in
    let i = c.loop-symbol.symbol-index in
    let e = c.symbol-item.result in
    let is = c.symbol-item.is in
    let i_in : i < length symbols = c.loop-symbol-test.true in
    elim c.if-eq.branch [
      | then-eq w ↦ let same : e.kind ≡ kind = search rules in
          let is_kind = ap (λ s. s.kind) (sym is) ∙ same in
          let is_name = ap (λ s. s.name) (sym is) ∙ sym w.as_slice.ensures in
          subst (λ v. NamesSoFar symbols (i + 1) kind count v.items) (sym w.names-is)
          (names_given symbols i e kind count c.loop-symbol.names.items w.as_slice.result e.position i_in is_kind (ap (λ s. s.position) (sym is)) (subst (λ s. s.position < count) (sym is) (c.requires.inside i e i_in is_kind)) is_name
          (subst (λ n. 0 < length n) is_name (c.requires.named i e i_in)) c.loop-symbol.invariant)
      | else-eq w ↦ let other : e.kind ≡ kind → ⊥ = λ same. search rules in
          subst (λ v. NamesSoFar symbols (i + 1) kind count v.items) (sym w.names-is)
          (names_kept symbols i e kind count c.loop-symbol.names.items i_in (λ k. other (ap (λ s. s.kind) is ∙ k)) c.loop-symbol.invariant)
    ]

pub returns-clause-names : goal.returns-clause-names
returns-clause-names c k k_in d = name_whole c.args.symbols.now c.args.kind k c.loop-symbol.symbol-index _ (omega arith) (c.loop-symbol.invariant.each k d k_in)

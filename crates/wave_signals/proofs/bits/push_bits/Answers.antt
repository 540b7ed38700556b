use Rattle.std.proofs.Common.{rules, ◌≡◌, get_or, refl, subst, sym, arith}
use Rattle.wave_signals.specs.Bits.{IsNameOf}
use Rattle.wave_signals.proofs.BitLaws.{bits_all, bits_more}
use Rattle.wave_signals.proofs.bits.push_bits.Goals as goal

pub loop-k-preserved : goal.loop-k-preserved
loop-k-preserved c =
    let k = c.loop-k.k in
    let name = c.index-name.result.now in
    let is_name : name ≡ get_or c.in_ok-names.names.items k name = search rules in
    let named = subst (λ b. IsNameOf c.args.symbols.now c.args.kind k b.now) (sym is_name) (c.in_ok-names.ensures.names k (omega arith) name) in
    bits_more c.args.symbols.now c.args.kind c.args.lits.now c.loop-k.k (record { 0 = 0 }) _ c.args.bits.now.items c.loop-k.bits.items c.push.new.to.items (omega arith) c.in_ok-push.ensures.items
    (record { kind_is = refl; position_is = refl; lit_is = refl; named = named; split = c.split_name-index.ensures }) c.loop-k.invariant

pub returns : goal.returns
returns c = (c.loop-k.invariant.row, c.loop-k.invariant.behind, bits_all c.args.symbols.now c.args.kind c.args.lits.now c.loop-k.k _ _ (omega arith) c.loop-k.invariant)

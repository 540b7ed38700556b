use Rattle.std.proofs.Common.{◌≡◌, ◌+◌, ◌<◌, ◌∙◌, List, length, ap, subst, sym, arith}
use Rattle.graph.specs.declared.circuit.Lit.{Lit}
use Rattle.live_safe.specs.Shadow.{chain_end}
use Rattle.extension.specs.Rounds.{always, met_literals}
use Rattle.extension.proofs.Counters.{end_small, length-mets}
use Rattle.extension.proofs.counter.push_joined.Goals as goal

pub push_chain-requires : goal.push_chain-requires
push_chain-requires c =
    let same = ap length (c.deref.ensures.value ∙ c.in_ok-mets.ensures) in
    let long = length-mets c.args.wanted.now c.args.n.missing in
    let join = c.requires.spaced.join in
    let opened = c.requires.spaced.opened in
    let stage = c.requires.spaced.stage in
    record { fits = omega (arith, same, long, join, opened, stage) }

pub returns-clause-small : goal.returns-clause-small
returns-clause-small c =
    let mets = met_literals c.args.wanted.now c.args.n.missing in
    let long = length-mets c.args.wanted.now c.args.n.missing in
    let join = c.requires.spaced.join in
    let opened = c.requires.spaced.opened in
    let stage = c.requires.spaced.stage in
    let e : c.in_ok-ends.ends ≡ chain_end mets always c.args.n.join = c.in_ok-ends.ensures.end ∙ ap (λ (q : List Lit). chain_end q always c.args.n.join) (c.deref.ensures.value ∙ c.in_ok-mets.ensures) in
    subst (λ (a : Lit). a.0 + 1 < 4294967296) (sym e) (end_small mets always c.args.n.join (omega arith) (omega (arith, long, join, opened, stage)))

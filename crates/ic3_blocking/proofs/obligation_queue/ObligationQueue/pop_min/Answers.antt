use Rattle.std.proofs.Common.{◌≡◌, ◌<◌, ◌∙◌, ℕ, [], Vec, Global, All, length, sym, subst, arith}
use Rattle.std.proofs.lemmas.List.{append-nil, length-set, nil_from_length}
use Rattle.std.proofs.lemmas.List.Elements.{All-set}
use Rattle.ic3_blocking.specs.Queue.{queued_in}
use Rattle.ic3_blocking.proofs.Queued.{last_popped, none_popped, lowest_more, same_items, below_popped}
use Rattle.ic3_blocking.proofs.obligation_queue.ObligationQueue.pop_min.Goals as goal

pub returns-in-Some-clause-popped : goal.returns-in-Some-clause-popped
returns-in-Some-clause-popped c =
    let h = c.looking.invariant in
    let frames = c.looking.self.frames.items in
    let long = c.len-level-end.ensures in
    let inside : c.looking.level < length frames = omega (arith, c.looking-test.true, long, h.frames) in
    last_popped (queued_in c.args.self.now) frames c.looking.level c.in-Some.index c.index_mut.result.now c.pop.new.self h.same inside c.index_mut.ensures.value c.in-Some.ensures.items h.lowest

pub returns-in-Some-clause-queued : goal.returns-in-Some-clause-queued
returns-in-Some-clause-queued c = λ count first.
    let h = c.looking.invariant in
    let frames = c.looking.self.frames.items in
    let long = c.len-level-end.ensures in
    let inside : c.looking.level < length frames = omega (arith, c.looking-test.true, long, h.frames) in
    (below_popped count frames c.looking.level c.in-Some.index c.index_mut.result.now c.pop.new.self inside c.index_mut.ensures.value c.in-Some.ensures.items (h.queued count first)).0

pub returns-in-Some-clause-index : goal.returns-in-Some-clause-index
returns-in-Some-clause-index c = λ count first.
    let h = c.looking.invariant in
    let frames = c.looking.self.frames.items in
    let long = c.len-level-end.ensures in
    let inside : c.looking.level < length frames = omega (arith, c.looking-test.true, long, h.frames) in
    (below_popped count frames c.looking.level c.in-Some.index c.index_mut.result.now c.pop.new.self inside c.index_mut.ensures.value c.in-Some.ensures.items (h.queued count first)).1

pub looking-preserved : goal.looking-preserved
looking-preserved c =
    let h = c.looking.invariant in
    let frames = c.looking.self.frames.items in
    let old : Vec ℕ Global = c.index_mut.result.now in
    let new : Vec ℕ Global = c.pop.new.self in
    let at = c.index_mut.ensures.value in
    let is : new.items ≡ old.items = sym (append-nil new.items) ∙ sym c.in_default.ensures.items in
    let long = c.len-level-end.ensures in
    let inside : c.looking.level < length frames = omega (arith, c.looking-test.true, long, h.frames) in
    let empty : old.items ≡ [] = nil_from_length old.items (sym old.ok.0 ∙ c.in_default.ensures.cases.0) in
    record {
      frames = length-set frames c.looking.level new ∙ h.frames;
      queued = λ count first.
          let Below : Vec ℕ Global → Type 0 = λ frame. All (λ i. i < count) frame.items in
          let each = h.queued count first in
          let here : Below old = subst Below (sym at) (each c.looking.level old inside) in
          All-set Below frames c.looking.level new (subst (All (λ i. i < count)) (sym is) here) each;
      same = same_items frames c.looking.level old new at is ∙ h.same;
      lowest = lowest_more (queued_in c.args.self.now) frames c.looking.level old h.same inside at empty h.lowest;
    }

pub returns-clause-popped : goal.returns-clause-popped
returns-clause-popped c =
    let h = c.looking.invariant in
    let long = c.len-level-end.ensures in
    none_popped (queued_in c.args.self.now) c.looking.self.frames.items c.looking.level h.same (omega (arith, c.looking-test.false, long, h.frames)) h.lowest

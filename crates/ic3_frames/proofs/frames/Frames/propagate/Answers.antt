use Rattle.std.proofs.Common.{◌≡◌, ◌+◌, ◌<◌, arith, refl, List, length, get_or, take, All, Contains, ap, subst, sym, ◌∙◌}
use Rattle.std.proofs.lemmas.List.{get_or_default, get_or-set_same, length-set, take-set}
use Rattle.states.specs.declared.state_lit.StateLit.{StateLit}
use Rattle.ic3_frames.proofs.Laws.{next_level, raised_to, raised_added, within_added}
use Rattle.ic3_frames.proofs.Signed.{signed_raised}
use Rattle.ic3_frames.specs.declared.frames.Entry.{Entry}
use Rattle.ic3_frames.specs.Frames.{IsAdded}
use Rattle.ic3_frames.specs.Signatures.{IsSignature}
use Rattle.ic3_frames.proofs.frames.Frames.propagate.Goals as goal

pub remove_subsumed-requires-clause-signatures : goal.remove_subsumed-requires-clause-signatures
remove_subsumed-requires-clause-signatures c =
    let items = c.self.inside.entries.items in
    let e : Entry = c.index_mut.result.now in
    let i_in : c.args.place < length items = subst (λ es. c.args.place < length es) (sym (ap (λ f. f.entries) c.self.view_is)) c.requires.place in
    signed_raised items c.self.inside.signatures.items c.args.place (e.level + 1) e i_in c.index_mut.ensures.value c.self.invariant

pub remove_subsumed-requires-clause-clause : goal.remove_subsumed-requires-clause-clause
remove_subsumed-requires-clause-clause c =
    let items = c.self.inside.entries.items in
    let words = c.self.inside.signatures.items in
    let i = c.args.place in
    let i_in : i < length items = subst (λ es. i < length es) (sym (ap (λ f. f.entries) c.self.view_is)) c.requires.place in
    let first : Entry = c.index.result.now in
    let word = c.index-signature.result.now in
    let long = c.self.invariant.long in
    let clause_is : (get_or items i first).clause ≡ c.as_slice.result.now = sym (c.as_slice.ensures ∙ c.in_ok-clause.ensures ∙ ap (λ (y : Entry). y.clause) c.index.ensures) in
    let word_is : get_or words i 0 ≡ word = get_or_default words i 0 word (omega (arith, i_in, long)) ∙ sym c.index-signature.ensures in
    subst (IsSignature c.as_slice.result.now) word_is (subst (λ (cl : List StateLit). IsSignature cl (get_or words i 0)) clause_is (c.self.invariant.each i first i_in))

is_added : (c : goal.After-drop-clause-inside) (d : Entry) → IsAdded c.args.self.now.entries c.remove_subsumed.new.entries.items (next_level c.args.self.now.entries c.args.place d)
is_added c d =
    let items = c.self.inside.entries.items in
    let now = c.args.self.now.entries in
    let i = c.args.place in
    let fs = c.remove_subsumed.new.entries.items in
    let same = ap (λ f. f.entries) c.self.view_is in
    let i_in : i < length items = subst (λ es. i < length es) (sym same) c.requires.place in
    let x : Entry = c.index_mut.result.now in
    let e : Entry = record { clause = x.clause; level = x.level + 1 } in
    let there : get_or items i e ≡ x = get_or_default items i e x i_in ∙ sym c.index_mut.ensures.value in
    let first : Entry = c.index.result.now in
    let clause_is : c.as_slice.result.now ≡ e.clause = c.as_slice.ensures ∙ c.in_ok-clause.ensures ∙ ap (λ (y : Entry). y.clause) (c.index.ensures ∙ get_or_default items i first e i_in ∙ there) in
    let last : Entry = c.index-2.result.now in
    let level_is : last.level ≡ e.level = ap (λ (y : Entry). y.level) (c.index-2.ensures ∙ get_or-set_same items i e last i_in) in
    let is : e ≡ next_level now i d = ap (λ (y : Entry). let z : Entry = record { clause = y.clause; level = y.level + 1 } in z) (sym there ∙ get_or_default items i e d i_in ∙ ap (λ es. get_or es i d) same) in
    let place = c.remove_subsumed.ensures.place i e refl (subst (λ n. i < n) (sym (length-set items i e)) i_in) in
    let added : IsAdded items fs e = raised_added items fs i c.remove_subsumed.result e c.as_slice.result.now last.level i_in (ap (λ (y : Entry). y.clause) there)
    (let level : (get_or items i e).level ≡ x.level = ap (λ (y : Entry). y.level) there in omega (arith, level)) clause_is level_is c.remove_subsumed.ensures.only c.remove_subsumed.ensures.each
    c.remove_subsumed.ensures.lean place.0 place.1 in
    subst (λ y. IsAdded now fs y) is (subst (λ es. IsAdded es fs e) same added)

pub returns-clause-within : goal.returns-clause-within
returns-clause-within c = within_added c.args.self.now.entries c.remove_subsumed.new.entries.items (next_level c.args.self.now.entries c.args.place c.index.result.now) (is_added c c.index.result.now)

pub returns-clause-laws : goal.returns-clause-laws
returns-clause-laws c = λ m bad k d frames at after. raised_to m bad c.args.self.now _ k c.args.place d c.requires.place (is_added c d) (ap (λ f. f.top) c.self.view_is) (ap (λ f. f.failed) c.self.view_is) frames at after

pub returns-clause-only : goal.returns-clause-only
returns-clause-only c = λ d. (is_added c d).only

pub returns-clause-lean : goal.returns-clause-lean
returns-clause-lean c = λ d. (is_added c d).lean

pub returns-clause-front : goal.returns-clause-front
returns-clause-front c =
    let items = c.self.inside.entries.items in
    let i = c.args.place in
    let i_in : i < length items = subst (λ es. i < length es) (sym (ap (λ f. f.entries) c.self.view_is)) c.requires.place in
    let x : Entry = c.index_mut.result.now in
    let e : Entry = record { clause = x.clause; level = x.level + 1 } in
    c.remove_subsumed.ensures.front i refl (subst (λ n. i < n) (sym (length-set items i e)) i_in)

pub returns-clause-order : goal.returns-clause-order
returns-clause-order c =
    let items = c.self.inside.entries.items in
    let i = c.args.place in
    let same = ap (λ f. f.entries) c.self.view_is in
    let i_in : i < length items = subst (λ es. i < length es) (sym same) c.requires.place in
    let x : Entry = c.index_mut.result.now in
    let e : Entry = record { clause = x.clause; level = x.level + 1 } in
    let front : List Entry = take c.remove_subsumed.result c.remove_subsumed.new.entries.items in
    let before = c.remove_subsumed.ensures.before i refl (subst (λ n. i < n) (sym (length-set items i e)) i_in) in
    subst (λ es. All (Contains (take i es)) front) same (subst (λ xs. All (Contains xs) front) (take-set items i e) before)

pub returns-clause-place : goal.returns-clause-place
returns-clause-place c = λ d.
    let items = c.self.inside.entries.items in
    let i = c.args.place in
    let same = ap (λ f. f.entries) c.self.view_is in
    let i_in : i < length items = subst (λ es. i < length es) (sym same) c.requires.place in
    let x : Entry = c.index_mut.result.now in
    let e : Entry = record { clause = x.clause; level = x.level + 1 } in
    let place = c.remove_subsumed.ensures.place i d refl (subst (λ n. i < n) (sym (length-set items i e)) i_in) in (
      place.0,
      place.1 ∙ get_or-set_same items i e d i_in
          ∙ ap (λ (y : Entry). let z : Entry = record { clause = y.clause; level = y.level + 1 } in z) (c.index_mut.ensures.value ∙ get_or_default items i x d i_in ∙ ap (λ es. get_or es i d) same),
    )

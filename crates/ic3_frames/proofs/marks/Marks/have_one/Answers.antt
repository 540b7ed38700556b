use Rattle.std.proofs.Common.{◌≡◌, ◌<◌, ◌≤◌, ◌∙◌, length, get_or, arith, inl, inr, All, sym, ap, subst}
use Rattle.std.proofs.lemmas.Bool.{cases_lt, false≢true}
use Rattle.std.proofs.lemmas.List.{get_or_default}
use Rattle.ic3_frames.specs.declared.frames.Entry.{Entry}
use Rattle.ic3_frames.specs.Marks.{IsMarked}
use Rattle.ic3_frames.specs.Signatures.{IsSignature}
use Rattle.ic3_frames.proofs.marks.Marks.have_one.Goals as goal

pub looking-preserved : goal.looking-preserved
looking-preserved c = λ clause marks of_clause k d k_in h. elim (cases_lt k c.looking.i) [
  | inl below ↦ c.looking.invariant clause marks of_clause k d below h
  | inr past ↦
      let entries = c.args.entries.now in
      let words = c.args.self.now.words.items in
      let i = c.looking.i in
      let x : Entry = c.index-entries-i.result in
      let here : k ≡ i = omega arith in
      let i_in : i < length entries = omega (arith, c.looking-test.true, c.requires.long) in
      let same : get_or entries k d ≡ x = ap (λ n. get_or entries n d) here ∙ get_or_default entries i d x i_in ∙ sym c.index-entries-i.is in
      let of_entry : IsSignature x.clause (get_or c.args.signatures.now i 0) = subst (λ (e : Entry). IsSignature e.clause (get_or c.args.signatures.now i 0)) (sym c.index-entries-i.is) (c.requires.each i x i_in) in
      false≢true (sym c.if-have_entry.false ∙ c.have_entry.ensures.complete clause marks of_clause of_entry (subst (λ (e : Entry). (c.args.level ≤ e.level) × All (IsMarked words) e.clause) same h))
]

pub returns-clause-complete : goal.returns-clause-complete
returns-clause-complete c = λ clause marks of_clause any.
    absurd (c.looking.invariant clause marks of_clause any.0 any.1 (omega (arith, any.2, c.looking-test.false, c.requires.long))
    (subst (λ (e : Entry). (c.args.level ≤ e.level) × All (IsMarked c.args.self.now.words.items) e.clause) (sym any.3) any.4))

use Rattle.std.proofs.Common.{◌≡◌, ◌<◌, ◌≤◌, ◌+◌, ◌∙◌, length, get_or, arith, All, sym, ap, subst}
use Rattle.std.proofs.lemmas.Bool.{false≢true}
use Rattle.ic3_frames.specs.declared.frames.Entry.{Entry}
use Rattle.ic3_frames.specs.Marks.{IsMarked}
use Rattle.ic3_frames.specs.Signatures.{IsSignature}
use Rattle.ic3_frames.proofs.Marking.{if_some_weaker, longest_more, longest_same, shorter_more, shorter_same}
use Rattle.ic3_frames.proofs.marks.Marks.longest.Goals as goal
use Rattle.ic3_frames.proofs.marks.Marks.longest.Goals.{then-have_ending, else-have_ending}

pub looking-preserved : goal.looking-preserved
looking-preserved c =
    let entries = c.args.entries.now in
    let i = c.looking.i in
    let x : Entry = c.index-entries-i.result in
    let P : Entry → Type 0 = λ e. (e.level ≡ c.args.level) × All (IsMarked c.args.self.now.words.items) e.clause in
    let i_in : i < length entries = omega (arith, c.looking-test.true, c.requires.long) in
    let of_entry : IsSignature x.clause (get_or c.args.signatures.now i 0) = subst (λ (e : Entry). IsSignature e.clause (get_or c.args.signatures.now i 0)) (sym c.index-entries-i.is) (c.requires.each i x i_in) in
    elim c.if-have_ending.branch [
      | then-have_ending w ↦
          let told = c.have_ending.ensures.sound w.if-have_ending.true in
          let size : c.if-have_ending.least ≡ length x.clause + 1 = w.least-is ∙ ap (λ xs. length xs + 1) w.as_slice.ensures in
          rw (w.longest-is, size) (record {
            longest = longest_more P entries i x i_in c.index-entries-i.is (told.0, told.2);
            shorter = λ clause marks of_clause. shorter_more P entries c.looking.least i x i_in c.index-entries-i.is told.1 (c.looking.invariant.shorter clause marks of_clause);
          })
      | else-have_ending w ↦
          rw (w.longest-is, w.least-is) (record {
            longest = longest_same P entries c.looking.longest c.looking.least i c.looking.invariant.longest;
            shorter = λ clause marks of_clause. shorter_same P entries c.looking.least i x i_in c.index-entries-i.is
                (λ long h. false≢true (sym w.if-have_ending.false ∙ c.have_ending.ensures.complete clause marks of_clause of_entry h.0 long h.1))
                (c.looking.invariant.shorter clause marks of_clause);
          })
    ]

pub returns-clause-part : goal.returns-clause-part
returns-clause-part c = λ d.
    let entries = c.args.entries.now in
    let P : Entry → Type 0 = λ e. (e.level ≡ c.args.level) × All (IsMarked c.args.self.now.words.items) e.clause in
    if_some_weaker (λ p. (p < c.looking.i) × P (get_or entries p d)) (λ p. (p < length entries) × ((get_or entries p d).level ≡ c.args.level) × All (IsMarked c.args.self.now.words.items) (get_or entries p d).clause)
    c.looking.longest (λ p h. let below : p < c.looking.i = h.0 in (omega (arith, below, c.looking.auto.i-end, c.requires.long), h.1.0, h.1.1)) (c.looking.invariant.longest.best d)

pub returns-clause-longest : goal.returns-clause-longest
returns-clause-longest c = λ clause d marks of_clause.
    let entries = c.args.entries.now in
    if_some_weaker (λ p. c.looking.least ≡ length (get_or entries p d).clause + 1)
    (λ p. All (λ (e : Entry). e.level ≡ c.args.level → All (IsMarked c.args.self.now.words.items) e.clause → length e.clause ≤ length (get_or entries p d).clause) entries) c.looking.longest
    (λ p size k x k_in at marked.
    let short = c.looking.invariant.shorter clause marks of_clause k x (omega (arith, k_in, c.looking-test.false, c.requires.long)) (at, marked) in
    omega (arith, size, short))
    (c.looking.invariant.longest.size d)

pub returns-clause-none : goal.returns-clause-none
returns-clause-none c = λ clause marks of_clause none k d k_in at marked.
    let short = c.looking.invariant.shorter clause marks of_clause k d (omega (arith, k_in, c.looking-test.false, c.requires.long)) (at, marked) in
    let zero = c.looking.invariant.longest.none none in
    absurd (omega (arith, short, zero))

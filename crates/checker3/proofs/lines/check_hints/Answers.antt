use Rattle.std.proofs.Common.{rules, ◌≡◌, ◌≢◌, ◌-◌, ◌+◌, ◌<◌, ◌++◌, ◌∷◌, [], ℕ, ℤ, List, All, Some, None, map, length, get_or, arith, ap, subst, sym, ◌∙◌}
use Rattle.std.proofs.lemmas.List.{length-map, length_push}
use Rattle.std.specs.FinMap as fin
use Rattle.base.specs.Witness.{witness}
use Rattle.scan.specs.Lists.{many_at}
use Rattle.lrat.specs.Courses.{Course}
use Rattle.lrat.specs.Lines.{IsAcceptedLine}
use Rattle.lrat.specs.Refusals.{IsRefusedLine}
use Rattle.lrat.specs.declared.fault.Fault.TheVariants.{OutOfMemory}
use Rattle.cnf.specs.Clauses.{literal}
use Rattle.cnf.specs.Formulas.{IsInRange}
use Rattle.certificate.proofs.StreamLaws.{err_finds, many_goes, many_read, many_refused, others_found}
use Rattle.certificate3.specs.Reading.{hints_at}
use Rattle.certificate3.proofs.PieceLaws.{hints_of_piece}
use Rattle.checker3.specs.Judged.{AreHinted}
use Rattle.checker3.proofs.Feeding.{all_shown, clause_here, shown_more, unshown_here}
use Rattle.checker3.proofs.lines.check_hints.Goals as goal

pub line_in-requires-clause-line : goal.line_in-requires-clause-line
line_in-requires-clause-line g c = hints_of_piece

pub clause_into-requires-clause-in_range : goal.clause_into-requires-clause-in_range
clause_into-requires-clause-in_range g c =
    let lt : c.loop-k.k < length c.args.timed.clauses.now = omega (arith, c.len-k-end.ensures, c.loop-k-test.true) in
    subst (All (IsInRange c.args.timed.time.max_var)) (sym c.list.ensures) (c.requires.over c.loop-k.k [] lt)

pub returns-in_err-line_in-clause-says : goal.returns-in_err-line_in-clause-says
returns-in_err-line_in-clause-says g c text later left =
    let n = length c.args.timed.clauses.now in
    let r = c.args.refuter.now in
    let cs = map (map (literal c.args.timed.time.max_var c.args.timed.time.offset)) c.args.timed.clauses.now in
    let (zs, between, refused) = c.in_err-line_in.ensures.says text later left in
    let (ys, before, (front, len, shown, still)) = c.loop-k.invariant.reads text zs between in
    let read = many_at hints_at n (c.args.reader.now.held ++ ys) in (
      ys,
      before,
      err_finds (AreHinted r.base.vars (fin.get r.stage.present) cs) read c.from_residual.result c.in_err-line_in.field-0.0 c.line_in.new.self.held later c.from_residual.ensures.1
          (many_refused hints_at read front n c.loop-k.k c.in_err-line_in.field-0.0 c.loop-k.reader.held zs (omega (arith, c.len-k-end.ensures, c.loop-k-test.true)) still refused),
    )

pub loop-k-preserved : goal.loop-k-preserved
loop-k-preserved g c = record {
  steady = search rules;
  same = c.in_default.ensures.same ∙ c.loop-k.invariant.same;
  reads = λ text later left.
      let n = length c.args.timed.clauses.now in
      let r = c.args.refuter.now in
      let k = c.loop-k.k in
      let v = c.args.timed.time.max_var in
      let o = c.args.timed.time.offset in
      let cs : List (List ℤ) = map (map (literal v o)) c.args.timed.clauses.now in
      let h = c.line_in.new.buffer.items in
      let (zs, between, one) = c.in_ok-line_in.ensures.says text later left in
      let (ys, before, (front, len, shown, still)) = c.loop-k.invariant.reads text zs between in
      let read = many_at hints_at n (c.args.reader.now.held ++ ys) in
      let lits : c.clause_into.new.literals.items ≡ get_or cs k [] = c.in_ok-clause_into.ensures.literals ∙ ap (map (literal v o)) c.list.ensures ∙ sym (clause_here v o c.args.timed.clauses.now k) in
      let accepted : IsAcceptedLine r.base.vars (fin.get r.stage.present) (get_or cs k []) h = search rules in (
        ys,
        before,
        (
          front ++ h ∷ [],
          length_push front h ∙ ap (λ n. n + 1) len,
          shown_more r.base.vars (fin.get r.stage.present) cs front h k len shown accepted,
          many_goes hints_at read front n k h c.loop-k.reader.held c.line_in.new.self.held zs later (omega (arith, c.len-k-end.ensures, c.loop-k-test.true)) still one,
        ),
      );
}

pub returns-in-Err-clause-says : goal.returns-in-Err-clause-says
returns-in-Err-clause-says g c text later left =
    let n = length c.args.timed.clauses.now in
    let r = c.args.refuter.now in
    let k = c.loop-k.k in
    let v = c.args.timed.time.max_var in
    let o = c.args.timed.time.offset in
    let cs : List (List ℤ) = map (map (literal v o)) c.args.timed.clauses.now in
    let h = c.line_in.new.buffer.items in
    let fault = c.in-Err.fault in
    let (us, here, skipped) = rw c.len.ensures at (c.skip_unshown.ensures.says text later left) in
    let (zs, between, one) = c.in_ok-line_in.ensures.says text us here in
    let (ys, before, (front, len, shown, still)) = c.loop-k.invariant.reads text zs between in
    let read = many_at hints_at n (c.args.reader.now.held ++ ys) in
    let further = many_goes hints_at read front n k h c.loop-k.reader.held c.line_in.new.self.held zs us (omega (arith, c.len-k-end.ensures, c.loop-k-test.true)) still one in
    let same : c.loop-k.refuter ≡ r = c.loop-k.invariant.same in
    let fresh : c.loop-k.refuter.refusal ≡ None = ap (λ (q : Course). q.refusal) same ∙ c.requires.fresh in
    let lits : c.as_slice.result.now ≡ get_or cs k [] =
    c.as_slice.ensures.value ∙ c.in_ok-clause_into.ensures.literals ∙ ap (map (literal v o)) c.list.ensures ∙ sym (clause_here v o c.args.timed.clauses.now k) in
    let refused : IsRefusedLine r.base.vars (fin.get r.stage.present) (get_or cs k []) h fault =
    subst (λ (q : Course). IsRefusedLine q.base.vars (fin.get q.stage.present) (get_or cs k []) h fault) same
    (subst (λ (w : List ℤ). IsRefusedLine c.loop-k.refuter.base.vars (fin.get c.loop-k.refuter.stage.present) w h fault) lits
    (subst (λ (w : List ℕ). IsRefusedLine c.loop-k.refuter.base.vars (fin.get c.loop-k.refuter.stage.present) c.as_slice.result.now w fault) c.as_slice-in-loop-k.ensures.value (c.in-Err.ensures.refused fresh))) in
    let inside : k < length cs = omega (arith, length-map c.args.timed.clauses.now (map (literal v o)), c.len-k-end.ensures, c.loop-k-test.true) in (
      ys,
      before,
      others_found (λ hints found. (found ≡ Some fault) × (fault ≢ OutOfMemory witness)) (AreHinted r.base.vars (fin.get r.stage.present) cs) read (front ++ h ∷ []) (many_at hints_at (n - (k + 1))) c.line_in.new.self.held c.skip_unshown.new.reader.held us later c.skip_unshown.result further
          skipped (λ more x found. unshown_here r.base.vars (fin.get r.stage.present) cs front h more k fault x len inside shown refused found),
    )

pub returns-clause-says : goal.returns-clause-says
returns-clause-says g c text later left =
    let inv = c.args.timed.clauses.now in
    let n = length inv in
    let r = c.args.refuter.now in
    let f = map (literal c.args.timed.time.max_var c.args.timed.time.offset) in
    let cs : List (List ℤ) = map f inv in
    let (ys, before, (front, len, shown, still)) = c.loop-k.invariant.reads text later left in
    let bytes : List ℕ = c.args.reader.now.held ++ ys in
    let is = many_read hints_at (many_at hints_at n bytes) front n c.loop-k.k c.loop-k.reader.held later (omega (arith, c.len-k-end.ensures, c.loop-k-test.false)) still in
    let many : length cs ≡ n = length-map inv f in
    (ys, before, (front, is, all_shown r.base.vars (fin.get r.stage.present) cs front c.loop-k.k bytes (c.loop-k.reader.held ++ later) len shown (ap (λ j. many_at hints_at j bytes) many ∙ is)))

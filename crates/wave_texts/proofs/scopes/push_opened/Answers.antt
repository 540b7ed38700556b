use Rattle.std.proofs.Common.{◌++◌, arith}
use Rattle.wave_texts.specs.Scopes.{opened}
use Rattle.wave_texts.proofs.ScopeLaws.{opened_dot, opened_other}
use Rattle.wave_texts.proofs.scopes.push_opened.Goals.{then-byte-eq46+in_ok-push_scope, else-byte-eq46}
use Rattle.wave_texts.proofs.scopes.push_opened.Goals as goal

pub loop-k-preserved : goal.loop-k-preserved
loop-k-preserved c =
    let path = c.args.path.now in
    let k = c.loop-k.k in
    let whole = c.args.text.now.items ++ opened path in
    let h = c.loop-k.invariant in
    elim c.if-byte-eq46.branch [
      | then-byte-eq46+in_ok-push_scope w ↦ record {
        within = omega (arith, w.first-is);
        left = rw (w.first-is, w.text-is) (opened_dot c.loop-k.first k 0 path c.loop-k.text.items w.push_scope.new.text.items whole (omega arith) w.if-byte-eq46.true w.in_ok-push_scope.ensures h.left);
      }
      | else-byte-eq46 w ↦ record {
        within = omega (arith, w.first-is, h.within);
        left = rw (w.first-is, w.text-is) (opened_other c.loop-k.first k 0 path c.loop-k.text.items whole h.within (omega arith) w.if-byte-eq46.false h.left);
      }
    ]

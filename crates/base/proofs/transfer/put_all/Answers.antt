use Rattle.std.proofs.Common.{rules, ◌++◌, take}
use Rattle.std.proofs.KnownBytes.{Appends-trans}
use Rattle.base.proofs.Cutting.{done-take}
use Rattle.base.proofs.transfer.put_all.Goals as goal

pub putting-preserved : goal.putting-preserved
putting-preserved g c =
    let rest = c.putting.rest.now in
    let n = c.in_ok-n.n in
    let (done, whole, appended) = c.putting.invariant.1 in
    (search rules, (done ++ take n rest, done-take _ done rest n whole, Appends-trans _ _ _ _ _ appended c.in_ok-n.ensures.bytes))

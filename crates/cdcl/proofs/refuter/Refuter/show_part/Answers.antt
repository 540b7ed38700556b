use Rattle.std.proofs.Common.{◌≡◌, ◌∙◌}
use Rattle.cdcl_log.specs.Refuting.{refuting}
use Rattle.cdcl.proofs.Searched.{same_refuting, stays_then}
use Rattle.cdcl.proofs.refuter.Refuter.show_part.Goals as goal

pub returns-in-Model-clause-stays : goal.returns-in-Model-clause-stays
returns-in-Model-clause-stays c =
    let k = c.in_ok-searched_part.ensures.keeps in
    let same : refuting c.searched_part.new.kernel ≡ c.args.self.now =
    same_refuting c.self.inside.kernel c.searched_part.new.kernel k.same_vars k.same_clauses k.same_room k.same_shared ∙ c.self.view_is in
    stays_then c.args.self.now (refuting c.searched_part.new.kernel) c.show.new.self same c.show.ensures.stays

pub returns-in_err-closing-in-Core-clause-stays : goal.returns-in_err-closing-in-Core-clause-stays
returns-in_err-closing-in-Core-clause-stays c =
    let k = c.in_ok-searched_part.ensures.keeps in
    let same : refuting c.searched_part.new.kernel ≡ c.args.self.now =
    same_refuting c.self.inside.kernel c.searched_part.new.kernel k.same_vars k.same_clauses k.same_room k.same_shared ∙ c.self.view_is in
    stays_then c.args.self.now (refuting c.searched_part.new.kernel) (refuting c.closing.new.kernel) same c.in_err-closing-in-Core.ensures.stays

pub returns-in-Core-clause-stays : goal.returns-in-Core-clause-stays
returns-in-Core-clause-stays c =
    let k = c.in_ok-searched_part.ensures.keeps in
    let same : refuting c.searched_part.new.kernel ≡ c.args.self.now =
    same_refuting c.self.inside.kernel c.searched_part.new.kernel k.same_vars k.same_clauses k.same_room k.same_shared ∙ c.self.view_is in
    stays_then c.args.self.now (refuting c.searched_part.new.kernel) (refuting c.closing.new.kernel) same c.in_ok-closing-in-Core.ensures.stays

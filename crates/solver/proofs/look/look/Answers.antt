use Rattle.std.proofs.Common.{rules, Contains, SFits, w32, inr}
use Rattle.std.proofs.lemmas.Int.{to_z-of_z}
use Rattle.std.proofs.lemmas.List.Elements.{All-contains_itself, All-push, Contains-push}
use Rattle.solver.proofs.Looks.{all_in_more}
use Rattle.solver.proofs.look.look.Goals as goal

pub returns-in_err-push-in-Some-clause-more : goal.returns-in_err-push-in-Some-clause-more
returns-in_err-push-in-Some-clause-more c = rw c.in_err-push-in-Some.ensures.items (All-contains_itself c.args.core.now.items)

pub returns-in-Spent-clause-more : goal.returns-in-Spent-clause-more
returns-in-Spent-clause-more c = All-contains_itself c.args.core.now.items

pub returns-in-Closed-clause-more : goal.returns-in-Closed-clause-more
returns-in-Closed-clause-more c = All-contains_itself c.args.core.now.items

pub returns-in-None-clause-more : goal.returns-in-None-clause-more
returns-in-None-clause-more c = All-contains_itself c.args.core.now.items

pub returns-in_ok-push-in-Some-clause-among : goal.returns-in_ok-push-in-Some-clause-among
returns-in_ok-push-in-Some-clause-among c =
    let f : SFits w32 c.in-Some.literal = search rules in
    rw (c.in_ok-push-in-Some.ensures.items, to_z-of_z w32 c.in-Some.literal f) (All-push (Contains c.args.assume.now) c.args.core.now.items _ c.requires.among c.in-Some.ensures.0)

pub returns-in_ok-push-in-Some-clause-more : goal.returns-in_ok-push-in-Some-clause-more
returns-in_ok-push-in-Some-clause-more c = rw c.in_ok-push-in-Some.ensures.items (all_in_more c.args.core.now.items _)

pub returns-else-not-contains-clause-more : goal.returns-else-not-contains-clause-more
returns-else-not-contains-clause-more c = All-contains_itself c.args.core.now.items

pub returns-in_ok-push-in-Some-clause-finds : goal.returns-in_ok-push-in-Some-clause-finds
returns-in_ok-push-in-Some-clause-finds c =
    let f : SFits w32 c.in-Some.literal = search rules in
    rw (c.in_ok-push-in-Some.ensures.items, to_z-of_z w32 c.in-Some.literal f) (inr (c.in-Some.literal, Contains-push c.args.core.now.items c.in-Some.literal, c.in-Some.ensures.1))

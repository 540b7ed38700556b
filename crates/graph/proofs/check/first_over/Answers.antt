use Rattle.std.proofs.Common.{ℕ, ◌≡◌, ◌∷◌, [], List}
use Rattle.graph.proofs.Limits.{header_of, fine_as, over_min, under_min, header_over, sum_over, in_limits}
use Rattle.graph.proofs.check.first_over.Goals as goal

pub returns-in-Some : goal.returns-in-Some
returns-in-Some c =
    header_over c.args.parts.now c.in-Some.position
    (rw (c.from.ensures, c.len.ensures, c.len-2.ensures, c.len-3.ensures, c.len-4.ensures, c.len-5.ensures, c.len-6.ensures, c.len-7.ensures, c.len-8.ensures) at c.in-Some.ensures)

pub returns-then-justice_sum-gt-LIMIT : goal.returns-then-justice_sum-gt-LIMIT
returns-then-justice_sum-gt-LIMIT c =
    let counts : List ℕ = c.from.result ∷ c.len.result ∷ c.len-2.result ∷ c.len-3.result ∷ c.len-4.result ∷ c.len-5.result ∷ c.len-6.result ∷ c.len-7.result ∷ c.len-8.result ∷ [] in
    let same : counts ≡ header_of c.args.parts.now =
    rw (c.from.ensures, c.len.ensures, c.len-2.ensures, c.len-3.ensures, c.len-4.ensures, c.len-5.ensures, c.len-6.ensures, c.len-7.ensures, c.len-8.ensures) in
    let fine = fine_as counts (header_of c.args.parts.now) same c.in_default.ensures in
    sum_over c.args.parts.now
    fine
    (over_min _ _ (rw c.as_slice.ensures at c.justice_sum.ensures) c.if-justice_sum-gt-LIMIT.true)

pub returns : goal.returns
returns c =
    let counts : List ℕ = c.from.result ∷ c.len.result ∷ c.len-2.result ∷ c.len-3.result ∷ c.len-4.result ∷ c.len-5.result ∷ c.len-6.result ∷ c.len-7.result ∷ c.len-8.result ∷ [] in
    let same : counts ≡ header_of c.args.parts.now =
    rw (c.from.ensures, c.len.ensures, c.len-2.ensures, c.len-3.ensures, c.len-4.ensures, c.len-5.ensures, c.len-6.ensures, c.len-7.ensures, c.len-8.ensures) in
    let fine = fine_as counts (header_of c.args.parts.now) same c.in_default.ensures in
    in_limits c.args.parts.now
    fine
    (under_min _ _ (rw c.as_slice.ensures at c.justice_sum.ensures) c.if-justice_sum-gt-LIMIT.false)

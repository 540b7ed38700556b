-- Which texts begin as a certificate does.
use Rattle.std.proofs.Common.{◌≡◌, ℕ, Bool, true, false, List, [], ◌∷◌, ◌++◌, Option, None, Some, Result, refl, subst, inl, inr}
use Rattle.certificate.specs.declared.certificate.Certificate.{Certificate}
use Rattle.certificate.specs.Texts.{SpellsCertificate, first_line}
use Rattle.graph.specs.declared.circuit.Lit.{Lit}
use Rattle.lrat.specs.declared.line.Line.{Line}
use Rattle.invariant.specs.Reading.{begins_certificate}
use Rattle.invariant.specs.Texts.{SpellsClauses, SpellsInvariant, IsRead}
use Rattle.invariant.specs.declared.invariant_error.InvariantError.{InvariantError}
use Rattle.invariant.proofs.ClauseLaws.{clause_first}

lines_begin : (t : List ℕ) (cs : List (List Lit)) → SpellsClauses t cs → begins_certificate t ≡ false
lines_begin t [] e = rw e refl
lines_begin t (c ∷ cs) (a, b, one, others, whole) =
    let f = clause_first a c one in
    rw (whole, f.3) f.2

-- as do both versions of one
version_begins : (lemmas : Option (List Line)) (a b c d e f : List ℕ) → begins_certificate (first_line lemmas ++ a ++ b ++ c ++ d ++ e ++ f) ≡ true
version_begins None a b c d e f = refl
version_begins (Some lemmas) a b c d e f = refl

certificate_begins : (t : List ℕ) (c : Certificate) → SpellsCertificate t c → begins_certificate t ≡ true
certificate_begins t c s = rw s.spells (version_begins c.lemmas _ _ _ _ _ _)

both : {b : Bool} → b ≡ true → b ≡ false → ⊥
both t f = absurd cc

-- a text that begins so spells clauses in a certificate
pub only_certificate : (t : List ℕ) (r : Result (List (List Lit)) InvariantError) → begins_certificate t ≡ true
    → ((c : Certificate) → SpellsCertificate t c → IsRead r c.invariant) → (cs : List (List Lit)) → SpellsInvariant t cs → IsRead r cs
only_certificate t r begins only cs (inl s) = absurd (both begins (lines_begin t cs s))
only_certificate t r begins only cs (inr (c, s, same)) = subst (λ (ds : List (List Lit)). IsRead r ds) same (only c s)

-- and another a line for each
pub only_lines : (t : List ℕ) (r : Result (List (List Lit)) InvariantError) → begins_certificate t ≡ false
    → ((cs : List (List Lit)) → SpellsClauses t cs → IsRead r cs) → (cs : List (List Lit)) → SpellsInvariant t cs → IsRead r cs
only_lines t r begins only cs (inl s) = only cs s
only_lines t r begins only cs (inr (c, s, same)) = absurd (both (certificate_begins t c s) begins)

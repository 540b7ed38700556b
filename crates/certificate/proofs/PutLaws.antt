-- The texts that are put, one after another.
use Rattle.std.proofs.Common.{◌≡◌, ℕ, List, ◌∷◌, [], ◌++◌, ◌+◌, length, take, drop, Option, Result, IsErr, refl, sym, subst, append_assoc}
use Rattle.std.specs.Prelude.{codes, decimal, flat_map}
use Rattle.base.specs.Devices.{PutsBeginning}
use Rattle.graph.specs.Circuits.{position_of, property_text}
use Rattle.graph.specs.declared.circuit.Lit.{Lit}
use Rattle.graph.specs.declared.circuit.Property.{Property}
use Rattle.graph.specs.declared.circuit.Property.TheVariants.{Bad, Justice, Output}
use Rattle.lrat.specs.declared.line.Line.{Line}
use Rattle.lrat.proofs.PutLaws.{begins_more, puts_err}
use Rattle.lrat.specs.Texts.{Puts}
use Rattle.certificate.specs.Texts.{certificate_text, first_line, clause_line, number_line, lemma_text, section_text, sections_text}
use Rattle.certificate.specs.Writing.{head_text, letter_of, literal_text}
use Rattle.certificate.specs.declared.certificate.Certificate.{Certificate}

-- a step fails, and more was to follow
pub stops : {X E : Type 0} (r : Result X E) (a b : Option (List ℕ)) (s t : List ℕ) → IsErr r → PutsBeginning a b s → Puts r a b (s ++ t)
stops r a b s t e p = puts_err r a b (s ++ t) e (begins_more a b s t p)

-- the same text, grouped otherwise
pub puts_as : {X E : Type 0} (r : Result X E) (a b : Option (List ℕ)) (s t : List ℕ) → s ≡ t → Puts r a b s → Puts r a b t
puts_as r a b s t e p = subst (Puts r a b) e p

pub property_parts : (p : Property) → (letter_of p ∷ []) ++ (decimal (position_of p) ++ codes "\n") ≡ property_text p ++ codes "\n"
property_parts (Bad n) = refl
property_parts (Justice n) = refl
property_parts (Output n) = refl

pub clause_parts : (c : List Lit) → decimal (length c) ++ (flat_map literal_text c ++ codes "\n") ≡ clause_line c
clause_parts c = sym (append_assoc (decimal (length c)) (flat_map literal_text c) (codes "\n"))

regroup : (version property end count clauses : List ℕ) → version ++ ((property ++ end) ++ (count ++ clauses)) ≡ version ++ property ++ end ++ count ++ clauses
regroup version property end count clauses = simp append_assoc

pub head_parts : (c : Certificate) → first_line c.lemmas ++ ((property_text c.property ++ codes "\n") ++ (number_line (length c.invariant) ++ flat_map clause_line c.invariant)) ≡ head_text c
head_parts c = regroup (first_line c.lemmas) (property_text c.property) (codes "\n") (number_line (length c.invariant)) (flat_map clause_line c.invariant)

pub certificate_parts : (c : Certificate) → head_text c ++ (lemma_text c.lemmas ++ sections_text (length c.invariant) c.sections) ≡ certificate_text c
certificate_parts c = sym (append_assoc (head_text c) (lemma_text c.lemmas) (sections_text (length c.invariant) c.sections))

pub sections_parts : (n : ℕ) (proofs : List (List Line)) → flat_map (section_text 105) (take n proofs) ++ (flat_map (section_text 115) (take n (drop n proofs)) ++ flat_map (section_text 98) (drop (n + n) proofs)) ≡ sections_text n proofs
sections_parts n proofs = sym (append_assoc (flat_map (section_text 105) (take n proofs)) (flat_map (section_text 115) (take n (drop n proofs))) (flat_map (section_text 98) (drop (n + n) proofs)))

use Rattle.std.proofs.Common.{◌≡◌, ◌∙◌, ◌+◌, List, get_or, ap, subst}
use Rattle.lrat.specs.declared.line.Line.{Line}
use Rattle.checker2.specs.Accepted.{Case}
use Rattle.checker2.specs.Causes.{IsSectionError, lemma_sections}
use Rattle.checker2.proofs.InOrder.{refute_more, refused_here}
use Rattle.checker2.proofs.sections.check_case.Goals as goal

pub returns-in-Ok-clause-proved : goal.returns-in-Ok-clause-proved
returns-in-Ok-clause-proved c cs at below =
    let ps = c.args.certificate.now.sections in
    let q = c.index-sections-index.result in
    let case : Case = record { base = c.args.refuter.now.base; units = c.args.units.now } in
    let same : q ≡ get_or ps c.args.index q = c.index-sections-index.is ∙ ap (λ (l : List (List Line)). get_or l c.args.index q) c.as_slice-sections.ensures in
    refute_more cs ps c.args.index case q at c.requires.stands same c.in-Ok.ensures.accepted below

pub returns-in-Err-clause-refused : goal.returns-in-Err-clause-refused
returns-in-Err-clause-refused c cs at below =
    let ps = c.args.certificate.now.sections in
    let q = c.index-sections-index.result in
    let case : Case = record { base = c.args.refuter.now.base; units = c.args.units.now } in
    let same : q ≡ get_or ps c.args.index q = c.index-sections-index.is ∙ ap (λ (l : List (List Line)). get_or l c.args.index q) c.as_slice-sections.ensures in
    refused_here (lemma_sections c.args.certificate.now.lemmas) cs ps c.args.index case q c.in-Err.error c.section_error.result at c.requires.stands same c.in-Err.ensures.refused below
    (subst (λ n. IsSectionError c.in-Err.error (n + c.args.index) c.section_error.result) c.lemma_sections.ensures.count c.section_error.ensures)

use Rattle.std.proofs.Common.{rules}
use Rattle.der_base.specs.Header.{class_of, length_of, number_of}
use Rattle.der_elements.proofs.CheckLaws.ElementLaws.{content_found, no_content}
use Rattle.der_elements.proofs.check.reader.after_content.Goals as goal

pub returns-then-may_have_content-clause-exactly : goal.returns-then-may_have_content-clause-exactly
returns-then-may_have_content-clause-exactly c =
    let h = c.args.header.now in
    let parts = c.in_ok-content.ensures.cases in
    content_found c.args.rules c.class.result (class_of h) c.tag.result.0 (number_of h) c.in-Definite.size (length_of h) c.args.i.now c.in_ok-content.content.now c.in_ok-content.rest
    c.class.ensures c.tag.ensures c.in-Definite.ensures (parts.3, parts.1, parts.2) (c.may_have_content.ensures.0 (search rules))

pub returns-else-may_have_content-clause-exactly : goal.returns-else-may_have_content-clause-exactly
returns-else-may_have_content-clause-exactly c =
    let h = c.args.header.now in
    let parts = c.in_ok-content.ensures.cases in
    no_content c.args.rules c.class.result (class_of h) c.tag.result.0 (number_of h) c.in-Definite.size (length_of h) c.args.i.now c.in_ok-content.content.now c.in_ok-content.rest.now
    c.class.ensures c.tag.ensures c.in-Definite.ensures (parts.3, parts.1, parts.2) (λ m. absurd (search (rules, c.may_have_content.ensures.1 m)))

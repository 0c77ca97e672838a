use Rattle.std.proofs.Common.{◌≡◌, ◌++◌, List, Some, refl, rules, ℕ}
use Rattle.std.proofs.Output.{WritesText-from_DisplaysOnOk, WritesText-from_lent}
use Rattle.der_elements.specs.Walked.{visited_of}
use Rattle.der_print.specs.Names.{table_of}
use Rattle.der_print.specs.Texts.{content_of, octets_in}
use Rattle.der_print.specs.declared.line_octets.LineOctets.{LineOctets}
use Rattle.der_print.proofs.PartLaws.{grown_by_ending}
use Rattle.der_print.proofs.line_octets.LineOctets.write_ending.Goals as goal

pub returns-in-Ok : goal.returns-in-Ok
returns-in-Ok c =
    let e = c.args.element.now in
    let k = c.in-Ok.ensures c.new-f.ensures.plain refl in
    let gives : LineOctets → List ℕ → LineOctets → Type 0 = λ l text m. octets_in m ≡ octets_in l ++ text in
    grown_by_ending (table_of c.args.own) c.args.limit (visited_of e) (content_of e) _ _ k.0 k.1
    (WritesText-from_lent gives _ c.into_inner.result _ (Some k.0) (λ same. search rules)
    (WritesText-from_DisplaysOnOk _ _ _ _ _ c.write_ending-written.result (Some k.0) c.new-f.ensures.writer c.into_inner.ensures c.new-f.ensures.plain (rw c.in-Ok.is refl) (λ p o. k.2)))

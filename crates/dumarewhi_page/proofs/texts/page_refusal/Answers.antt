use Rattle.std.proofs.Common.{[], false, true, inl, inr, refl, subst}
use Rattle.der_elements.specs.Visits.{Extras, Visits}
use Rattle.der_elements.specs.Walked.{IsRefused}
use Rattle.dumarewhi_page.specs.Content.Errors.{PutsPart}
use Rattle.dumarewhi_page.specs.Content.Listed.{all_extras}
use Rattle.dumarewhi_page.proofs.texts.page_refusal.Goals as goal

pub returns-in-None : goal.returns-in-None
returns-in-None c =
    let x : Extras = record { enters_strings = true; keeps_values = false } in
    let i = c.args.input.now in
    let by = c.rules_numbered in
    let start = c.keeping_values-walk.ensures x by.result i c.new.ensures in
    let found = c.in-None.ensures all_extras by.result i [] start in
    (found.0, inl (subst (λ r. Visits all_extras r 101 0 0 i found.0) by.ensures found.1, refl, refl))

pub returns-in-Some : goal.returns-in-Some
returns-in-Some c =
    let x : Extras = record { enters_strings = true; keeps_values = false } in
    let i = c.args.input.now in
    let by = c.rules_numbered in
    let start = c.keeping_values-walk.ensures x by.result i c.new.ensures in
    let found = c.in-Some.ensures all_extras by.result i [] start in
    let walk = c.find_fault.new.self in
    let refusal = c.in-Some.refusal in
    let is = subst (λ r. IsRefused all_extras r i found.0 walk refusal) by.ensures found.1 in
    let put = c.put_refusal in
    (found.0, inr (walk, refusal, is, subst (λ p. PutsPart p walk refusal c.args.text.now put.new.text put.result) c.part_numbered.ensures put.ensures))

use Rattle.der_elements.specs.Ends.{octets_ahead}
use Rattle.der_schema.specs.Meaning.{root_of}
use Rattle.text_json.proofs.FieldsLaws.Fitting.{HasFitted}
use Rattle.text_json.proofs.fields.fit.fit_of.Given as goal

-- where the elements that were visited leave the type
abbrev pub invariant-elements : goal.invariant-elements
invariant-elements l = record {
  so : HasFitted (root_of l.fn.schema) l.fn.rules l.fn.input l.walk l.namer l.left;
}

abbrev pub decreases-elements : goal.decreases-elements
decreases-elements l = octets_ahead l.walk

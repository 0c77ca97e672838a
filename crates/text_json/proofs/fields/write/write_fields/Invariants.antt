use Rattle.der_elements.specs.Ends.{octets_ahead}
use Rattle.der_print.specs.Names.{table_of}
use Rattle.der_schema.specs.Meaning.{root_of}
use Rattle.text_json.proofs.FieldsLaws.FieldLaws.{HasWritten}
use Rattle.text_json.proofs.fields.write.write_fields.Given as goal

-- the lines of the elements that were visited are written
abbrev pub invariant-elements : goal.invariant-elements
invariant-elements g l = record {
  so : HasWritten (root_of l.fn.schema) l.fn.rules (table_of l.fn.own) l.fn.style l.fn.input l.walk l.namer l.secrets
      l.left (g.W.Write.contents l.fn.out) (g.W.Write.contents l.out);
}

abbrev pub decreases-elements : goal.decreases-elements
decreases-elements g l = octets_ahead l.walk

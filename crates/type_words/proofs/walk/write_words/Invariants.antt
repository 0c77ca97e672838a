use Rattle.der_elements.specs.Ends.{octets_ahead}
use Rattle.der_schema.specs.Meaning.{root_of}
use Rattle.type_words.proofs.ItemLaws.{HasPut}
use Rattle.type_words.proofs.walk.write_words.Given as goal

-- the items of the elements so far were put
abbrev pub invariant-elements : goal.invariant-elements
invariant-elements g l = record {
  so : HasPut g.S.Sink.put_gives (root_of l.fn.schema) l.fn.rules l.fn.input l.walk l.namer l.places l.fn.sink l.sink;
}

abbrev pub decreases-elements : goal.decreases-elements
decreases-elements g l = octets_ahead l.walk

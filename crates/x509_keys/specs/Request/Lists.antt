-- The octets of the items that an iterator has not yet given.
use Rattle.std.specs.Prelude.{ℕ, List}
use Rattle.x509_keys.specs.declared.request.lists.AttributeIter.{AttributeIter}
use Rattle.x509_keys.specs.declared.request.lists.ValueIter.{ValueIter}

abbrev pub attributes_left : AttributeIter → List ℕ
attributes_left a = a.left.now

abbrev pub values_left : ValueIter → List ℕ
values_left v = v.left.now

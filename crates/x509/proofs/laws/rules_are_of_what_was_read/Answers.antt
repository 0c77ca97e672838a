use Rattle.x509.proofs.Refinements.{order_is_of_attributes, repetition_is_of_identifiers, values_are_of_attributes}
use Rattle.x509.proofs.laws.rules_are_of_what_was_read.Goals as goal

pub returns-clause-order : goal.returns-clause-order
returns-clause-order c = order_is_of_attributes

pub returns-clause-repetition : goal.returns-clause-repetition
returns-clause-repetition c = repetition_is_of_identifiers

pub returns-clause-values : goal.returns-clause-values
returns-clause-values c = values_are_of_attributes

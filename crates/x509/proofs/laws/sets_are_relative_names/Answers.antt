use Rattle.x509.proofs.Refinements.{names_have_them, none_is_left, sets_are_relative_names}
use Rattle.x509.proofs.laws.sets_are_relative_names.Goals as goal

pub returns-clause-of_a_name : goal.returns-clause-of_a_name
returns-clause-of_a_name c = names_have_them

pub returns-clause-each : goal.returns-clause-each
returns-clause-each c = sets_are_relative_names

pub returns-clause-all : goal.returns-clause-all
returns-clause-all c = none_is_left

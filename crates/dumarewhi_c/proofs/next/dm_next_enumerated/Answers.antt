use Rattle.c_values.specs.Cursors.{IsSame}
use Rattle.c_values.proofs.ExactNumbers.{enumerated_begins, reads_enumerated}
use Rattle.der_base.specs.declared.rules.Rules.TheVariants.{Der}
use Rattle.der_cursor.proofs.KindLaws.{enumerated_one}
use Rattle.der_values.specs.Kinds.{enumerated_numbers}
use Rattle.dumarewhi_c.proofs.next.dm_next_enumerated.Goals as goal

pub returns-clause-exactly : goal.returns-clause-exactly
returns-clause-exactly c =
    reads_enumerated (λ v. v) (enumerated_numbers Der) (enumerated_one Der) enumerated_begins IsSame _ _ c.resume_enumerated-fields.result c.integer.result c.exact_enumerated-found.result c.integer.new.self _ _ _
    c.resume_enumerated-fields.ensures c.integer.ensures c.exact_enumerated-found.ensures c.finish.ensures

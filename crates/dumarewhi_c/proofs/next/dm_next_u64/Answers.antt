use Rattle.std.specs.Prelude.{pos}
use Rattle.c_values.specs.Cursors.{IsSame}
use Rattle.c_values.proofs.ExactNumbers.{number_begins, reads_number}
use Rattle.der_base.specs.declared.rules.Rules.TheVariants.{Der}
use Rattle.der_base.specs.Numbers.{unsigned}
use Rattle.der_cursor.proofs.KindLaws.{number_one}
use Rattle.der_values.specs.Kinds.{numbers}
use Rattle.dumarewhi_c.proofs.next.dm_next_u64.Goals as goal

pub returns-clause-exactly : goal.returns-clause-exactly
returns-clause-exactly c =
    let kind = unsigned 64 in
    reads_number pos (numbers Der kind) (number_one Der kind) (number_begins kind) 2 c.resume-fields.result IsSame _ _ c.integer.result c.exact_u64-found.result c.integer.new.self _ _ _ c.resume-fields.ensures c.integer.ensures
    c.exact_u64-found.ensures c.finish.ensures

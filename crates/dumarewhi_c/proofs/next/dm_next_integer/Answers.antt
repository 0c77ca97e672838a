use Rattle.std.proofs.Common.{Bor, List, ℕ}
use Rattle.c_values.specs.Cursors.{IsOctets}
use Rattle.c_values.proofs.ExactNumbers.{integer_begins, reads_number}
use Rattle.der_base.specs.declared.rules.Rules.TheVariants.{Der}
use Rattle.der_cursor.proofs.KindLaws.{integer_one}
use Rattle.der_values.specs.Kinds.{integers}
use Rattle.dumarewhi_c.proofs.next.dm_next_integer.Goals as goal

pub returns-clause-exactly : goal.returns-clause-exactly
returns-clause-exactly c =
    let now : Bor (List ℕ) → List ℕ = λ v. v.now in
    reads_number now (integers Der) (integer_one Der) integer_begins 2 c.resume-fields.result IsOctets _ _ c.integer.result c.exact_integer-found.result c.integer.new.self _ _ _ c.resume-fields.ensures c.integer.ensures
    c.exact_integer-found.ensures c.finish_octets.ensures

use Rattle.std.proofs.Common.{rules}
use Rattle.std.proofs.lemmas.Result.{err_from_is_err_and}
use Rattle.der_cursor.specs.Formats.{Explicit, element_of}
use Rattle.der_cursor.proofs.FormatLaws.{is_read, is_refused, not_next}
use Rattle.x509_value_rules.specs.Parties.{DirectoryString}
use Rattle.x509_value_rules.proofs.party_name.read_assigner.Goals as goal

pub returns-then-not-is_next : goal.returns-then-not-is_next
returns-then-not-is_next c = not_next (Explicit 0 DirectoryString) {view = element_of} (search rules)

pub returns-in_err-assigner : goal.returns-in_err-assigner
returns-in_err-assigner c =
    let q = err_from_is_err_and c.from_residual.result c.from_residual.ensures.1 in
    rw (q.1, q.2) (is_refused (Explicit 0 DirectoryString) (search rules) c.in_err-assigner.ensures)

pub returns : goal.returns
returns c = is_read (Explicit 0 DirectoryString) (search rules) c.in_ok-assigner.ensures

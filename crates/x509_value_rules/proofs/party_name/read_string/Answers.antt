use Rattle.std.proofs.Common.{rules}
use Rattle.std.proofs.lemmas.Result.{err_from_is_err_and}
use Rattle.der_cursor.specs.Formats.{AnyElement}
use Rattle.der_cursor.proofs.FormatLaws.{any_read}
use Rattle.x509_value_rules.specs.Parties.{IsDirectoryString}
use Rattle.x509_value_rules.proofs.KeptLaws.{not_such, such_read, such_stops}
use Rattle.x509_value_rules.proofs.party_name.read_string.Goals as goal

pub returns-in_err-string : goal.returns-in_err-string
returns-in_err-string c =
    let q = err_from_is_err_and c.from_residual.result c.from_residual.ensures.1 in
    rw (q.1, q.2) (such_stops IsDirectoryString AnyElement (any_read c.in_err-string.ensures))

pub returns-then-not-is_directory_string : goal.returns-then-not-is_directory_string
returns-then-not-is_directory_string c = not_such IsDirectoryString AnyElement (λ h. let e = c.is_directory_string.ensures.1 h in cc) (any_read c.in_ok-string.ensures)

pub returns : goal.returns
returns c = such_read IsDirectoryString AnyElement (c.is_directory_string.ensures.0 (search rules)) (any_read c.in_ok-string.ensures)

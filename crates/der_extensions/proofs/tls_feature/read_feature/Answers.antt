use Rattle.std.proofs.Common.{refl}
use Rattle.std.proofs.lemmas.Result.{err_from_is_err_and}
use Rattle.der_base.specs.Numbers.{unsigned}
use Rattle.der_values.specs.Kinds.{numbers}
use Rattle.der_cursor.proofs.FormatLaws.{value_read}
use Rattle.der_extensions.proofs.ExtensionLaws.{unwrapped, wrapped}
use Rattle.der_extensions.proofs.tls_feature.read_feature.Goals as goal

pub returns-in_err-number : goal.returns-in_err-number
returns-in_err-number c =
    let q = err_from_is_err_and c.from_residual.result c.from_residual.ensures.1 in
    rw (q.1, q.2) (unwrapped (value_read (λ r. numbers r (unsigned 32)) c.in_err-number.ensures))

pub returns : goal.returns
returns c = wrapped refl (value_read (λ r. numbers r (unsigned 32)) c.in_ok-number.ensures)

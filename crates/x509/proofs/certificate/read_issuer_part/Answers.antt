use Rattle.std.proofs.Common.{refl}
use Rattle.std.proofs.lemmas.Result.{err_from_is_err_and}
use Rattle.der_values.specs.Kinds.{integers}
use Rattle.x509.specs.declared.error.Field.TheVariants as field
use Rattle.x509.proofs.ReaderLaws.{finished, named_read, step, stop, value_read}
use Rattle.x509.proofs.certificate.read_issuer_part.Goals as goal

pub returns-in_err-version : goal.returns-in_err-version
returns-in_err-version c =
    let q = err_from_is_err_and c.from_residual.result c.from_residual.ensures.1 in
    rw (q.1, q.2) (stop (named_read field.Version _ c.in_err-version.ensures c.read_version.ensures))

pub returns-in_err-serial_number : goal.returns-in_err-serial_number
returns-in_err-serial_number c =
    let q = err_from_is_err_and c.from_residual-in_err-serial_number.result c.from_residual-in_err-serial_number.ensures.1 in
    rw (q.1, q.2) (step (named_read field.Version _ c.in_ok-version.ensures c.read_version.ensures) (stop (named_read field.SerialNumber _ c.in_err-serial_number.ensures (value_read (λ r. integers r) 2 c.integer.ensures))))

pub returns-in_err-signature : goal.returns-in_err-signature
returns-in_err-signature c =
    let q = err_from_is_err_and c.from_residual-in_err-signature.result c.from_residual-in_err-signature.ensures.1 in
    rw (q.1, q.2) (step (named_read field.Version _ c.in_ok-version.ensures c.read_version.ensures) (step (named_read field.SerialNumber _ c.in_ok-serial_number.ensures (value_read (λ r. integers r) 2 c.integer.ensures)) (stop (named_read field.Signature _ c.in_err-signature.ensures c.read_algorithm.ensures))))

pub returns-in_err-issuer : goal.returns-in_err-issuer
returns-in_err-issuer c =
    let q = err_from_is_err_and c.from_residual-in_err-issuer.result c.from_residual-in_err-issuer.ensures.1 in
    rw (q.1, q.2) (step (named_read field.Version _ c.in_ok-version.ensures c.read_version.ensures) (step (named_read field.SerialNumber _ c.in_ok-serial_number.ensures (value_read (λ r. integers r) 2 c.integer.ensures)) (step (named_read field.Signature _ c.in_ok-signature.ensures c.read_algorithm.ensures) (stop (named_read field.Issuer _ c.in_err-issuer.ensures c.read_name.ensures)))))

pub returns-in_err-validity : goal.returns-in_err-validity
returns-in_err-validity c =
    let q = err_from_is_err_and c.from_residual-in_err-validity.result c.from_residual-in_err-validity.ensures.1 in
    rw (q.1, q.2) (step (named_read field.Version _ c.in_ok-version.ensures c.read_version.ensures) (step (named_read field.SerialNumber _ c.in_ok-serial_number.ensures (value_read (λ r. integers r) 2 c.integer.ensures)) (step (named_read field.Signature _ c.in_ok-signature.ensures c.read_algorithm.ensures) (step (named_read field.Issuer _ c.in_ok-issuer.ensures c.read_name.ensures) (stop (named_read field.Validity _ c.in_err-validity.ensures c.read_validity.ensures))))))

pub returns : goal.returns
returns c = step (named_read field.Version _ c.in_ok-version.ensures c.read_version.ensures) (step (named_read field.SerialNumber _ c.in_ok-serial_number.ensures (value_read (λ r. integers r) 2 c.integer.ensures)) (step (named_read field.Signature _ c.in_ok-signature.ensures c.read_algorithm.ensures) (step (named_read field.Issuer _ c.in_ok-issuer.ensures c.read_name.ensures) (step (named_read field.Validity _ c.in_ok-validity.ensures c.read_validity.ensures) (finished refl)))))

use Rattle.std.proofs.Common.{true, refl}
use Rattle.std.proofs.lemmas.Result.{err_from_is_err_and}
use Rattle.x509.specs.declared.crl.error.Field.TheVariants as field
use Rattle.x509.proofs.CrlLaws.CrlLaws.{named_read, opened_field, shorter_field}
use Rattle.x509.proofs.ReaderLaws.{end_read, finished, step, stop, type_read, within}
use Rattle.x509.proofs.crl.list.read_tbs.Goals as goal

pub returns-in_err-fields : goal.returns-in_err-fields
returns-in_err-fields c =
    let q = err_from_is_err_and c.from_residual.result c.from_residual.ensures.1 in
    rw (q.1, q.2) (record { reads = stop (named_read field.TbsCertList _ c.in_err-fields.ensures (type_read true 16 c.open_sequence.ensures)); shorter = tt })

pub returns-in_err-version : goal.returns-in_err-version
returns-in_err-version c =
    let q = err_from_is_err_and c.from_residual-in_err-version.result c.from_residual-in_err-version.ensures.1 in
    rw (q.1, q.2) (record { reads = opened_field field.TbsCertList true 16 _ c.in_ok-fields.ensures c.open_sequence.ensures (λ i. within i (stop (named_read field.Version _ c.in_err-version.ensures (c.read_version.ensures)))); shorter = tt })

pub returns-in_err-signature : goal.returns-in_err-signature
returns-in_err-signature c =
    let q = err_from_is_err_and c.from_residual-in_err-signature.result c.from_residual-in_err-signature.ensures.1 in
    rw (q.1, q.2) (record { reads = opened_field field.TbsCertList true 16 _ c.in_ok-fields.ensures c.open_sequence.ensures (λ i. within i (step (named_read field.Version _ c.in_ok-version.ensures (c.read_version.ensures)) (stop (named_read field.Signature _ c.in_err-signature.ensures (c.read_algorithm.ensures))))); shorter = tt })

pub returns-in_err-issuer : goal.returns-in_err-issuer
returns-in_err-issuer c =
    let q = err_from_is_err_and c.from_residual-in_err-issuer.result c.from_residual-in_err-issuer.ensures.1 in
    rw (q.1, q.2) (record { reads = opened_field field.TbsCertList true 16 _ c.in_ok-fields.ensures c.open_sequence.ensures (λ i. within i (step (named_read field.Version _ c.in_ok-version.ensures (c.read_version.ensures)) (step (named_read field.Signature _ c.in_ok-signature.ensures (c.read_algorithm.ensures)) (stop (named_read field.Issuer _ c.in_err-issuer.ensures (c.read_name.ensures)))))); shorter = tt })

pub returns-in_err-this_update : goal.returns-in_err-this_update
returns-in_err-this_update c =
    let q = err_from_is_err_and c.from_residual-in_err-this_update.result c.from_residual-in_err-this_update.ensures.1 in
    rw (q.1, q.2) (record { reads = opened_field field.TbsCertList true 16 _ c.in_ok-fields.ensures c.open_sequence.ensures (λ i. within i (step (named_read field.Version _ c.in_ok-version.ensures (c.read_version.ensures)) (step (named_read field.Signature _ c.in_ok-signature.ensures (c.read_algorithm.ensures)) (step (named_read field.Issuer _ c.in_ok-issuer.ensures (c.read_name.ensures)) (stop (named_read field.ThisUpdate _ c.in_err-this_update.ensures (c.read_time.ensures))))))); shorter = tt })

pub returns-in_err-next_update : goal.returns-in_err-next_update
returns-in_err-next_update c =
    let q = err_from_is_err_and c.from_residual-in_err-next_update.result c.from_residual-in_err-next_update.ensures.1 in
    rw (q.1, q.2) (record { reads = opened_field field.TbsCertList true 16 _ c.in_ok-fields.ensures c.open_sequence.ensures (λ i. within i (step (named_read field.Version _ c.in_ok-version.ensures (c.read_version.ensures)) (step (named_read field.Signature _ c.in_ok-signature.ensures (c.read_algorithm.ensures)) (step (named_read field.Issuer _ c.in_ok-issuer.ensures (c.read_name.ensures)) (step (named_read field.ThisUpdate _ c.in_ok-this_update.ensures (c.read_time.ensures)) (stop (named_read field.NextUpdate _ c.in_err-next_update.ensures (c.read_next_update.ensures)))))))); shorter = tt })

pub returns-in_err-revoked_certificates : goal.returns-in_err-revoked_certificates
returns-in_err-revoked_certificates c =
    let q = err_from_is_err_and c.from_residual-in_err-revoked_certificates.result c.from_residual-in_err-revoked_certificates.ensures.1 in
    rw (q.1, q.2) (record { reads = opened_field field.TbsCertList true 16 _ c.in_ok-fields.ensures c.open_sequence.ensures (λ i. within i (step (named_read field.Version _ c.in_ok-version.ensures (c.read_version.ensures)) (step (named_read field.Signature _ c.in_ok-signature.ensures (c.read_algorithm.ensures)) (step (named_read field.Issuer _ c.in_ok-issuer.ensures (c.read_name.ensures)) (step (named_read field.ThisUpdate _ c.in_ok-this_update.ensures (c.read_time.ensures)) (step (named_read field.NextUpdate _ c.in_ok-next_update.ensures (c.read_next_update.ensures)) (stop (named_read field.RevokedCertificates _ c.in_err-revoked_certificates.ensures (c.read_revoked.ensures))))))))); shorter = tt })

pub returns-in_err-crl_extensions : goal.returns-in_err-crl_extensions
returns-in_err-crl_extensions c =
    let q = err_from_is_err_and c.from_residual-in_err-crl_extensions.result c.from_residual-in_err-crl_extensions.ensures.1 in
    rw (q.1, q.2) (record { reads = opened_field field.TbsCertList true 16 _ c.in_ok-fields.ensures c.open_sequence.ensures (λ i. within i (step (named_read field.Version _ c.in_ok-version.ensures (c.read_version.ensures)) (step (named_read field.Signature _ c.in_ok-signature.ensures (c.read_algorithm.ensures)) (step (named_read field.Issuer _ c.in_ok-issuer.ensures (c.read_name.ensures)) (step (named_read field.ThisUpdate _ c.in_ok-this_update.ensures (c.read_time.ensures)) (step (named_read field.NextUpdate _ c.in_ok-next_update.ensures (c.read_next_update.ensures)) (step (named_read field.RevokedCertificates _ c.in_ok-revoked_certificates.ensures (c.read_revoked.ensures)) (stop (named_read field.CrlExtensions _ c.in_err-crl_extensions.ensures (c.read_extensions.ensures)))))))))); shorter = tt })

pub returns-in_err-of : goal.returns-in_err-of
returns-in_err-of c =
    let q = err_from_is_err_and c.from_residual-in_err-of.result c.from_residual-in_err-of.ensures.1 in
    rw (q.1, q.2) (record { reads = opened_field field.TbsCertList true 16 _ c.in_ok-fields.ensures c.open_sequence.ensures (λ i. within i (step (named_read field.Version _ c.in_ok-version.ensures (c.read_version.ensures)) (step (named_read field.Signature _ c.in_ok-signature.ensures (c.read_algorithm.ensures)) (step (named_read field.Issuer _ c.in_ok-issuer.ensures (c.read_name.ensures)) (step (named_read field.ThisUpdate _ c.in_ok-this_update.ensures (c.read_time.ensures)) (step (named_read field.NextUpdate _ c.in_ok-next_update.ensures (c.read_next_update.ensures)) (step (named_read field.RevokedCertificates _ c.in_ok-revoked_certificates.ensures (c.read_revoked.ensures)) (step (named_read field.CrlExtensions _ c.in_ok-crl_extensions.ensures (c.read_extensions.ensures)) (stop (named_read field.TbsCertList _ c.in_err-of.ensures (end_read c.end.ensures))))))))))); shorter = tt })

pub returns : goal.returns
returns c = record { reads = opened_field field.TbsCertList true 16 _ c.in_ok-fields.ensures c.open_sequence.ensures (λ i. within i (step (named_read field.Version _ c.in_ok-version.ensures (c.read_version.ensures)) (step (named_read field.Signature _ c.in_ok-signature.ensures (c.read_algorithm.ensures)) (step (named_read field.Issuer _ c.in_ok-issuer.ensures (c.read_name.ensures)) (step (named_read field.ThisUpdate _ c.in_ok-this_update.ensures (c.read_time.ensures)) (step (named_read field.NextUpdate _ c.in_ok-next_update.ensures (c.read_next_update.ensures)) (step (named_read field.RevokedCertificates _ c.in_ok-revoked_certificates.ensures (c.read_revoked.ensures)) (step (named_read field.CrlExtensions _ c.in_ok-crl_extensions.ensures (c.read_extensions.ensures)) (step (named_read field.TbsCertList _ c.in_ok-of.ensures (end_read c.end.ensures)) (finished refl)))))))))); shorter = shorter_field field.TbsCertList true 16 _ _ c.in_ok-fields.ensures c.open_sequence.ensures }

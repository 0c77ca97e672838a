use Rattle.std.proofs.Common.{true, refl}
use Rattle.std.proofs.lemmas.Result.{err_from_is_err_and}
use Rattle.x509_keys.specs.declared.request.error.Field.TheVariants as field
use Rattle.x509_keys.proofs.RequestLaws.RequestLaws.{named_read, opened_field, shorter_field}
use Rattle.x509.proofs.ReaderLaws.{end_read, finished, step, stop, type_read, within}
use Rattle.x509_keys.proofs.request.read_info.Goals as goal

pub returns-in_err-fields : goal.returns-in_err-fields
returns-in_err-fields c =
    let q = err_from_is_err_and c.from_residual.result c.from_residual.ensures.1 in
    rw (q.1, q.2) (record { reads = stop (named_read field.CertificationRequestInfo _ c.in_err-fields.ensures (type_read true 16 c.open_sequence.ensures)); shorter = tt })

pub returns-in_err-of : goal.returns-in_err-of
returns-in_err-of c =
    let q = err_from_is_err_and c.from_residual-in_err-of.result c.from_residual-in_err-of.ensures.1 in
    rw (q.1, q.2) (record { reads = opened_field field.CertificationRequestInfo true 16 _ c.in_ok-fields.ensures c.open_sequence.ensures (λ i. within i (stop (named_read field.Version _ c.in_err-of.ensures (c.read_version.ensures)))); shorter = tt })

pub returns-in_err-subject : goal.returns-in_err-subject
returns-in_err-subject c =
    let q = err_from_is_err_and c.from_residual-in_err-subject.result c.from_residual-in_err-subject.ensures.1 in
    rw (q.1, q.2) (record { reads = opened_field field.CertificationRequestInfo true 16 _ c.in_ok-fields.ensures c.open_sequence.ensures (λ i. within i (step (named_read field.Version _ c.in_ok-of.ensures (c.read_version.ensures)) (stop (named_read field.Subject _ c.in_err-subject.ensures (c.read_name.ensures))))); shorter = tt })

pub returns-in_err-subject_public_key_info : goal.returns-in_err-subject_public_key_info
returns-in_err-subject_public_key_info c =
    let q = err_from_is_err_and c.from_residual-in_err-subject_public_key_info.result c.from_residual-in_err-subject_public_key_info.ensures.1 in
    rw (q.1, q.2) (record { reads = opened_field field.CertificationRequestInfo true 16 _ c.in_ok-fields.ensures c.open_sequence.ensures (λ i. within i (step (named_read field.Version _ c.in_ok-of.ensures (c.read_version.ensures)) (step (named_read field.Subject _ c.in_ok-subject.ensures (c.read_name.ensures)) (stop (named_read field.SubjectPublicKeyInfo _ c.in_err-subject_public_key_info.ensures (c.read_key_info.ensures)))))); shorter = tt })

pub returns-in_err-attributes : goal.returns-in_err-attributes
returns-in_err-attributes c =
    let q = err_from_is_err_and c.from_residual-in_err-attributes.result c.from_residual-in_err-attributes.ensures.1 in
    rw (q.1, q.2) (record { reads = opened_field field.CertificationRequestInfo true 16 _ c.in_ok-fields.ensures c.open_sequence.ensures (λ i. within i (step (named_read field.Version _ c.in_ok-of.ensures (c.read_version.ensures)) (step (named_read field.Subject _ c.in_ok-subject.ensures (c.read_name.ensures)) (step (named_read field.SubjectPublicKeyInfo _ c.in_ok-subject_public_key_info.ensures (c.read_key_info.ensures)) (stop (named_read field.Attributes _ c.in_err-attributes.ensures (c.read_attributes.ensures))))))); shorter = tt })

pub returns-in_err-of-2 : goal.returns-in_err-of-2
returns-in_err-of-2 c =
    let q = err_from_is_err_and c.from_residual-in_err-of-2.result c.from_residual-in_err-of-2.ensures.1 in
    rw (q.1, q.2) (record { reads = opened_field field.CertificationRequestInfo true 16 _ c.in_ok-fields.ensures c.open_sequence.ensures (λ i. within i (step (named_read field.Version _ c.in_ok-of.ensures (c.read_version.ensures)) (step (named_read field.Subject _ c.in_ok-subject.ensures (c.read_name.ensures)) (step (named_read field.SubjectPublicKeyInfo _ c.in_ok-subject_public_key_info.ensures (c.read_key_info.ensures)) (step (named_read field.Attributes _ c.in_ok-attributes.ensures (c.read_attributes.ensures)) (stop (named_read field.CertificationRequestInfo _ c.in_err-of-2.ensures (end_read c.end.ensures)))))))); shorter = tt })

pub returns : goal.returns
returns c = record { reads = opened_field field.CertificationRequestInfo true 16 _ c.in_ok-fields.ensures c.open_sequence.ensures (λ i. within i (step (named_read field.Version _ c.in_ok-of.ensures (c.read_version.ensures)) (step (named_read field.Subject _ c.in_ok-subject.ensures (c.read_name.ensures)) (step (named_read field.SubjectPublicKeyInfo _ c.in_ok-subject_public_key_info.ensures (c.read_key_info.ensures)) (step (named_read field.Attributes _ c.in_ok-attributes.ensures (c.read_attributes.ensures)) (step (named_read field.CertificationRequestInfo _ c.in_ok-of-2.ensures (end_read c.end.ensures)) (finished refl))))))); shorter = shorter_field field.CertificationRequestInfo true 16 _ _ c.in_ok-fields.ensures c.open_sequence.ensures }

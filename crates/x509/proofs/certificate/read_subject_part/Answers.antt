use Rattle.std.proofs.Common.{refl}
use Rattle.std.proofs.lemmas.Result.{err_from_is_err_and}
use Rattle.x509.specs.declared.error.Field.TheVariants as field
use Rattle.x509.proofs.ReaderLaws.{finished, named_read, step, stop}
use Rattle.x509.proofs.certificate.read_subject_part.Goals as goal

pub returns-in_err-subject : goal.returns-in_err-subject
returns-in_err-subject c =
    let q = err_from_is_err_and c.from_residual.result c.from_residual.ensures.1 in
    rw (q.1, q.2) (stop (named_read field.Subject _ c.in_err-subject.ensures c.read_name.ensures))

pub returns-in_err-subject_public_key_info : goal.returns-in_err-subject_public_key_info
returns-in_err-subject_public_key_info c =
    let q = err_from_is_err_and c.from_residual-in_err-subject_public_key_info.result c.from_residual-in_err-subject_public_key_info.ensures.1 in
    rw (q.1, q.2) (step (named_read field.Subject _ c.in_ok-subject.ensures c.read_name.ensures) (stop (named_read field.SubjectPublicKeyInfo _ c.in_err-subject_public_key_info.ensures c.read_key_info.ensures)))

pub returns-in_err-issuer_unique_id : goal.returns-in_err-issuer_unique_id
returns-in_err-issuer_unique_id c =
    let q = err_from_is_err_and c.from_residual-in_err-issuer_unique_id.result c.from_residual-in_err-issuer_unique_id.ensures.1 in
    rw (q.1, q.2) (step (named_read field.Subject _ c.in_ok-subject.ensures c.read_name.ensures) (step (named_read field.SubjectPublicKeyInfo _ c.in_ok-subject_public_key_info.ensures c.read_key_info.ensures) (stop (named_read field.IssuerUniqueId _ c.in_err-issuer_unique_id.ensures c.read_unique_id.ensures))))

pub returns-in_err-subject_unique_id : goal.returns-in_err-subject_unique_id
returns-in_err-subject_unique_id c =
    let q = err_from_is_err_and c.from_residual-in_err-subject_unique_id.result c.from_residual-in_err-subject_unique_id.ensures.1 in
    rw (q.1, q.2) (step (named_read field.Subject _ c.in_ok-subject.ensures c.read_name.ensures) (step (named_read field.SubjectPublicKeyInfo _ c.in_ok-subject_public_key_info.ensures c.read_key_info.ensures) (step (named_read field.IssuerUniqueId _ c.in_ok-issuer_unique_id.ensures c.read_unique_id.ensures) (stop (named_read field.SubjectUniqueId _ c.in_err-subject_unique_id.ensures c.read_unique_id-2.ensures)))))

pub returns-in_err-extensions : goal.returns-in_err-extensions
returns-in_err-extensions c =
    let q = err_from_is_err_and c.from_residual-in_err-extensions.result c.from_residual-in_err-extensions.ensures.1 in
    rw (q.1, q.2) (step (named_read field.Subject _ c.in_ok-subject.ensures c.read_name.ensures) (step (named_read field.SubjectPublicKeyInfo _ c.in_ok-subject_public_key_info.ensures c.read_key_info.ensures) (step (named_read field.IssuerUniqueId _ c.in_ok-issuer_unique_id.ensures c.read_unique_id.ensures) (step (named_read field.SubjectUniqueId _ c.in_ok-subject_unique_id.ensures c.read_unique_id-2.ensures) (stop (named_read field.Extensions _ c.in_err-extensions.ensures c.read_extensions.ensures))))))

pub returns : goal.returns
returns c = step (named_read field.Subject _ c.in_ok-subject.ensures c.read_name.ensures) (step (named_read field.SubjectPublicKeyInfo _ c.in_ok-subject_public_key_info.ensures c.read_key_info.ensures) (step (named_read field.IssuerUniqueId _ c.in_ok-issuer_unique_id.ensures c.read_unique_id.ensures) (step (named_read field.SubjectUniqueId _ c.in_ok-subject_unique_id.ensures c.read_unique_id-2.ensures) (step (named_read field.Extensions _ c.in_ok-extensions.ensures c.read_extensions.ensures) (finished refl)))))

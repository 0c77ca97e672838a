use Rattle.std.proofs.Common.{true, refl}
use Rattle.std.proofs.lemmas.Result.{err_from_is_err_and}
use Rattle.x509.specs.declared.error.Field.TheVariants as field
use Rattle.x509.specs.Certificates.{issuer_part, issuer_part_of, subject_part, tbs_end}
use Rattle.x509.specs.Formats.{done}
use Rattle.x509.proofs.ReaderLaws.{end_read, finished, joined, named_read, opened_field, shorter_field, step, stop, type_read, within}
use Rattle.x509.proofs.certificate.read_tbs.Goals as goal

pub returns-in_err-fields : goal.returns-in_err-fields
returns-in_err-fields c =
    let q = err_from_is_err_and c.from_residual.result c.from_residual.ensures.1 in
    rw (q.1, q.2) (record { reads = stop (named_read field.TbsCertificate _ c.in_err-fields.ensures (type_read true 16 c.open_sequence.ensures)); shorter = tt })

pub returns-in_err-issuer_part : goal.returns-in_err-issuer_part
returns-in_err-issuer_part c =
    let q = err_from_is_err_and c.from_residual-in_err-issuer_part.result c.from_residual-in_err-issuer_part.ensures.1 in
    rw (q.1, q.2) (record { reads = opened_field field.TbsCertificate true 16 _ c.in_ok-fields.ensures c.open_sequence.ensures (λ i. within i (joined (issuer_part (λ p. done p)) (λ p. subject_part (λ q. tbs_end p q)) (stop c.in_err-issuer_part.ensures))); shorter = tt })

pub returns-in_err-subject_part : goal.returns-in_err-subject_part
returns-in_err-subject_part c =
    let q = err_from_is_err_and c.from_residual-in_err-subject_part.result c.from_residual-in_err-subject_part.ensures.1 in
    rw (q.1, q.2) (record { reads = opened_field field.TbsCertificate true 16 _ c.in_ok-fields.ensures c.open_sequence.ensures (λ i. within i (joined (issuer_part (λ p. done p)) (λ p. subject_part (λ q. tbs_end p q)) (step c.in_ok-issuer_part.ensures (joined (subject_part (λ q. done q)) (λ q. tbs_end (issuer_part_of c.in_ok-issuer_part.issuer_part) q) (stop c.in_err-subject_part.ensures))))); shorter = tt })

pub returns-in_err-of : goal.returns-in_err-of
returns-in_err-of c =
    let q = err_from_is_err_and c.from_residual-in_err-of.result c.from_residual-in_err-of.ensures.1 in
    rw (q.1, q.2) (record { reads = opened_field field.TbsCertificate true 16 _ c.in_ok-fields.ensures c.open_sequence.ensures (λ i. within i (joined (issuer_part (λ p. done p)) (λ p. subject_part (λ q. tbs_end p q)) (step c.in_ok-issuer_part.ensures (joined (subject_part (λ q. done q)) (λ q. tbs_end (issuer_part_of c.in_ok-issuer_part.issuer_part) q) (step c.in_ok-subject_part.ensures (stop (named_read field.TbsCertificate _ c.in_err-of.ensures (end_read c.end.ensures)))))))); shorter = tt })

pub returns : goal.returns
returns c = record { reads = opened_field field.TbsCertificate true 16 _ c.in_ok-fields.ensures c.open_sequence.ensures (λ i. within i (joined (issuer_part (λ p. done p)) (λ p. subject_part (λ q. tbs_end p q)) (step c.in_ok-issuer_part.ensures (joined (subject_part (λ q. done q)) (λ q. tbs_end (issuer_part_of c.in_ok-issuer_part.issuer_part) q) (step c.in_ok-subject_part.ensures (step (named_read field.TbsCertificate _ c.in_ok-of.ensures (end_read c.end.ensures)) (finished refl))))))); shorter = shorter_field field.TbsCertificate true 16 c.in_ok-fields.fields _ c.in_ok-fields.ensures c.open_sequence.ensures }

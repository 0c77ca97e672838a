use Rattle.std.proofs.Common.{true}
use Rattle.std.proofs.lemmas.Result.{err_from_is_err_and}
use Rattle.der_values.specs.Kinds.{bit_strings}
use Rattle.x509.specs.declared.error.Field.TheVariants as field
use Rattle.std.proofs.Common.{◌-◌, length, take}
use Rattle.der_cursor.specs.Cursors.{octets_left}
use Rattle.x509.proofs.CertificateLaws.{tbs_same, tbs_taken}
use Rattle.x509.proofs.ReaderLaws.{end_read, finished, named_read, octets_read, octets_refused, opened_field, step, stop, type_read, value_read, within}
use Rattle.x509.proofs.certificate.read_parts.Goals as goal

pub returns-in_err-parts : goal.returns-in_err-parts
returns-in_err-parts c =
    let q = err_from_is_err_and c.from_residual.result c.from_residual.ensures.1 in
    rw (q.1, q.2) (stop (named_read field.Certificate _ c.in_err-parts.ensures (type_read true 16 c.open_sequence.ensures)))

pub returns-in_err-tbs_certificate : goal.returns-in_err-tbs_certificate
returns-in_err-tbs_certificate c =
    let q = err_from_is_err_and c.from_residual-in_err-tbs_certificate.result c.from_residual-in_err-tbs_certificate.ensures.1 in
    rw (q.1, q.2) (opened_field field.Certificate true 16 _ c.in_ok-parts.ensures c.open_sequence.ensures (λ i. within i (stop (octets_refused c.in_err-tbs_certificate.ensures.reads))))

pub returns-in_err-signature_algorithm : goal.returns-in_err-signature_algorithm
returns-in_err-signature_algorithm c =
    let q = err_from_is_err_and c.from_residual-in_err-signature_algorithm.result c.from_residual-in_err-signature_algorithm.ensures.1 in
    rw (q.1, q.2) (opened_field field.Certificate true 16 _ c.in_ok-parts.ensures c.open_sequence.ensures (λ i. within i (step (octets_read (take (length (octets_left c.in_ok-parts.parts) - length (octets_left c.read_tbs.new.parts)) (octets_left c.in_ok-parts.parts)) c.in_ok-tbs_certificate.ensures.reads (λ s. tbs_taken _ _ _ s)) (stop (named_read field.SignatureAlgorithm _ c.in_err-signature_algorithm.ensures c.read_algorithm.ensures)))))

pub returns-in_err-signature_value : goal.returns-in_err-signature_value
returns-in_err-signature_value c =
    let q = err_from_is_err_and c.from_residual-in_err-signature_value.result c.from_residual-in_err-signature_value.ensures.1 in
    rw (q.1, q.2) (opened_field field.Certificate true 16 _ c.in_ok-parts.ensures c.open_sequence.ensures (λ i. within i (step (octets_read (take (length (octets_left c.in_ok-parts.parts) - length (octets_left c.read_tbs.new.parts)) (octets_left c.in_ok-parts.parts)) c.in_ok-tbs_certificate.ensures.reads (λ s. tbs_taken _ _ _ s)) (step (named_read field.SignatureAlgorithm _ c.in_ok-signature_algorithm.ensures c.read_algorithm.ensures) (stop (named_read field.SignatureValue _ c.in_err-signature_value.ensures (value_read (λ r. bit_strings r) 3 c.bits.ensures)))))))

pub returns-in_err-of : goal.returns-in_err-of
returns-in_err-of c =
    let q = err_from_is_err_and c.from_residual-in_err-of.result c.from_residual-in_err-of.ensures.1 in
    rw (q.1, q.2) (opened_field field.Certificate true 16 _ c.in_ok-parts.ensures c.open_sequence.ensures (λ i. within i (step (octets_read (take (length (octets_left c.in_ok-parts.parts) - length (octets_left c.read_tbs.new.parts)) (octets_left c.in_ok-parts.parts)) c.in_ok-tbs_certificate.ensures.reads (λ s. tbs_taken _ _ _ s)) (step (named_read field.SignatureAlgorithm _ c.in_ok-signature_algorithm.ensures c.read_algorithm.ensures) (step (named_read field.SignatureValue _ c.in_ok-signature_value.ensures (value_read (λ r. bit_strings r) 3 c.bits.ensures)) (stop (named_read field.Certificate _ c.in_err-of.ensures (end_read c.end.ensures))))))))

pub returns : goal.returns
returns c = opened_field field.Certificate true 16 _ c.in_ok-parts.ensures c.open_sequence.ensures (λ i. within i (step (octets_read (take (length (octets_left c.in_ok-parts.parts) - length (octets_left c.read_tbs.new.parts)) (octets_left c.in_ok-parts.parts)) c.in_ok-tbs_certificate.ensures.reads (λ s. tbs_taken _ _ _ s)) (step (named_read field.SignatureAlgorithm _ c.in_ok-signature_algorithm.ensures c.read_algorithm.ensures) (step (named_read field.SignatureValue _ c.in_ok-signature_value.ensures (value_read (λ r. bit_strings r) 3 c.bits.ensures)) (step (named_read field.Certificate _ c.in_ok-of.ensures (end_read c.end.ensures)) (finished (tbs_same _ _ _ _ _ _ _ c.remaining-before.ensures c.remaining.ensures)))))))

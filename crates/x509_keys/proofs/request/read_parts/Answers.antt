use Rattle.std.proofs.Common.{◌-◌, length, take, true}
use Rattle.std.proofs.lemmas.Result.{err_from_is_err_and}
use Rattle.der_cursor.specs.Cursors.{octets_left}
use Rattle.der_values.specs.Kinds.{bit_strings}
use Rattle.x509_keys.specs.declared.request.error.Field.TheVariants as field
use Rattle.x509_keys.proofs.RequestLaws.RequestLaws.{info_same, info_taken, named_read, opened_field}
use Rattle.x509.proofs.ReaderLaws.{end_read, finished, octets_read, octets_refused, step, stop, type_read, value_read, within}
use Rattle.x509_keys.proofs.request.read_parts.Goals as goal

pub returns-in_err-parts : goal.returns-in_err-parts
returns-in_err-parts c =
    let q = err_from_is_err_and c.from_residual.result c.from_residual.ensures.1 in
    rw (q.1, q.2) (stop (named_read field.CertificationRequest _ c.in_err-parts.ensures (type_read true 16 c.open_sequence.ensures)))

pub returns-in_err-info : goal.returns-in_err-info
returns-in_err-info c =
    let q = err_from_is_err_and c.from_residual-in_err-info.result c.from_residual-in_err-info.ensures.1 in
    rw (q.1, q.2) (opened_field field.CertificationRequest true 16 _ c.in_ok-parts.ensures c.open_sequence.ensures (λ i. within i (stop (octets_refused c.in_err-info.ensures.reads))))

pub returns-in_err-signature_algorithm : goal.returns-in_err-signature_algorithm
returns-in_err-signature_algorithm c =
    let q = err_from_is_err_and c.from_residual-in_err-signature_algorithm.result c.from_residual-in_err-signature_algorithm.ensures.1 in
    rw (q.1, q.2) (opened_field field.CertificationRequest true 16 _ c.in_ok-parts.ensures c.open_sequence.ensures (λ i. within i (step (octets_read (take (length (octets_left c.in_ok-parts.parts) - length (octets_left c.read_info.new.parts)) (octets_left c.in_ok-parts.parts)) c.in_ok-info.ensures.reads (λ s. info_taken _ _ _ s)) (stop (named_read field.SignatureAlgorithm _ c.in_err-signature_algorithm.ensures (c.read_algorithm.ensures))))))

pub returns-in_err-signature : goal.returns-in_err-signature
returns-in_err-signature c =
    let q = err_from_is_err_and c.from_residual-in_err-signature.result c.from_residual-in_err-signature.ensures.1 in
    rw (q.1, q.2) (opened_field field.CertificationRequest true 16 _ c.in_ok-parts.ensures c.open_sequence.ensures (λ i. within i (step (octets_read (take (length (octets_left c.in_ok-parts.parts) - length (octets_left c.read_info.new.parts)) (octets_left c.in_ok-parts.parts)) c.in_ok-info.ensures.reads (λ s. info_taken _ _ _ s)) (step (named_read field.SignatureAlgorithm _ c.in_ok-signature_algorithm.ensures (c.read_algorithm.ensures)) (stop (named_read field.Signature _ c.in_err-signature.ensures (value_read (λ r. bit_strings r) 3 c.bits.ensures)))))))

pub returns-in_err-of : goal.returns-in_err-of
returns-in_err-of c =
    let q = err_from_is_err_and c.from_residual-in_err-of.result c.from_residual-in_err-of.ensures.1 in
    rw (q.1, q.2) (opened_field field.CertificationRequest true 16 _ c.in_ok-parts.ensures c.open_sequence.ensures (λ i. within i (step (octets_read (take (length (octets_left c.in_ok-parts.parts) - length (octets_left c.read_info.new.parts)) (octets_left c.in_ok-parts.parts)) c.in_ok-info.ensures.reads (λ s. info_taken _ _ _ s)) (step (named_read field.SignatureAlgorithm _ c.in_ok-signature_algorithm.ensures (c.read_algorithm.ensures)) (step (named_read field.Signature _ c.in_ok-signature.ensures (value_read (λ r. bit_strings r) 3 c.bits.ensures)) (stop (named_read field.CertificationRequest _ c.in_err-of.ensures (end_read c.end.ensures))))))))

pub returns : goal.returns
returns c = opened_field field.CertificationRequest true 16 _ c.in_ok-parts.ensures c.open_sequence.ensures (λ i. within i (step (octets_read (take (length (octets_left c.in_ok-parts.parts) - length (octets_left c.read_info.new.parts)) (octets_left c.in_ok-parts.parts)) c.in_ok-info.ensures.reads (λ s. info_taken _ _ _ s)) (step (named_read field.SignatureAlgorithm _ c.in_ok-signature_algorithm.ensures (c.read_algorithm.ensures)) (step (named_read field.Signature _ c.in_ok-signature.ensures (value_read (λ r. bit_strings r) 3 c.bits.ensures)) (step (named_read field.CertificationRequest _ c.in_ok-of.ensures (end_read c.end.ensures)) (finished (info_same _ _ _ _ _ _ _ c.remaining-before.ensures c.remaining.ensures)))))))

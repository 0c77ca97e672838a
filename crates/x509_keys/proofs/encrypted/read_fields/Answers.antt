use Rattle.std.proofs.Common.{true, refl}
use Rattle.der_values.specs.Kinds.{octet_strings}
use Rattle.x509.proofs.ReaderLaws.{end_read, finished, step, stop, type_read, value_read}
use Rattle.x509_keys.proofs.NameLaws.{in_sequence, named_read, passed}
use Rattle.x509_keys.proofs.encrypted.read_fields.Goals as goal

pub returns-in_err-fields : goal.returns-in_err-fields
returns-in_err-fields c = passed c.from_residual.ensures.1 (stop (named_read _ (type_read true 16 c.open_sequence.ensures) c.in_err-fields.ensures))

pub returns-in_err-algorithm : goal.returns-in_err-algorithm
returns-in_err-algorithm c = passed c.from_residual-in_err-algorithm.ensures.1 (in_sequence _ _ c.open_sequence.ensures c.in_ok-fields.ensures (stop (named_read _ c.read_algorithm.ensures c.in_err-algorithm.ensures)))

pub returns-in_err-encrypted_data : goal.returns-in_err-encrypted_data
returns-in_err-encrypted_data c = passed c.from_residual-in_err-encrypted_data.ensures.1 (in_sequence _ _ c.open_sequence.ensures c.in_ok-fields.ensures (step (named_read _ c.read_algorithm.ensures c.in_ok-algorithm.ensures) (stop (named_read _ (value_read (λ r. octet_strings) 4 c.octets.ensures) c.in_err-encrypted_data.ensures))))

pub returns-in_err-named : goal.returns-in_err-named
returns-in_err-named c = passed c.from_residual-in_err-named.ensures.1 (in_sequence _ _ c.open_sequence.ensures c.in_ok-fields.ensures (step (named_read _ c.read_algorithm.ensures c.in_ok-algorithm.ensures) (step (named_read _ (value_read (λ r. octet_strings) 4 c.octets.ensures) c.in_ok-encrypted_data.ensures) (stop (named_read _ (end_read c.end.ensures) c.in_err-named.ensures)))))

pub returns : goal.returns
returns c = in_sequence _ _ c.open_sequence.ensures c.in_ok-fields.ensures (step (named_read _ c.read_algorithm.ensures c.in_ok-algorithm.ensures) (step (named_read _ (value_read (λ r. octet_strings) 4 c.octets.ensures) c.in_ok-encrypted_data.ensures) (step (named_read _ (end_read c.end.ensures) c.in_ok-named.ensures) (finished refl))))

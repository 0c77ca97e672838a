use Rattle.std.proofs.Common.{true, refl}
use Rattle.der_values.specs.Kinds.{octet_strings}
use Rattle.x509.proofs.ReaderLaws.{end_read, finished, step, stop, type_read, value_read}
use Rattle.x509_keys.proofs.NameLaws.{in_sequence, named_read, passed}
use Rattle.x509_keys.proofs.curve.read_fields.Goals as goal

pub returns-in_err-fields : goal.returns-in_err-fields
returns-in_err-fields c = passed c.from_residual.ensures.1 (stop (named_read _ (type_read true 16 c.open_sequence.ensures) c.in_err-fields.ensures))

pub returns-in_err-version : goal.returns-in_err-version
returns-in_err-version c = passed c.from_residual-in_err-version.ensures.1 (in_sequence _ _ c.open_sequence.ensures c.in_ok-fields.ensures (stop (named_read _ c.read_version.ensures c.in_err-version.ensures)))

pub returns-in_err-private_key : goal.returns-in_err-private_key
returns-in_err-private_key c = passed c.from_residual-in_err-private_key.ensures.1 (in_sequence _ _ c.open_sequence.ensures c.in_ok-fields.ensures (step (named_read _ c.read_version.ensures c.in_ok-version.ensures) (stop (named_read _ (value_read (λ r. octet_strings) 4 c.octets.ensures) c.in_err-private_key.ensures))))

pub returns-in_err-parameters : goal.returns-in_err-parameters
returns-in_err-parameters c = passed c.from_residual-in_err-parameters.ensures.1 (in_sequence _ _ c.open_sequence.ensures c.in_ok-fields.ensures (step (named_read _ c.read_version.ensures c.in_ok-version.ensures) (step (named_read _ (value_read (λ r. octet_strings) 4 c.octets.ensures) c.in_ok-private_key.ensures) (stop (named_read _ c.read_parameters.ensures c.in_err-parameters.ensures)))))

pub returns-in_err-public_key : goal.returns-in_err-public_key
returns-in_err-public_key c = passed c.from_residual-in_err-public_key.ensures.1 (in_sequence _ _ c.open_sequence.ensures c.in_ok-fields.ensures (step (named_read _ c.read_version.ensures c.in_ok-version.ensures) (step (named_read _ (value_read (λ r. octet_strings) 4 c.octets.ensures) c.in_ok-private_key.ensures) (step (named_read _ c.read_parameters.ensures c.in_ok-parameters.ensures) (stop (named_read _ c.read_public_key.ensures c.in_err-public_key.ensures))))))

pub returns-in_err-named : goal.returns-in_err-named
returns-in_err-named c = passed c.from_residual-in_err-named.ensures.1 (in_sequence _ _ c.open_sequence.ensures c.in_ok-fields.ensures (step (named_read _ c.read_version.ensures c.in_ok-version.ensures) (step (named_read _ (value_read (λ r. octet_strings) 4 c.octets.ensures) c.in_ok-private_key.ensures) (step (named_read _ c.read_parameters.ensures c.in_ok-parameters.ensures) (step (named_read _ c.read_public_key.ensures c.in_ok-public_key.ensures) (stop (named_read _ (end_read c.end.ensures) c.in_err-named.ensures)))))))

pub returns : goal.returns
returns c = in_sequence _ _ c.open_sequence.ensures c.in_ok-fields.ensures (step (named_read _ c.read_version.ensures c.in_ok-version.ensures) (step (named_read _ (value_read (λ r. octet_strings) 4 c.octets.ensures) c.in_ok-private_key.ensures) (step (named_read _ c.read_parameters.ensures c.in_ok-parameters.ensures) (step (named_read _ c.read_public_key.ensures c.in_ok-public_key.ensures) (step (named_read _ (end_read c.end.ensures) c.in_ok-named.ensures) (finished refl))))))

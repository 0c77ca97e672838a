use Rattle.std.proofs.Common.{true, refl}
use Rattle.der_values.specs.Kinds.{octet_strings}
use Rattle.x509.proofs.ReaderLaws.{end_read, finished, required_read, required_refused, step, stop, type_read, value_read}
use Rattle.x509_keys.specs.Keys.{bits_of}
use Rattle.x509_keys.proofs.KeyLaws.{has_version, no_version}
use Rattle.x509_keys.proofs.NameLaws.{first_refused, in_sequence, named_read, passed, tag_kept}
use Rattle.x509_keys.proofs.key.read_fields.Goals as goal

pub returns-in_err-fields : goal.returns-in_err-fields
returns-in_err-fields c = passed c.from_residual.ensures.1 (stop (named_read _ (type_read true 16 c.open_sequence.ensures) c.in_err-fields.ensures))

pub returns-in_err-version : goal.returns-in_err-version
returns-in_err-version c = passed c.from_residual-in_err-version.ensures.1 (in_sequence _ _ c.open_sequence.ensures c.in_ok-fields.ensures (required_refused (stop (named_read _ c.read_version.ensures c.in_err-version.ensures))))

pub returns-in_err-algorithm : goal.returns-in_err-algorithm
returns-in_err-algorithm c = passed c.from_residual-in_err-algorithm.ensures.1 (in_sequence _ _ c.open_sequence.ensures c.in_ok-fields.ensures (required_refused (step (named_read _ c.read_version.ensures c.in_ok-version.ensures) (stop (named_read _ c.read_algorithm.ensures c.in_err-algorithm.ensures)))))

pub returns-in_err-private_key : goal.returns-in_err-private_key
returns-in_err-private_key c = passed c.from_residual-in_err-private_key.ensures.1 (in_sequence _ _ c.open_sequence.ensures c.in_ok-fields.ensures (required_refused (step (named_read _ c.read_version.ensures c.in_ok-version.ensures) (step (named_read _ c.read_algorithm.ensures c.in_ok-algorithm.ensures) (stop (named_read _ (value_read (λ r. octet_strings) 4 c.octets.ensures) c.in_err-private_key.ensures))))))

pub returns-in_err-attributes : goal.returns-in_err-attributes
returns-in_err-attributes c = passed c.from_residual-in_err-attributes.ensures.1 (in_sequence _ _ c.open_sequence.ensures c.in_ok-fields.ensures (required_refused (step (named_read _ c.read_version.ensures c.in_ok-version.ensures) (step (named_read _ c.read_algorithm.ensures c.in_ok-algorithm.ensures) (step (named_read _ (value_read (λ r. octet_strings) 4 c.octets.ensures) c.in_ok-private_key.ensures) (stop (named_read _ (tag_kept c.open_tagged.ensures) c.in_err-attributes.ensures)))))))

pub returns-in_err-public_key : goal.returns-in_err-public_key
returns-in_err-public_key c = passed c.from_residual-in_err-public_key.ensures.1 (in_sequence _ _ c.open_sequence.ensures c.in_ok-fields.ensures (required_refused (step (named_read _ c.read_version.ensures c.in_ok-version.ensures) (step (named_read _ c.read_algorithm.ensures c.in_ok-algorithm.ensures) (step (named_read _ (value_read (λ r. octet_strings) 4 c.octets.ensures) c.in_ok-private_key.ensures) (step (named_read _ (tag_kept c.open_tagged.ensures) c.in_ok-attributes.ensures) (stop (named_read _ c.read_public_key.ensures c.in_err-public_key.ensures))))))))

pub returns-in_err-named : goal.returns-in_err-named
returns-in_err-named c = passed c.from_residual-in_err-named.ensures.1 (in_sequence _ _ c.open_sequence.ensures c.in_ok-fields.ensures (required_refused (step (named_read _ c.read_version.ensures c.in_ok-version.ensures) (step (named_read _ c.read_algorithm.ensures c.in_ok-algorithm.ensures) (step (named_read _ (value_read (λ r. octet_strings) 4 c.octets.ensures) c.in_ok-private_key.ensures) (step (named_read _ (tag_kept c.open_tagged.ensures) c.in_ok-attributes.ensures) (step (named_read _ c.read_public_key.ensures c.in_ok-public_key.ensures) (stop (named_read _ (end_read c.end.ensures) c.in_err-named.ensures)))))))))

pub returns : goal.returns
returns c = in_sequence _ _ c.open_sequence.ensures c.in_ok-fields.ensures (required_read (step (named_read _ c.read_version.ensures c.in_ok-version.ensures) (step (named_read _ c.read_algorithm.ensures c.in_ok-algorithm.ensures) (step (named_read _ (value_read (λ r. octet_strings) 4 c.octets.ensures) c.in_ok-private_key.ensures) (step (named_read _ (tag_kept c.open_tagged.ensures) c.in_ok-attributes.ensures) (step (named_read _ c.read_public_key.ensures c.in_ok-public_key.ensures) (step (named_read _ (end_read c.end.ensures) c.in_ok-named.ensures) (finished refl))))))) (has_version bits_of _ c.is_some.ensures c.version_of.ensures c.if-version-version_of.false))

pub returns-then-version-version_of : goal.returns-then-version-version_of
returns-then-version-version_of c = in_sequence _ _ c.open_sequence.ensures c.in_ok-fields.ensures (first_refused _ (step (named_read _ c.read_version.ensures c.in_ok-version.ensures) (step (named_read _ c.read_algorithm.ensures c.in_ok-algorithm.ensures) (step (named_read _ (value_read (λ r. octet_strings) 4 c.octets.ensures) c.in_ok-private_key.ensures) (step (named_read _ (tag_kept c.open_tagged.ensures) c.in_ok-attributes.ensures) (step (named_read _ c.read_public_key.ensures c.in_ok-public_key.ensures) (step (named_read _ (end_read c.end.ensures) c.in_ok-named.ensures) (finished refl))))))) (no_version bits_of _ c.is_some.ensures c.version_of.ensures c.if-version-version_of.true) c.refuse.ensures c.named-then-version-version_of.ensures)

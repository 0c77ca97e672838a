use Rattle.std.proofs.Common.{true, refl}
use Rattle.der_values.specs.Kinds.{identifiers}
use Rattle.x509.proofs.ReaderLaws.{end_read, finished, opened, step, stop, type_read, value_read, within}
use Rattle.x509_keys.proofs.NameLaws.{passed}
use Rattle.x509_keys.proofs.key.read_algorithm.Goals as goal

pub returns-in_err-inside : goal.returns-in_err-inside
returns-in_err-inside c = passed c.from_residual.ensures.1 (stop (type_read true 16 c.in_err-inside.ensures))

pub returns-in_err-identifier : goal.returns-in_err-identifier
returns-in_err-identifier c = passed c.from_residual-in_err-identifier.ensures.1 (opened true 16 c.in_ok-inside.ensures (λ i. within i (stop (value_read (λ r. identifiers) 6 c.in_err-identifier.ensures))))

pub returns-in_err-parameters : goal.returns-in_err-parameters
returns-in_err-parameters c = passed c.from_residual-in_err-parameters.ensures.1 (opened true 16 c.in_ok-inside.ensures (λ i. within i (step (value_read (λ r. identifiers) 6 c.in_ok-identifier.ensures) (stop c.in_err-parameters.ensures))))

pub returns-in_err-end : goal.returns-in_err-end
returns-in_err-end c = passed c.from_residual-in_err-end.ensures.1 (opened true 16 c.in_ok-inside.ensures (λ i. within i (step (value_read (λ r. identifiers) 6 c.in_ok-identifier.ensures) (step c.in_ok-parameters.ensures (stop (end_read c.in_err-end.ensures))))))

pub returns : goal.returns
returns c = opened true 16 c.in_ok-inside.ensures (λ i. within i (step (value_read (λ r. identifiers) 6 c.in_ok-identifier.ensures) (step c.in_ok-parameters.ensures (step (end_read c.in_ok-end.ensures) (finished refl)))))

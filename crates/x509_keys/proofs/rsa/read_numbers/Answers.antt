use Rattle.std.proofs.Common.{true, pos, refl}
use Rattle.der_cursor.specs.Cursors.{octets_left}
use Rattle.x509.specs.Formats.{done}
use Rattle.x509.proofs.ReaderLaws.{end_read, finished, joined, required_read, required_refused, step, stop, type_read}
use Rattle.x509_keys.specs.Keys.{rsa_end, rsa_exponents, rsa_exponents_of, rsa_primes}
use Rattle.x509_keys.proofs.KeyLaws.{has_version, no_version}
use Rattle.x509_keys.proofs.NameLaws.{first_refused, in_sequence, named_read, passed}
use Rattle.x509_keys.proofs.rsa.read_numbers.Goals as goal

pub returns-in_err-numbers : goal.returns-in_err-numbers
returns-in_err-numbers c = passed c.from_residual.ensures.1 (stop (named_read _ (type_read true 16 c.open_sequence.ensures) c.in_err-numbers.ensures))

pub returns-in_err-version : goal.returns-in_err-version
returns-in_err-version c = passed c.from_residual-in_err-version.ensures.1 (in_sequence _ _ c.open_sequence.ensures c.in_ok-numbers.ensures (required_refused (stop (named_read _ c.read_version.ensures c.in_err-version.ensures))))

pub returns-in_err-exponents : goal.returns-in_err-exponents
returns-in_err-exponents c = passed c.from_residual-in_err-exponents.ensures.1 (in_sequence _ _ c.open_sequence.ensures c.in_ok-numbers.ensures (required_refused (step (named_read _ c.read_version.ensures c.in_ok-version.ensures) (joined (rsa_exponents (λ a. done a)) (λ a. rsa_primes (λ b. rsa_end (pos c.in_ok-version.version) a b)) (stop c.in_err-exponents.ensures)))))

pub returns-in_err-primes : goal.returns-in_err-primes
returns-in_err-primes c = passed c.from_residual-in_err-primes.ensures.1 (in_sequence _ _ c.open_sequence.ensures c.in_ok-numbers.ensures (required_refused (step (named_read _ c.read_version.ensures c.in_ok-version.ensures) (joined (rsa_exponents (λ a. done a)) (λ a. rsa_primes (λ b. rsa_end (pos c.in_ok-version.version) a b)) (step c.in_ok-exponents.ensures (joined (rsa_primes (λ b. done b)) (λ b. rsa_end (pos c.in_ok-version.version) (rsa_exponents_of c.in_ok-exponents.exponents) b) (stop c.in_err-primes.ensures)))))))

pub returns-in_err-other_primes : goal.returns-in_err-other_primes
returns-in_err-other_primes c = passed c.from_residual-in_err-other_primes.ensures.1 (in_sequence _ _ c.open_sequence.ensures c.in_ok-numbers.ensures (required_refused (step (named_read _ c.read_version.ensures c.in_ok-version.ensures) (joined (rsa_exponents (λ a. done a)) (λ a. rsa_primes (λ b. rsa_end (pos c.in_ok-version.version) a b)) (step c.in_ok-exponents.ensures (joined (rsa_primes (λ b. done b)) (λ b. rsa_end (pos c.in_ok-version.version) (rsa_exponents_of c.in_ok-exponents.exponents) b) (step c.in_ok-primes.ensures (stop (named_read _ c.open_other_primes.ensures c.in_err-other_primes.ensures)))))))))

pub returns-in_err-named : goal.returns-in_err-named
returns-in_err-named c = passed c.from_residual-in_err-named.ensures.1 (in_sequence _ _ c.open_sequence.ensures c.in_ok-numbers.ensures (required_refused (step (named_read _ c.read_version.ensures c.in_ok-version.ensures) (joined (rsa_exponents (λ a. done a)) (λ a. rsa_primes (λ b. rsa_end (pos c.in_ok-version.version) a b)) (step c.in_ok-exponents.ensures (joined (rsa_primes (λ b. done b)) (λ b. rsa_end (pos c.in_ok-version.version) (rsa_exponents_of c.in_ok-exponents.exponents) b) (step c.in_ok-primes.ensures (step (named_read _ c.open_other_primes.ensures c.in_ok-other_primes.ensures) (stop (named_read _ (end_read c.end.ensures) c.in_err-named.ensures))))))))))

pub returns : goal.returns
returns c = in_sequence _ _ c.open_sequence.ensures c.in_ok-numbers.ensures (required_read (step (named_read _ c.read_version.ensures c.in_ok-version.ensures) (joined (rsa_exponents (λ a. done a)) (λ a. rsa_primes (λ b. rsa_end (pos c.in_ok-version.version) a b)) (step c.in_ok-exponents.ensures (joined (rsa_primes (λ b. done b)) (λ b. rsa_end (pos c.in_ok-version.version) (rsa_exponents_of c.in_ok-exponents.exponents) b) (step c.in_ok-primes.ensures (step (named_read _ c.open_other_primes.ensures c.in_ok-other_primes.ensures) (step (named_read _ (end_read c.end.ensures) c.in_ok-named.ensures) (finished refl)))))))) (has_version octets_left _ c.is_some.ensures c.version_of.ensures c.if-version-version_of.false))

pub returns-then-version-version_of : goal.returns-then-version-version_of
returns-then-version-version_of c = in_sequence _ _ c.open_sequence.ensures c.in_ok-numbers.ensures (first_refused _ (step (named_read _ c.read_version.ensures c.in_ok-version.ensures) (joined (rsa_exponents (λ a. done a)) (λ a. rsa_primes (λ b. rsa_end (pos c.in_ok-version.version) a b)) (step c.in_ok-exponents.ensures (joined (rsa_primes (λ b. done b)) (λ b. rsa_end (pos c.in_ok-version.version) (rsa_exponents_of c.in_ok-exponents.exponents) b) (step c.in_ok-primes.ensures (step (named_read _ c.open_other_primes.ensures c.in_ok-other_primes.ensures) (step (named_read _ (end_read c.end.ensures) c.in_ok-named.ensures) (finished refl)))))))) (no_version octets_left _ c.is_some.ensures c.version_of.ensures c.if-version-version_of.true) c.refuse.ensures c.named-then-version-version_of.ensures)

use Rattle.x509_keys.proofs.KeyLaws.{public_exact}
use Rattle.x509_keys.proofs.NameLaws.{input_left, input_read, input_stops}
use Rattle.x509_keys.proofs.public.read_public_key.Goals as goal

pub returns-in_err-key : goal.returns-in_err-key
returns-in_err-key c = input_stops public_exact c.new-input.ensures c.in_err-key.ensures c.from_residual.ensures.1

pub returns-in_err-named : goal.returns-in_err-named
returns-in_err-named c = input_left public_exact c.new-input.ensures _ _ _ c.in_ok-key.ensures c.end.ensures c.in_err-named.ensures c.from_residual-in_err-named.ensures.1

pub returns : goal.returns
returns c = input_read public_exact c.new-input.ensures _ _ c.in_ok-key.ensures c.end.ensures c.in_ok-named.ensures

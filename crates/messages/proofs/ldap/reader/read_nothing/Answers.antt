use Rattle.std.proofs.Common.{refl}
use Rattle.der_cursor.specs.Formats.{Others}
use Rattle.der_cursor.proofs.Sequences.{content_named_in, finish_with, start_as, stops_with}
use Rattle.messages.proofs.ldap.reader.read_nothing.Goals as goal

pub returns-in_err-named : goal.returns-in_err-named
returns-in_err-named c = λ fresh. stops_with _ (start_as _ c.args.list fresh) (content_named_in _ Others c.args.list c.pass_over.ensures c.in_err-named.ensures) c.from_residual.ensures.1

pub returns : goal.returns
returns c = λ fresh. finish_with (start_as _ c.args.list fresh) (content_named_in _ Others c.args.list c.pass_over.ensures c.in_ok-named.ensures) refl

use Rattle.std.proofs.Common.{refl}
use Rattle.x509_keys.proofs.RequestLaws.RequestLaws.{any_exact}
use Rattle.x509.proofs.ListLaws.{no_item}
use Rattle.x509_keys.proofs.request.lists.ValueIterIterator.next.Goals as goal

pub returns-in_default-clause-steps : goal.returns-in_default-clause-steps
returns-in_default-clause-steps c = (no_item any_exact c.new-list.ensures c.in_default.ensures.reads, refl)

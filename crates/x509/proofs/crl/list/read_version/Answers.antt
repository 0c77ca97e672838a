use Rattle.std.proofs.Common.{rules}
use Rattle.x509.proofs.ReaderLaws.{first}
use Rattle.x509.proofs.crl.list.read_version.Goals as goal

pub returns : goal.returns
returns c = first (search rules) c.read_second_version.ensures

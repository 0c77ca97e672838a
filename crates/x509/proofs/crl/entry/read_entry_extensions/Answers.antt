use Rattle.std.proofs.Common.{rules}
use Rattle.x509.proofs.ReaderLaws.{first}
use Rattle.x509.proofs.crl.entry.read_entry_extensions.Goals as goal

pub returns : goal.returns
returns c = first (search rules) c.read_extension_list.ensures

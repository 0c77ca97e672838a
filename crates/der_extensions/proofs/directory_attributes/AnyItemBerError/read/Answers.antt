use Rattle.der_cursor.proofs.FormatLaws.{any_read}
use Rattle.der_extensions.proofs.directory_attributes.AnyItemBerError.read.Goals as goal

pub returns : goal.returns
returns c = any_read c.any.ensures

use Rattle.der_cursor.proofs.FormatLaws.{inside}
use Rattle.der_cursor.proofs.Sequences.{refused_open}
use Rattle.der_extensions.proofs.timestamps.read_timestamps.Goals as goal

pub returns-in_err-content : goal.returns-in_err-content
returns-in_err-content c = refused_open _ _ c.in_err-content.ensures c.from_residual.ensures.1

pub returns : goal.returns
returns c = inside _ _ c.in_ok-content.ensures c.read_content.ensures

use Rattle.std.proofs.Common.{sym}
use Rattle.dumarewhi_c.proofs.error_text.dm_found_text.Goals as goal

pub returns : goal.returns
returns c = (c.as_bytes-2.result.now, rw (sym c.if-is_pem.ensures) c.put_text-2.ensures)

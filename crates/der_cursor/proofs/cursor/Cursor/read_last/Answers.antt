use Rattle.std.proofs.Common.{inr}
use Rattle.der_cursor.proofs.cursor.Cursor.read_last.Goals as goal

pub returns-in-Ok : goal.returns-in-Ok
returns-in-Ok g c = inr (c.in-Ok.value, c.read.new.self, c.in-Ok.ensures, c.last.ensures)

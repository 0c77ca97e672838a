use Rattle.std.proofs.Common.{refl}
use Rattle.der_cursor.proofs.CursorLaws.{refused_inside}
use Rattle.der_cursor.proofs.cursor.Cursor.find_any.Goals as goal

pub returns-in-Err : goal.returns-in-Err
returns-in-Err c =
    rw c.refused.ensures (refused_inside _ _ _ c.args.self.now c.in-Err.reason c.refuse_cut_item.result c.if-self.true c.in-Err.ensures.exactly.found c.refuse_cut_item.ensures, refl)

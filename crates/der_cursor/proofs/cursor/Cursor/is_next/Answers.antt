use Rattle.std.proofs.Common.{sym, arith}
use Rattle.std.proofs.lemmas.Bool.{false≢true}
use Rattle.der_cursor.specs.Cursors.{octets_left}
use Rattle.der_cursor.proofs.NextLaws.{next_by_first, none_is_next}
use Rattle.der_cursor.proofs.cursor.Cursor.is_next.Goals as goal

pub returns-in-Some : goal.returns-in-Some
returns-in-Some c =
    let by = next_by_first c.args.class c.args.tag.0 c.in-Some.octet.now (octets_left c.args.self.now) (omega arith) (omega arith) (sym c.in-Some.ensures.value) in
    ((λ t. by.0 (c.is_identifier.ensures.0 t)), (λ n. c.is_identifier.ensures.1 (by.1 n)))

pub returns-in-None : goal.returns-in-None
returns-in-None c =
    ((λ t. absurd (false≢true t)), (λ n. absurd (none_is_next c.args.class c.args.tag.0 (octets_left c.args.self.now) (omega arith) (sym c.in-None.ensures.value) n)))

use Rattle.std.proofs.Common.{rules}
use Rattle.std.proofs.lemmas.Result.{err_from_is_err_and}
use Rattle.der_cursor.specs.Formats.{Constructed}
use Rattle.der_cursor.proofs.FormatLaws.{is_read, is_refused, not_next}
use Rattle.der_extensions.specs.Lists.{SomeOf, list_octets}
use Rattle.der_extensions.proofs.list.read_optional.Goals as goal

pub returns-in_err-list : goal.returns-in_err-list
returns-in_err-list g c =
    let q = err_from_is_err_and c.from_residual.result c.from_residual.ensures.1 in
    rw (q.1, q.2) (is_refused (Constructed c.args.class c.args.tag.0 (SomeOf g.T.Item.field)) (search rules) c.in_err-list.ensures)

pub returns-then-not-is_next : goal.returns-then-not-is_next
returns-then-not-is_next g c = not_next (Constructed c.args.class c.args.tag.0 (SomeOf g.T.Item.field)) {view = list_octets} (search rules)

pub returns : goal.returns
returns g c = is_read (Constructed c.args.class c.args.tag.0 (SomeOf g.T.Item.field)) (search rules) c.in_ok-list.ensures

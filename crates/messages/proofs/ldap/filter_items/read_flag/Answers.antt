use Rattle.std.proofs.Common.{rules, sym}
use Rattle.std.proofs.lemmas.Iterator.Adapters.{option_map_id}
use Rattle.der_cursor.proofs.FieldLaws.{viewed}
use Rattle.der_cursor.proofs.FormatLaws.{implicit_optional_read, returned}
use Rattle.messages.proofs.ldap.filter_items.read_flag.Goals as goal

pub returns : goal.returns
returns c = viewed _ (λ x. sym (option_map_id x)) (returned (implicit_optional_read _ 1 c.implicit.ensures.tagged c.optional_boolean.ensures) (search rules))

use Rattle.std.proofs.Common.{rules}
use Rattle.der_base.specs.Numbers.{unsigned}
use Rattle.der_values.specs.Kinds.{numbers}
use Rattle.der_cursor.proofs.FormatLaws.{implicit_optional_read, returned}
use Rattle.der_extensions.proofs.policy_constraints.read_number.Goals as goal

pub returns : goal.returns
returns c = returned (implicit_optional_read (λ r. numbers r (unsigned 32)) 2 c.implicit.ensures.tagged c.optional_u32.ensures) (search rules)

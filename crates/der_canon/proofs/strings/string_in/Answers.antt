use Rattle.std.proofs.Common.{refl, sym, ◌∙◌}
use Rattle.der_canon.proofs.strings.string_in.Goals as goal

pub returns-then-is_in_parts : goal.returns-then-is_in_parts
returns-then-is_in_parts c = (sym c.is_in_parts.ensures ∙ c.if-is_in_parts.true, refl, refl)

pub returns-else-is_in_parts : goal.returns-else-is_in_parts
returns-else-is_in_parts c = sym c.is_in_parts.ensures ∙ c.if-is_in_parts.false

use Rattle.std.proofs.Common.{sym, subst, ◌∙◌}
use Rattle.der_elements.specs.Walked.{visited_of}
use Rattle.der_canon.specs.Writing.{Puts}
use Rattle.der_canon.proofs.Puts.{other_identifier, string_identifier}
use Rattle.der_canon.proofs.writer.Writer.put_identifier.Goals as goal

pub returns-then-is_in_parts : goal.returns-then-is_in_parts
returns-then-is_in_parts c =
    subst (λ z. Puts z c.args.self.now c.args.out.now c.put.new.self c.put.new.out)
    (string_identifier (visited_of c.args.element.now) (sym c.is_in_parts.ensures ∙ c.if-is_in_parts.true)) c.put.ensures

pub returns-else-is_in_parts : goal.returns-else-is_in_parts
returns-else-is_in_parts c =
    subst (λ z. Puts z c.args.self.now c.args.out.now c.put-else-is_in_parts.new.self c.put-else-is_in_parts.new.out)
    (other_identifier c.args.element.now c.requires.found c.requires.constructed (sym c.is_in_parts.ensures ∙ c.if-is_in_parts.false)) c.put-else-is_in_parts.ensures

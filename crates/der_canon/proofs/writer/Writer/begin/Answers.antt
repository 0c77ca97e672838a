use Rattle.std.proofs.Common.{[], ◌∷◌, ◌++◌, length, not, ap, sym, subst, ◌∙◌, arith}
use Rattle.der_base.specs.Octets.{identifier}
use Rattle.der_elements.specs.Walked.{visited_of}
use Rattle.der_canon.specs.Same.{is_in_parts}
use Rattle.der_canon.specs.Writing.{HasWritten}
use Rattle.der_canon.proofs.Buffers.{written_more}
use Rattle.der_canon.proofs.Puts.{bits_start, other_start}
use Rattle.der_canon.proofs.writer.Writer.begin.Goals as goal

pub begin_content-requires : goal.begin_content-requires
begin_content-requires c = omega (arith, c.requires.room, ap (λ v. length v.items) c.put_identifier.ensures.starts)

pub returns-then-is_bits_in_parts-clause-begun : goal.returns-then-is_bits_in_parts-clause-begun
returns-then-is_bits_in_parts-clause-begun c = λ xs x h.
    let v = visited_of c.args.element.now in
    let front = x ++ identifier v.class (not (is_in_parts v)) v.number in
    let around = c.begin_content.ensures.begun xs front (written_more xs x _ _ _ _ _ h c.put_identifier.ensures) in
    subst (λ z. HasWritten (front ∷ xs) z c.put.new.self c.put.new.out) (bits_start v (sym c.is_bits_in_parts.ensures ∙ c.if-is_bits_in_parts.true))
    (written_more (front ∷ xs) [] (0 ∷ []) _ _ _ _ around c.put.ensures)

pub returns-else-is_bits_in_parts-clause-begun : goal.returns-else-is_bits_in_parts-clause-begun
returns-else-is_bits_in_parts-clause-begun c = λ xs x h.
    let v = visited_of c.args.element.now in
    let front = x ++ identifier v.class (not (is_in_parts v)) v.number in
    subst (λ z. HasWritten (front ∷ xs) z c.begin_content.new.self c.begin_content.new.out) (other_start v (sym c.is_bits_in_parts.ensures ∙ c.if-is_bits_in_parts.false))
    (c.begin_content.ensures.begun xs front (written_more xs x _ _ _ _ _ h c.put_identifier.ensures))

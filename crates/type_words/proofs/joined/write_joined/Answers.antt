use Rattle.std.proofs.Common.{◌<◌, false, [], ◌∷◌, ◌++◌, Some, None, ap, arith, refl, ◌∙◌}
use Rattle.std.proofs.Output.{has_written_append, writes_in_calls_nil}
use Rattle.der_base.specs.declared.rules.Rules.TheVariants.{Ber}
use Rattle.der_elements.specs.Walked.{index_in, visited_of}
use Rattle.type_words.specs.Counts.{values_kept}
use Rattle.type_words.specs.Joined.{inner, no_texts, outermost, part_text}
use Rattle.type_words.proofs.joined.write_joined.Goals as goal

pub elements-init : goal.elements-init
elements-init g c = record {
  visited = (
    [],
    c.keeping_values-walk.ensures (record { enters_strings = false; keeps_values = false }) Ber c.args.octets.now c.new.ensures,
    λ plain. ([], no_texts refl refl, record { wrote = writes_in_calls_nil _ _; plain = plain }),
  );
}

pub elements-preserved-then-element-eq0 : goal.elements-preserved-then-element-eq0
elements-preserved-then-element-eq0 g c =
    let p = c.elements.invariant.visited in
    let v = visited_of c.in-Ok-Some.element in
    let next = rw c.in-Ok-Some.field-0-is at (c.in-Ok-Some.ensures.visits values_kept Ber c.args.octets.now p.0 p.1) in
    let first = next.2 ∙ ap (λ k. index_in k p.0) c.if-element-eq0.true in
    record {
      visited = (
        p.0 ++ v ∷ [],
        next.0,
        λ plain.
            let done = p.2 plain in
            let part = c.in_ok-write_part-in-Ok-Some.ensures done.2.plain refl in (
              done.0 ++ _,
              outermost p.0 v done.0 refl done.1 c.if-element-eq0.true
                  (ap (λ z. done.0 ++ z) (ap (λ n. part_text n c.content_of-text.result.now) first ∙ ap (part_text (index_in 0 p.0)) c.content_of-text.ensures)),
              has_written_append _ _ _ _ _ _ done.2 part,
            ),
      );
    }

pub elements-preserved : goal.elements-preserved
elements-preserved g c =
    let p = c.elements.invariant.visited in
    let v = visited_of c.in-Ok-Some.element in
    let next = rw c.in-Ok-Some.field-0-is at (c.in-Ok-Some.ensures.visits values_kept Ber c.args.octets.now p.0 p.1) in
    let deep : 0 < v.depth = omega (arith, c.if-element-eq0.false) in
    record {
      visited = (
        p.0 ++ v ∷ [],
        next.0,
        λ plain. let done = p.2 plain in (done.0, inner p.0 v refl done.1 deep, done.2),
      );
    }

pub returns-in-Ok-None : goal.returns-in-Ok-None
returns-in-Ok-None g c =
    let p = c.elements.invariant.visited in
    let all = rw c.in-Ok-None.field-0-is at (c.in-Ok-None.ensures.visits values_kept Ber c.args.octets.now p.0 p.1) in
    λ plain ok. let done = p.2 plain in (done.0, (p.0, None, all, done.1), done.2)

pub returns-in-Err : goal.returns-in-Err
returns-in-Err g c =
    let p = c.elements.invariant.visited in
    let refused = c.in-Err.ensures.visits values_kept Ber c.args.octets.now p.0 p.1 in
    λ plain ok. let done = p.2 plain in (done.0, (p.0, Some c.in-Err.field-0, (refused.never, (_, refused.first)), done.1), done.2)

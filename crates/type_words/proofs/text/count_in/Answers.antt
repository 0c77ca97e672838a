use Rattle.std.proofs.Common.{◌<◌, false, Some, None, [], ◌∷◌, ◌++◌, arith, length-append, sym, ◌∙◌}
use Rattle.std.proofs.lemmas.List.{nil_from_length}
use Rattle.der_base.specs.declared.rules.Rules.TheVariants.{Ber}
use Rattle.der_elements.specs.Walked.{visited_of}
use Rattle.der_elements.proofs.Counts.{index_around, index_few, index_none, index_same}
use Rattle.der_elements.proofs.Steps.{within}
use Rattle.type_words.specs.Counts.{values_kept}
use Rattle.type_words.proofs.CountLaws.{none_visited}
use Rattle.type_words.proofs.text.count_in.Goals as goal

pub elements-init : goal.elements-init
elements-init c = record {
  so = record {
    elements = [];
    visited = c.keeping_values-walk.ensures (record { enters_strings = false; keeps_values = false }) Ber c.args.octets.now c.new.ensures;
    counts = sym (index_none 0);
  };
}

pub overflow_add-count : goal.overflow_add-count
overflow_add-count c =
    let p = c.elements.invariant.so in
    let v = visited_of c.in-Ok-Some.element in
    let next = rw c.in-Ok-Some.field-0-is at (c.in-Ok-Some.ensures.visits values_kept Ber c.args.octets.now p.elements p.visited) in
    let few = index_few 0 p.elements in
    let all = length-append p.elements (v ∷ []) in
    let ends = within next.0.walked in
    omega (arith, few, all, ends.0, next.0.few, p.counts, c.size_of.ensures.fits)

pub elements-preserved-then-element-eq0 : goal.elements-preserved-then-element-eq0
elements-preserved-then-element-eq0 c =
    let p = c.elements.invariant.so in
    let v = visited_of c.in-Ok-Some.element in
    let next = rw c.in-Ok-Some.field-0-is at (c.in-Ok-Some.ensures.visits values_kept Ber c.args.octets.now p.elements p.visited) in
    record { so = record { elements = p.elements ++ v ∷ []; visited = next.0; counts = omega (arith, p.counts, index_same 0 p.elements v c.if-element-eq0.true) } }

pub elements-preserved : goal.elements-preserved
elements-preserved c =
    let p = c.elements.invariant.so in
    let v = visited_of c.in-Ok-Some.element in
    let next = rw c.in-Ok-Some.field-0-is at (c.in-Ok-Some.ensures.visits values_kept Ber c.args.octets.now p.elements p.visited) in
    let deep : 0 < v.depth = omega (arith, c.if-element-eq0.false) in
    record {
      so = record {
        elements = p.elements ++ v ∷ [];
        visited = next.0;
        counts = p.counts ∙ sym (index_around 0 p.elements v deep);
      };
    }

pub returns-in-Ok-None : goal.returns-in-Ok-None
returns-in-Ok-None c =
    let p = c.elements.invariant.so in
    let all = rw c.in-Ok-None.field-0-is at (c.in-Ok-None.ensures.visits values_kept Ber c.args.octets.now p.elements p.visited) in
    (p.elements, None, all, p.counts)

pub returns-in-Err : goal.returns-in-Err
returns-in-Err c =
    let p = c.elements.invariant.so in
    let refused = c.in-Err.ensures.visits values_kept Ber c.args.octets.now p.elements p.visited in
    (p.elements, Some c.in-Err.field-0, (refused.never, (_, refused.first)), p.counts)

pub returns-then-size_of-eq0 : goal.returns-then-size_of-eq0
returns-then-size_of-eq0 c =
    let none = nil_from_length c.args.octets.now (sym c.size_of.ensures.size ∙ c.if-size_of-eq0.true) in
    ([], None, none_visited values_kept c.args.octets.now none, sym (index_none 0))

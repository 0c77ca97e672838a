use Rattle.std.proofs.Common.{◌≡◌, Bool, false, true, List, [], ◌∷◌, ◌++◌, append-nil, Some, None, ap, arith, map, sym, ◌∙◌}
use Rattle.std.specs.Prelude.{◌==◌, if◌then◌else◌, ℕ}
use Rattle.std.specs.List.{flat_map}
use Rattle.std.proofs.lemmas.Bool.Decides.{nat_tests}
use Rattle.std.proofs.lemmas.Grind.{flat_map-append}
use Rattle.std.proofs.lemmas.List.{map-append}
use Rattle.serde_json.specs.View.{view}
use Rattle.der_base.specs.declared.rules.Rules.TheVariants.{Ber}
use Rattle.der_elements.specs.Visits.{Visited}
use Rattle.der_elements.specs.Walked.{visited_of}
use Rattle.text_json.specs.Shown.Items.{part, text_data}
use Rattle.type_words.specs.Counts.{values_kept}
use Rattle.type_words.specs.Items.{content_in}
use Rattle.text_json.proofs.shown.typed.parts.Goals as goal

one_part : (w : List ℕ) (v : Visited) (b : Bool) → (v.depth == 0) ≡ b
    → part w v ≡ (if b then text_data (content_in w v) ∷ [] else [])
one_part w v b e = ap (λ x. if x then text_data (content_in w v) ∷ [] else []) e

-- the parts of one more element
more : (w : List ℕ) (vs : List Visited) (v : Visited) → flat_map (part w) (vs ++ v ∷ []) ≡ flat_map (part w) vs ++ part w v
more w vs v = flat_map-append (part w) vs (v ∷ []) ∙ ap (λ ds. flat_map (part w) vs ++ ds) (append-nil (part w v))

pub elements-init : goal.elements-init
elements-init c = record {
  visited = (
    [],
    c.keeping_values-walk.ensures (record { enters_strings = false; keeps_values = false }) Ber c.args.octets.now c.new.ensures,
    ap (map view) c.new-parts.ensures.items,
  );
}

pub elements-preserved-then-element-eq0 : goal.elements-preserved-then-element-eq0
elements-preserved-then-element-eq0 c =
    let p = c.elements.invariant.visited in
    let w = c.args.octets.now in
    let v = visited_of c.in-Ok-Some.element in
    let next = rw c.in-Ok-Some.field-0-is at (c.in-Ok-Some.ensures.visits values_kept Ber w p.0 p.1) in
    let outermost : (v.depth == 0) ≡ true = grind (arith, nat_tests, c.if-element-eq0.true) in
    let text = c.in_ok-text-in-Ok-Some.ensures ∙ ap text_data c.content_of-part.ensures in
    record {
      visited = (
        p.0 ++ v ∷ [],
        next.0,
        ap (map view) c.in_ok-push-in-Ok-Some.ensures.items ∙ map-append view _ (_ ∷ []) ∙ ap (λ d. map view c.elements.parts.items ++ d ∷ []) text
            ∙ ap (λ ds. ds ++ text_data (content_in w v) ∷ []) p.2
            ∙ sym (more w p.0 v ∙ ap (λ ds. flat_map (part w) p.0 ++ ds) (one_part w v true outermost)),
      );
    }

pub elements-preserved : goal.elements-preserved
elements-preserved c =
    let p = c.elements.invariant.visited in
    let w = c.args.octets.now in
    let v = visited_of c.in-Ok-Some.element in
    let next = rw c.in-Ok-Some.field-0-is at (c.in-Ok-Some.ensures.visits values_kept Ber w p.0 p.1) in
    let inner : (v.depth == 0) ≡ false = grind (arith, nat_tests, c.if-element-eq0.false) in
    record {
      visited = (
        p.0 ++ v ∷ [],
        next.0,
        p.2 ∙ sym (more w p.0 v ∙ ap (λ ds. flat_map (part w) p.0 ++ ds) (one_part w v false inner) ∙ append-nil (flat_map (part w) p.0)),
      );
    }

pub returns-in-Ok-None : goal.returns-in-Ok-None
returns-in-Ok-None c =
    let p = c.elements.invariant.visited in
    let all = rw c.in-Ok-None.field-0-is at (c.in-Ok-None.ensures.visits values_kept Ber c.args.octets.now p.0 p.1) in
    (p.0, None, all, p.2)

pub returns-in-Err : goal.returns-in-Err
returns-in-Err c =
    let p = c.elements.invariant.visited in
    let refused = c.in-Err.ensures.visits values_kept Ber c.args.octets.now p.0 p.1 in
    (p.0, Some c.in-Err.field-0, (refused.never, (_, refused.first)), p.2)

use Rattle.std.proofs.Common.{◌∙◌, ap, sym, subst, arith, length, length-append, refl}
use Rattle.std.specs.Prelude.{◌∷◌}
use Rattle.der_elements.specs.Ends.{end_in, IsEndOf}
use Rattle.der_elements.proofs.Counts.{index_none}
use Rattle.der_elements.proofs.Walks.{first_walked}
use Rattle.der_elements.proofs.walk.Walk.new.Goals as goal

pub returns : goal.returns
returns c =
    let i = c.args.input.now in
    let o = c.of_input.result in
    record {
      input = refl;
      enters = refl;
      keeps = refl;
      depth = 101;
      walked = first_walked _ c.args.rules i c.new.result.items o.rules (end_in (length i) o.end) o.has_marker 0 c.new.ensures (ap (λ z. z.rules) c.of_input.ensures) (ap (λ z. end_in (length i) z.end) c.of_input.ensures) (ap (λ z. z.has_marker) c.of_input.ensures) refl;
      counts = ap (λ z. z.visited) c.of_input.ensures ∙ sym (index_none (length c.new.result.items));
      counts_around = λ outer inner p q. absurd (omega (arith, ap length (sym c.new.ensures ∙ q), length-append outer (p ∷ inner)));
      end = subst (λ z. IsEndOf (length i) z) (sym (ap (λ z. z.end) c.of_input.ensures)) tt;
      ends_around = λ outer inner p q. absurd (omega (arith, ap length (sym c.new.ensures ∙ q), length-append outer (p ∷ inner)));
      few = omega arith;
    }

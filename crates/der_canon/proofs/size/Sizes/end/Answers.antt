use Rattle.std.proofs.Common.{◌≡◌, ◌+◌, ◌≤◌, [], ◌∷◌, ◌++◌, length, length-append, refl, ap, subst, ◌∙◌, arith}
use Rattle.der_canon.specs.Sizes.{Ends, close, stay, with_length}
use Rattle.der_canon.proofs.Costs.{push_parts}
use Rattle.der_canon.proofs.size.Sizes.end.Goals as goal

pub ending-preserved : goal.ending-preserved
ending-preserved c =
    let around = c.pop.new.self.items in
    let outer = c.in_ok-outer.outer in
    let parts : c.ending.self.around.items ≡ around ++ outer ∷ [] = c.in_ok-outer.ensures.items in
    let inside : c.args.depth ≤ length around = omega (arith, ap length parts, length-append around (outer ∷ []), c.len.ensures.value) in
    let more : c.in_ok-self.field-0 ≡ outer + with_length c.ending.self.here = c.in_ok-self.ensures.1 ∙ ap (λ k. outer + k) c.in_ok-with_length.ensures.size in
    let sums = push_parts c.ending.self.around.items around outer parts in (
      λ ms m h. c.ending.invariant.0 ms m (close around outer parts inside (subst (λ k. Ends c.args.depth around k ms m) more h)),
      omega (arith, c.ending.invariant.1, sums.0, sums.1, c.in_ok-self.ensures.1, c.in_ok-with_length.ensures.most),
    )

pub returns-clause-ends : goal.returns-clause-ends
returns-clause-ends c =
    let few : length c.ending.self.around.items ≤ c.args.depth = omega (arith, c.len.ensures.value) in
    c.ending.invariant.0 c.ending.self.around.items c.ending.self.here (stay few refl refl)

pub returns-clause-around : goal.returns-clause-around
returns-clause-around c = omega (arith, c.len.ensures.value)

pub returns-clause-most : goal.returns-clause-most
returns-clause-most c = c.ending.invariant.1

pub returns-in_err-with_length-clause-most : goal.returns-in_err-with_length-clause-most
returns-in_err-with_length-clause-most c =
    let sums = push_parts c.ending.self.around.items c.pop.new.self.items c.in_ok-outer.outer c.in_ok-outer.ensures.items in
    rw c.from_residual-in_err-with_length.ensures (omega (arith, c.ending.invariant.1, sums.0, sums.1, c.in_err-with_length.ensures.most))

pub returns-in_err-self-clause-most : goal.returns-in_err-self-clause-most
returns-in_err-self-clause-most c =
    let sums = push_parts c.ending.self.around.items c.pop.new.self.items c.in_ok-outer.outer c.in_ok-outer.ensures.items in
    rw c.from_residual-in_err-self.ensures (omega (arith, c.ending.invariant.1, sums.0, sums.1, c.in_err-self.ensures))

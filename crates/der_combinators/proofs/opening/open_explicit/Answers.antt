use Rattle.std.proofs.Common.{ap, sym, ◌∙◌}
use Rattle.der_base.specs.Refusal.{refusal}
use Rattle.der_base.specs.Containers.{unopened, universal, other_number, primitive}
use Rattle.der_combinators.proofs.opening.open_explicit.Goals as goal

pub returns-in-Err-clause-err : goal.returns-in-Err-clause-err
returns-in-Err-clause-err g c = unopened c.in-Err.ensures.err

pub returns-in-Universal-clause-err : goal.returns-in-Universal-clause-err
returns-in-Universal-clause-err g c =
    let x = c.in-Ok.parts in
    universal x.0 x.1.now x.2.now c.in-Ok.ensures.ok (sym c.class.ensures ∙ c.in-Universal.is) (ap refusal c.unexpected_class.ensures) c.from.ensures

pub returns-in-Err-assert_tag : goal.returns-in-Err-assert_tag
returns-in-Err-assert_tag g c =
    let x = c.in-Ok.parts in
    let e = c.in-Err-assert_tag.ensures in
    record {
      ok = tt;
      err = other_number x.0 x.1.now x.2.now c.in-Ok.ensures.ok (λ q. c.in_default.not-Universal (c.class.ensures ∙ q)) e.0 e.1 c.from-in-Err-assert_tag.ensures;
    }

pub returns-in-Err-assert_constructed : goal.returns-in-Err-assert_constructed
returns-in-Err-assert_constructed g c =
    let x = c.in-Ok.parts in
    let e = c.in-Err-assert_constructed.ensures in
    record {
      ok = tt;
      err = primitive x.0 x.1.now x.2.now c.in-Ok.ensures.ok (λ q. c.in_default.not-Universal (c.class.ensures ∙ q)) c.in-Ok-assert_tag.ensures e.0 e.1 c.from-in-Err-assert_constructed.ensures;
    }

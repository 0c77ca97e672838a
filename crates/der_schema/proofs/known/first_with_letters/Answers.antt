use Rattle.std.proofs.Common.{◌≡◌, false, refl, true}
use Rattle.der_schema.specs.declared.known.KnownType.{KnownType}
use Rattle.der_schema.proofs.OfType.{found_first, searched_one}
use Rattle.der_schema.specs.Known.{SameLetters}
use Rattle.der_schema.proofs.known.first_with_letters.Goals as goal

no_truth : {P : Type 0} → false ≡ true → P
no_truth e = cc

pub loop-one-preserved : goal.loop-one-preserved
loop-one-preserved c =
    searched_one (λ (k : KnownType). SameLetters k.name.now c.args.name.now) c.args.known.now c.loop-one.ahead.now c.in-Some.rest.now c.in-Some.one.now
    c.loop-one.invariant c.in-Some.ensures.cases.0 (λ same. no_truth (c.if-eq_ignore_ascii_case.ensures.test.1 same))

pub returns-then-eq_ignore_ascii_case : goal.returns-then-eq_ignore_ascii_case
returns-then-eq_ignore_ascii_case c = (
  c.in-Some.one.now,
  found_first (λ (k : KnownType). SameLetters k.name.now c.args.name.now) c.args.known.now c.loop-one.ahead.now c.in-Some.rest.now c.in-Some.one.now
      c.loop-one.invariant c.in-Some.ensures.cases.0 (c.if-eq_ignore_ascii_case.ensures.test.0 refl),
  c.schema_of.ensures,
)

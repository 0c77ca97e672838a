use Rattle.std.proofs.Common.{◌≡◌}
use Rattle.std.specs.Cmp.Lexicographic.{other_text, same_text}
use Rattle.der_schema.specs.declared.known.KnownType.{KnownType}
use Rattle.der_schema.proofs.OfType.{found_first, searched_one}
use Rattle.der_schema.proofs.known.first_named.Goals as goal

pub loop-one-preserved : goal.loop-one-preserved
loop-one-preserved c =
    searched_one (λ (k : KnownType). k.name.now ≡ c.args.name.now) c.args.known.now c.loop-one.ahead.now
    c.in-Some.rest.now c.in-Some.one.now c.loop-one.invariant c.in-Some.ensures.cases.0
    (other_text c.in-Some.one.now.name.now c.args.name.now c.if-eq.ensures)

pub returns-then-eq : goal.returns-then-eq
returns-then-eq c =
    let same = same_text c.in-Some.one.now.name.now c.args.name.now c.if-eq.ensures in (
      c.in-Some.one.now,
      found_first (λ (k : KnownType). k.name.now ≡ c.args.name.now) c.args.known.now c.loop-one.ahead.now
          c.in-Some.rest.now c.in-Some.one.now c.loop-one.invariant c.in-Some.ensures.cases.0 same,
      c.schema_of.ensures,
    )

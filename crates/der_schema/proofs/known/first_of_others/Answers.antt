use Rattle.std.proofs.Common.{◌≡◌, true, false, sym, subst}
use Rattle.der_schema.specs.Known.{IsKnownType, IsOfType}
use Rattle.der_schema.specs.Meaning.{Root, all_types}
use Rattle.der_schema.proofs.OfType.{found_first, searched_one}
use Rattle.der_schema.proofs.known.first_of_others.Goals.{else-may_be-via-then-may_be+else-is_known_type}
use Rattle.der_schema.proofs.known.first_of_others.Goals.{else-may_be-via-else-may_be}
use Rattle.der_schema.proofs.known.first_of_others.Goals as goal

pub loop-one-preserved : goal.loop-one-preserved
loop-one-preserved c =
    searched_one (IsKnownType (all_types c.args.types.now) c.args.rules c.args.input.now) c.args.known.now
    c.loop-one.ahead.now c.in-Some.rest.now c.in-Some.one.now c.loop-one.invariant c.in-Some.ensures.cases.0
    (λ t.
    elim c.else-may_be.branch [
      | else-may_be-via-then-may_be+else-is_known_type w ↦
          let is : w.is_known_type.result ≡ true = w.is_known_type.ensures.1 t in
          let other : w.is_known_type.result ≡ false = w.if-is_known_type.false in
          absurd (cc)
      | else-may_be-via-else-may_be w ↦
          let it =
          subst (λ (z : Root). IsOfType z c.args.rules c.args.input.now) (sym c.schema_of-schema.ensures.root) t.of_type in
          let is : c.may_be.result ≡ true = c.may_be.ensures c.args.rules c.of-beginning.ensures it in
          let other : c.may_be.result ≡ false = w.if-may_be.false in
          absurd (cc)
    ])

pub returns-then-is_known_type : goal.returns-then-is_known_type
returns-then-is_known_type c = (
  c.in-Some.one.now,
  found_first (IsKnownType (all_types c.args.types.now) c.args.rules c.args.input.now) c.args.known.now
      c.loop-one.ahead.now c.in-Some.rest.now c.in-Some.one.now c.loop-one.invariant c.in-Some.ensures.cases.0
      (c.is_known_type.ensures.0 c.if-is_known_type.true),
  c.schema_of-schema.ensures,
)

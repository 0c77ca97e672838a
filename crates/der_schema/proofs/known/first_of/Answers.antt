use Rattle.std.proofs.Common.{◌≡◌, List, true, false, sym, subst}
use Rattle.der_schema.specs.declared.known.KnownType.{KnownType}
use Rattle.der_schema.specs.Known.{IsKnownType, IsFirstSchema}
use Rattle.der_schema.specs.Meaning.{all_types}
use Rattle.der_schema.proofs.OfType.{first_later, found_first, nothing_searched}
use Rattle.der_schema.proofs.known.first_of.Goals as goal

pub returns-then-is_known_type : goal.returns-then-is_known_type
returns-then-is_known_type c =
    let P = IsKnownType (all_types c.args.types.now) c.args.rules c.args.input.now in
    let known = c.args.known.now in (
      c.in-Some.likely.now,
      found_first P known known c.in-Some.others.now c.in-Some.likely.now (nothing_searched P known)
          c.in-Some.ensures.cases.0 (c.is_known_type.ensures.0 c.if-is_known_type.true),
      c.schema_of.ensures,
    )

pub returns : goal.returns
returns c =
    let P = IsKnownType (all_types c.args.types.now) c.args.rules c.args.input.now in
    let ts = all_types c.args.types.now in
    subst (λ (ks : List KnownType). IsFirstSchema P ks ts c.first_of_others.result) (sym c.in-Some.ensures.cases.0)
    (first_later P c.in-Some.likely.now c.in-Some.others.now ts c.first_of_others.result
    (λ t.
    let is : c.is_known_type.result ≡ true = c.is_known_type.ensures.1 t in
    let other : c.is_known_type.result ≡ false = c.if-is_known_type.false in
    absurd (cc))
    c.first_of_others.ensures)

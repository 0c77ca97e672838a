use Rattle.std.proofs.Common.{◌≡◌, ◌<◌, arith, inl, inr, length, refl, rules, subst}
use Rattle.std.proofs.lemmas.Bool.{cases_eq, cases_lt}
use Rattle.memchr.specs.Find.{OccursAt}
use Rattle.der_input.proofs.Searches.{first_octet}
use Rattle.der_input.proofs.search.find.Goals as goal

pub returns-then-is_empty : goal.returns-then-is_empty
returns-then-is_empty c =
    let none : length c.args.needle.now ≡ 0 = search rules in (
      record { low = omega arith; high = omega arith; before = λ k low high h. absurd (omega arith) },
      record { fits = omega (arith, none); reads = λ j small. absurd (omega (arith, none)) },
    )

pub returns-then-occurs_at : goal.returns-then-occurs_at
returns-then-occurs_at c =
    let text = c.args.text.now in
    let needle = c.args.needle.now in
    let some : 0 < length needle = search rules in
    let found = c.in-Some.ensures in (
      record {
        low = omega arith;
        high = omega (arith, found.0.high);
        before = λ k low high. elim (cases_lt k c.places.from) [
          | inl less ↦ c.places.invariant.none k less
          | inr more ↦ λ h. found.0.before k more high (first_octet text needle _ k some refl h).1
        ];
      },
      c.occurs_at.ensures.0 c.if-occurs_at.true,
    )

pub places-preserved : goal.places-preserved
places-preserved c =
    let text = c.args.text.now in
    let needle = c.args.needle.now in
    let some : 0 < length needle = search rules in
    let place = c.in-Some.place in
    let found = c.in-Some.ensures in
    record {
      within = omega (arith, found.0.high);
      none = λ k small. elim (cases_lt k c.places.from) [
        | inl less ↦ c.places.invariant.none k less
        | inr more ↦ elim (cases_eq k place) [
          | inl same ↦ λ h. let t = c.occurs_at.ensures.1 (subst (OccursAt text needle) same h) in let q = c.if-occurs_at.false in cc
          | inr other ↦ λ h. found.0.before k more (omega arith) (first_octet text needle _ k some refl h).1
        ]
      ];
    }

pub returns : goal.returns
returns c =
    let text = c.args.text.now in
    let needle = c.args.needle.now in
    let some : 0 < length needle = search rules in
    λ k low high h. elim (cases_lt k c.places.from) [
      | inl less ↦ c.places.invariant.none k less h
      | inr more ↦ let p = first_octet text needle _ k some refl h in c.in_default.ensures k more p.0 p.1
    ]

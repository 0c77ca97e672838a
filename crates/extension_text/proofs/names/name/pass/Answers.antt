use Rattle.std.proofs.Common.{[], ◌∷◌, ◌++◌, arith, inl, inr, length-append, refl, subst, sym}
use Rattle.x509.specs.Formats.{set, spells}
use Rattle.x509.specs.Lists.{BeginsWithNone, names_left}
use Rattle.extension_text.specs.Names.Pieces.{AreNext}
use Rattle.extension_text.proofs.NamesLaws.BackLaws.{joined}
use Rattle.extension_text.proofs.names.name.pass.Goals as goal

pub loop-count-init : goal.loop-count-init
loop-count-init c = record { passed = ([], refl, refl); few = omega arith }

pub returns-in_default : goal.returns-in_default
returns-in_default c =
    let p = c.loop-count.invariant.passed in
    let none = c.in_default.ensures.steps in (
      p.0,
      subst (λ z. AreNext (spells set) p.0 (names_left c.args.names) z) (sym none.1) p.1,
      p.2,
      c.loop-count.invariant.few,
      inr (subst (BeginsWithNone set) (sym none.1) none.0),
    )

pub loop-count-preserved : goal.loop-count-preserved
loop-count-preserved c =
    let p = c.loop-count.invariant.passed in
    let w = c.in-Some.field-0.octets.now in
    let longer = length-append p.0 (w ∷ []) in
    record {
      passed = (p.0 ++ w ∷ [], joined p.0 (w ∷ []) _ _ _ p.1 (_, c.in-Some.ensures.steps, refl), omega (arith, longer, p.2));
      few = omega (arith, c.loop-count-test.true);
    }

pub returns : goal.returns
returns c =
    let p = c.loop-count.invariant.passed in
    let few = c.loop-count.invariant.few in
    (p.0, p.1, p.2, few, inl (omega (arith, few, c.loop-count-test.false)))

use Rattle.std.proofs.Common.{◌≡◌, ◌≤◌, length, take, refl, sym, ap, subst, ◌∙◌, arith, rules, IsTrue, false}
use Rattle.std.proofs.lemmas.List.{length-take-le}
use Rattle.der_base.specs.declared.rules.Rules.TheVariants.{Der}
use Rattle.der_elements.specs.Check.Elements.{AreElements}
use Rattle.der_canon.specs.Sizes.{IsSizeOf}
use Rattle.der_canon.proofs.Causes.{refusal_of}
use Rattle.der_canon.proofs.Copies.{take-overlay}
use Rattle.der_canon.proofs.DerElements.{der_elements}
use Rattle.der_canon.proofs.elements.canonical_into.Goals as goal

pub returns-then-are_elements-clause-written : goal.returns-then-are_elements-clause-written
returns-then-are_elements-clause-written c =
    let i = c.args.octets.now in
    let out = c.args.out.now in
    let all : AreElements Der 101 i = c.if-are_elements.ensures.0 (search rules) in
    let size : IsSizeOf i (length i) = record { have = λ k. absurd (k all); unchanged = λ _. refl; others = λ k. absurd (k all) } in (
      size,
      λ h. let fits : length i ≤ length out = omega arith in
          let front : take (length i) c.copy.new.out ≡ i = ap (take (length i)) c.copy.ensures ∙ take-overlay out i fits in
          record { have = λ k. absurd (k all); elements = subst (λ l. AreElements Der 101 l) (sym front) all; unchanged = λ _. front; same = λ k. absurd (k all) },
    )

pub returns-in-Ok-clause-written : goal.returns-in-Ok-clause-written
returns-in-Ok-clause-written c =
    let i = c.args.octets.now in
    let out = c.write_others.new.out in
    let n = c.in-Ok.needed in
    let not_der : ¬ AreElements Der 101 i = (λ a. let t : IsTrue false = c.if-are_elements.ensures.1 a in absurd (cc)) in
    let have = c.in-Ok.ensures.have in
    let k = c.in-Ok.ensures.written in (
      record { have = λ _. have; unchanged = λ a. absurd (not_der a); others = λ _. k.0 },
      λ l. record {
        have = λ _. have;
        elements = der_elements 101 i (take n out) (k.1 l) (omega (arith, length-take-le n out l));
        unchanged = λ a. absurd (not_der a);
        same = λ _. k.1 l;
      },
    )

pub returns-in-Err-clause-refused : goal.returns-in-Err-clause-refused
returns-in-Err-clause-refused c = refusal_of c.args.octets.now c.in-Err.refused c.in-Err.ensures.error

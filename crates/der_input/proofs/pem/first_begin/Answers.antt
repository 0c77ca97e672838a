use Rattle.std.proofs.Common.{◌∙◌, length, arith, sym, ap, inl, inr}
use Rattle.std.proofs.lemmas.Bool.{cases_eq, cases_lt}
use Rattle.der_input.specs.Blocks.{begins_block}
use Rattle.der_input.proofs.Lines.{found_at, found_none, no_line, no_octets, octets_and_line}
use Rattle.der_input.proofs.pem.first_begin.Goals as goal

pub returns-then-begins_here-clause-first : goal.returns-then-begins_here-clause-first
returns-then-begins_here-clause-first c =
    let text = c.args.text.now in
    let begin = c.in-Some.begin in
    let found = c.in-Some.ensures in
    let here = octets_and_line text begin found.1 (sym c.begins_here.ensures ∙ c.if-begins_here.true) in
    sym (found_at (begins_block text) 0 (length text) begin (omega arith) (omega (arith, found.1.fits)) here
    (λ j low high. elim (cases_lt j c.occurrences.from) [
      | inl less ↦ c.occurrences.invariant.none j less
      | inr more ↦ no_octets text j (found.0.before j more high)
    ]))

pub occurrences-preserved : goal.occurrences-preserved
occurrences-preserved c =
    let text = c.args.text.now in
    let begin = c.in-Some.begin in
    let found = c.in-Some.ensures in
    let line = sym c.begins_here.ensures ∙ c.if-begins_here.false in
    record {
      within = omega (arith, found.1.fits);
      none = λ j small. elim (cases_lt j c.occurrences.from) [
        | inl less ↦ c.occurrences.invariant.none j less
        | inr more ↦ elim (cases_eq j begin) [
          | inl same ↦ (ap (begins_block text) same ∙ no_line text begin line)
          | inr other ↦ no_octets text j (found.0.before j more (omega arith))
        ]
      ];
    }

pub returns-clause-first : goal.returns-clause-first
returns-clause-first c =
    let text = c.args.text.now in
    sym (found_none (begins_block text) 0 (length text) (λ k low high. elim (cases_lt k c.occurrences.from) [
      | inl less ↦ c.occurrences.invariant.none k less
      | inr more ↦ no_octets text k (c.in_default.ensures k more (omega arith))
    ]))

use Rattle.std.proofs.Common.{◌≡◌, ℕ, ◌+◌, Bool, true, false, List, [], ◌∷◌, ◌++◌, length, ap, ◌∙◌, arith}
use Rattle.std.proofs.Common.{length-append}
use Rattle.std.specs.Prelude.{◌==◌, cond, not}
use Rattle.std.specs.List.{prefix_len, suffix_len}
use Rattle.std.proofs.lemmas.Bool.Decides.{nat_tests}
use Rattle.std.proofs.lemmas.List.{reverse-append}
use Rattle.asn1_modules.proofs.fault.column_after.Goals as goal

abbrev on_line : ℕ → Bool
on_line c = not (c == 10)

last_one : (rest before : List ℕ) (last : ℕ) → rest ≡ before ++ last ∷ []
    → suffix_len on_line rest ≡ cond (on_line last) (1 + suffix_len on_line before) 0
last_one rest before last e = ap (suffix_len on_line) e ∙ ap (prefix_len on_line) (reverse-append before (last ∷ []))

pub loop-last-preserved : goal.loop-last-preserved
loop-last-preserved c =
    let last = c.in-Some.last.now in
    let before = c.in-Some.before.now in
    let e = c.in-Some.ensures.cases.0 in
    let on : on_line last ≡ true = grind (arith, nat_tests) in
    let one : suffix_len on_line c.loop-last.rest.now ≡ 1 + suffix_len on_line before =
    last_one c.loop-last.rest.now before last e ∙ ap (λ b. cond b (1 + suffix_len on_line before) 0) on in
    record {
      column = omega (arith, one, c.loop-last.invariant.column);
      few = omega (arith, ap length e, length-append before (last ∷ []), c.loop-last.invariant.few);
    }

pub returns-then-last-eq10 : goal.returns-then-last-eq10
returns-then-last-eq10 c =
    let last = c.in-Some.last.now in
    let before = c.in-Some.before.now in
    let off : on_line last ≡ false = grind (arith, nat_tests) in
    let none : suffix_len on_line c.loop-last.rest.now ≡ 0 =
    last_one c.loop-last.rest.now before last c.in-Some.ensures.cases.0
    ∙ ap (λ b. cond b (1 + suffix_len on_line before) 0) off in
    omega (arith, none, c.loop-last.invariant.column)

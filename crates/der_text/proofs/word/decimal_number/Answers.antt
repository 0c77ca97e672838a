use Rattle.std.proofs.Common.{◌≡◌, true, rules, ◌∙◌, ap}
use Rattle.std.specs.Char.{is_ascii_digit}
use Rattle.std.specs.List.{list_all}
use Rattle.der_text.specs.Words.{decimal_number}
use Rattle.der_text.proofs.Numbers.{digits_utf8, no_digits, parsed}
use Rattle.der_text.proofs.word.decimal_number.Goals as goal

pub returns-then-not-are_digits : goal.returns-then-not-are_digits
returns-then-not-are_digits c = no_digits c.args.digits.now (search rules)

pub returns-in_default : goal.returns-in_default
returns-in_default c = absurd (c.in_default.ensures.cases.0 (digits_utf8 c.args.digits.now (search rules)))

pub returns : goal.returns
returns c =
    let e = c.in-Ok.ensures.cases.0 in
    let all : list_all is_ascii_digit c.args.digits.now ≡ true = search rules in
    c.ok.ensures.value ∙ parsed c.in-Ok.text.now c.parse.result c.parse.ensures.value.0 (ap (list_all is_ascii_digit) e ∙ all)
    ∙ ap decimal_number e

use Rattle.std.proofs.Common.{◌≡◌, true, rules, ap, subst, sym, ◌∙◌}
use Rattle.std.specs.Prelude.{IsTrue}
use Rattle.std.specs.Char.{is_ascii_digit}
use Rattle.std.specs.List.{list_all}
use Rattle.std.specs.Option.{SomeIff}
use Rattle.std.specs.Result.{result_ok}
use Rattle.std.specs.Str.Parse.{digits_value}
use Rattle.dumarewhi_c.specs.DottedTexts.{is_arc}
use Rattle.dumarewhi_c.proofs.Dotted.{digits_utf8, no_digits, parsed}
use Rattle.dumarewhi_c.proofs.identifier.parse_arc.Goals as goal

pub returns-then-not-are_digits : goal.returns-then-not-are_digits
returns-then-not-are_digits c = no_digits c.args.component.now (search rules)

pub returns-in_default : goal.returns-in_default
returns-in_default c = absurd (c.in_default.ensures.cases.0 (digits_utf8 c.args.component.now (search rules)))

pub returns : goal.returns
returns c =
    let e = c.in-Ok.ensures.cases.0 in
    let all : list_all is_ascii_digit c.args.component.now ≡ true = search rules in
    let found = parsed c.in-Ok.digits.now c.parse.result c.parse.ensures.value.0 (ap (list_all is_ascii_digit) e ∙ all) in
    let same = subst (λ ds. SomeIff (result_ok c.parse.result) (IsTrue (is_arc ds)) (digits_value 10 ds)) e found in
    subst (λ o. SomeIff o (IsTrue (is_arc c.args.component.now)) (digits_value 10 c.args.component.now)) (sym c.ok.ensures.value) same

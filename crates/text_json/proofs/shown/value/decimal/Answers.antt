use Rattle.std.proofs.Common.{◌≡◌, true, rules, ◌∙◌}
use Rattle.std.specs.Char.{is_ascii_digit}
use Rattle.std.specs.List.{list_all}
use Rattle.text_json.proofs.ShownLaws.FormLaws.{no_digits, parsed}
use Rattle.text_json.proofs.shown.value.decimal.Goals as goal

pub returns-then-not-are_digits : goal.returns-then-not-are_digits
returns-then-not-are_digits c = no_digits c.args.text.now (search rules)

pub returns : goal.returns
returns c =
    let all : list_all is_ascii_digit c.args.text.now ≡ true = search rules in
    c.ok.ensures.value ∙ parsed c.args.text.now c.parse.result c.parse.ensures.value.0 all

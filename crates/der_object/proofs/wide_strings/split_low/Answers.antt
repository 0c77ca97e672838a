use Rattle.std.proofs.Common.{◌∷◌, ap, sym, ◌∙◌}
use Rattle.std.specs.Char.Utf16.{utf16_chars, lone_unit_char}
use Rattle.der_base.specs.Text.{units}
use Rattle.der_object.proofs.TextViews.{lone_not_high, lone_at_end, lone_not_low, pair_of_units}
use Rattle.der_object.proofs.wide_strings.split_low.Goals as goal

pub returns-then-not-is_high : goal.returns-then-not-is_high
returns-then-not-is_high c = lone_not_high c.args.high (units c.args.octets.now) (sym c.is_high.ensures ∙ c.if-not-is_high.true)

pub returns-in_default : goal.returns-in_default
returns-in_default c =
    let none = c.in_default.ensures in
    let h = c.args.high in
    ap (λ us. utf16_chars (h ∷ us)) none ∙ lone_at_end h ∙ ap (λ us. lone_unit_char h ∷ utf16_chars us) (sym none)

pub returns-then-not-is_low : goal.returns-then-not-is_low
returns-then-not-is_low c =
    let e = c.in-Some.ensures.0 in
    let h = c.args.high in
    let us = units c.in-Some.behind.now in
    ap (λ us. utf16_chars (h ∷ us)) e ∙ lone_not_low h c.in-Some.low us (sym c.is_low.ensures ∙ c.if-not-is_low.true)
    ∙ ap (λ us. lone_unit_char h ∷ utf16_chars us) (sym e)

pub returns : goal.returns
returns c =
    let h = c.args.high in
    let low = c.in-Some.low in
    let us = units c.in-Some.behind.now in
    let is_pair = pair_of_units h low us (sym c.is_high.ensures ∙ c.if-not-is_high.false) (sym c.is_low.ensures ∙ c.if-not-is_low.false) in
    (ap (λ us. utf16_chars (h ∷ us)) c.in-Some.ensures.0 ∙ is_pair ∙ ap (λ o. o ∷ utf16_chars us) (sym c.pair_character.ensures), c.in-Some.ensures.1)

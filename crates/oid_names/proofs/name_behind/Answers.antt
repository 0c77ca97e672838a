use Rattle.std.proofs.Common.{◌≡◌, ◌++◌, ◌∷◌, ◌∙◌, ap, length, rules, sym}
use Rattle.std.proofs.lemmas.List.{nil_from_length}
use Rattle.std.proofs.lemmas.Option.{IfSome_then}
use Rattle.oid_names.proofs.name_behind.Goals as goal

pub returns : goal.returns
returns c =
    let none : length c.in_ok-digits.digits.now ≡ 0 = search rules in
    let behind = c.in_ok-digits.behind.now in
    IfSome_then c.text_of.result c.text_of.ensures
    (λ name same. (_, c.in_ok-digits.ensures ∙ ap (λ w. w ++ 32 ∷ behind) (nil_from_length c.in_ok-digits.digits.now none) ∙ ap (λ w. 32 ∷ w) (c.in_ok-name.ensures ∙ ap (λ w. w ++ 10 ∷ c.in_ok-name.field-0-1.now) (sym same))))

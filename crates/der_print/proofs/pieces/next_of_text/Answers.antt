use Rattle.std.proofs.Common.{◌∙◌, ◌∷◌, ap, length, sym}
use Rattle.std.specs.Prelude.{map}
use Rattle.std.specs.Str.{chars}
use Rattle.std.proofs.lemmas.List.{nil_from_length}
use Rattle.std.proofs.lemmas.Str.{chars_past_char, chars-nil}
use Rattle.der_print.specs.declared.pieces.Piece.TheVariants.{Character}
use Rattle.der_print.proofs.pieces.next_of_text.Goals as goal

pub returns-in-Some : goal.returns-in-Some
returns-in-Some c =
    let x = c.in-Some.character in
    let step = sym c.chars-characters.ensures.rest ∙ c.in-Some.ensures.steps.0 in
    ap (map (λ x. Character x)) (chars_past_char c.args.text.now _ x c.utf8.text step ∙ ap (λ w. x ∷ chars w) (sym c.as_str.ensures))

pub returns-in-None : goal.returns-in-None
returns-in-None c =
    let none = ap length (sym c.chars-characters.ensures.rest) ∙ c.in-None.ensures.steps.0.0 in
    ap (λ w. map (λ x. Character x) (chars w)) (nil_from_length c.args.text.now none) ∙ ap (map (λ x. Character x)) chars-nil

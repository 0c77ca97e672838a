use Rattle.std.proofs.Common.{◌++◌, ◌∷◌, [], ap, sym, ◌∙◌, append_assoc}
use Rattle.std.proofs.lemmas.List.{append-nil}
use Rattle.der_object.specs.Characters.{chars_of, text_of_chars}
use Rattle.der_object.proofs.Sending.{wrote_then, wrote_stop, wrote_exit}
use Rattle.der_object.proofs.TextViews.{text_in_front}
use Rattle.der_object.proofs.wide_strings.send_characters.Goals as goal

pub returns-in_err-send_character : goal.returns-in_err-send_character
returns-in_err-send_character g c =
    let done = c.loop-character.invariant.done in
    let character = c.in-Some.character in
    let others = chars_of c.args.coding c.in-Some.behind.now in
    rw (done.1 ∙ ap (λ cs. done.0 ++ text_of_chars cs) c.in-Some.ensures.0 ∙ ap (λ t. done.0 ++ t) (text_in_front character others))
    (wrote_exit _ c.from_residual.ensures.1 (wrote_then done.2 (wrote_stop _ c.in_err-send_character.ensures)))

pub loop-character-preserved : goal.loop-character-preserved
loop-character-preserved g c =
    let done = c.loop-character.invariant.done in
    let character = c.in-Some.character in
    let others = chars_of c.args.coding c.in-Some.behind.now in
    record {
      done = (
        done.0 ++ text_of_chars (character ∷ []),
        done.1 ∙ ap (λ cs. done.0 ++ text_of_chars cs) c.in-Some.ensures.0 ∙ ap (λ t. done.0 ++ t) (text_in_front character others)
            ∙ sym (append_assoc done.0 (text_of_chars (character ∷ [])) (text_of_chars others)),
        wrote_then done.2 c.in_ok-send_character.ensures,
      );
    }

pub returns : goal.returns
returns g c =
    let done = c.loop-character.invariant.done in
    rw (done.1 ∙ ap (λ cs. done.0 ++ text_of_chars cs) c.in_default.ensures ∙ append-nil done.0) done.2

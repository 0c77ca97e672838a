use Rattle.std.proofs.Common.{◌∙◌, ◌++◌, ap, append-nil, append_assoc, refl, sym}
use Rattle.std.proofs.Output.{has_written_append, has_written_of_eq}
use Rattle.std.specs.List.{flat_map}
use Rattle.std.specs.Str.{chars}
use Rattle.std.specs.Str.Iter.{chars_rest}
use Rattle.std.proofs.lemmas.List.{nil_from_length}
use Rattle.std.proofs.lemmas.Str.{IsUtf8-past_char, chars-nil, chars_past_char}
use Rattle.der_actions.specs.Labels.{character_text}
use Rattle.der_actions.proofs.name.NameDisplay.fmt.Goals as goal

pub loop-character-preserved : goal.loop-character-preserved
loop-character-preserved g c =
    let old = chars_rest c.loop-character.character-iterator in
    let new = chars_rest c.next.new.self in
    let utf8 = c.loop-character.invariant.utf8 in
    let step = c.in-Some.ensures.steps.0 in
    let more = chars_past_char old new c.in-Some.character utf8 step in
    record {
      utf8 = IsUtf8-past_char old new c.in-Some.character utf8 step;
      done = λ plain.
          let done = c.loop-character.invariant.done plain in
          let text = character_text c.in-Some.character in (
            done.0 ++ text,
            done.1 ∙ ap (λ cs. done.0 ++ flat_map character_text cs) more ∙ sym (append_assoc done.0 text _),
            has_written_append _ _ _ _ _ _ done.2 (c.in_ok-write_character.ensures done.2.plain refl),
          );
    }

pub returns-clause-writes : goal.returns-clause-writes
returns-clause-writes g c =
    λ plain ok.
    let done = c.loop-character.invariant.done plain in
    let none = nil_from_length (chars_rest c.loop-character.character-iterator) c.in-None.ensures.steps.0.0 in
    has_written_of_eq _ _ _ _ _
    (sym (done.1 ∙ ap (λ w. done.0 ++ flat_map character_text (chars w)) none ∙ ap (λ cs. done.0 ++ flat_map character_text cs) chars-nil ∙ append-nil done.0)) done.2

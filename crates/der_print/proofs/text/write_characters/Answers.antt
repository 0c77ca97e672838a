use Rattle.std.proofs.Common.{◌≡◌, ◌≤◌, ◌∙◌, ◌∷◌, ◌++◌, [], ap, arith, length, refl}
use Rattle.std.proofs.Output.{has_written_append, has_written_of_eq}
use Rattle.std.specs.Prelude.{map}
use Rattle.std.specs.Str.{chars}
use Rattle.std.specs.Str.Iter.{chars_rest}
use Rattle.std.proofs.lemmas.List.{nil_from_length}
use Rattle.std.proofs.lemmas.Str.{IsUtf8-past_char, chars-nil, chars_past_char}
use Rattle.der_print.specs.declared.pieces.Piece.TheVariants.{Character}
use Rattle.der_print.specs.Quotes.{character_text, piece_text}
use Rattle.der_print.proofs.QuoteLaws.{all_fit, all_taken, concat_more, first_taken, length_more, some_left, texts_more}
use Rattle.der_print.proofs.text.write_characters.Goals as goal

pub loop-character-preserved : goal.loop-character-preserved
loop-character-preserved g c =
    let old = chars_rest c.loop-character.character-iterator in
    let new = chars_rest c.next.new.self in
    let utf8 = c.loop-character.invariant.utf8 in
    let step = c.in-Some.ensures.steps.0 in
    let more = chars_past_char old new c.in-Some.character utf8 step in
    record {
      utf8 = IsUtf8-past_char old new c.in-Some.character utf8 step;
      done = λ plain.
          let done = c.loop-character.invariant.done plain in
          let text = character_text c.in-Some.character in (
            done.0 ++ text ∷ [],
            texts_more _ done.0 _ text (done.1 ∙ ap (λ cs. done.0 ++ map piece_text (map (λ x. Character x) cs)) more),
            omega (arith, length_more done.0 text, done.2),
            has_written_of_eq _ _ _ _ _ (concat_more done.0 text) (has_written_append _ _ _ _ _ _ done.3 (c.in_ok-write_character.ensures done.3.plain refl)),
          );
    }

pub returns-then-wanted-eq0 : goal.returns-then-wanted-eq0
returns-then-wanted-eq0 g c =
    λ plain.
    let done = c.loop-character.invariant.done plain in
    let old = chars_rest c.loop-character.character-iterator in
    let more = chars_past_char old (chars_rest c.next.new.self) c.in-Some.character c.loop-character.invariant.utf8 c.in-Some.ensures.steps.0 in
    let e = done.1 ∙ ap (λ cs. done.0 ++ map piece_text (map (λ x. Character x) cs)) more in
    let full : length done.0 ≡ c.args.most = omega (arith, done.2) in
    (some_left _ done.0 _ _ _ e full, has_written_of_eq _ _ _ _ _ (first_taken _ done.0 _ _ _ e full) done.3)

pub returns : goal.returns
returns g c =
    λ plain.
    let done = c.loop-character.invariant.done plain in
    let none = nil_from_length (chars_rest c.loop-character.character-iterator) c.in-None.ensures.steps.0.0 in
    let e = done.1 ∙ ap (λ w. done.0 ++ map piece_text (map (λ x. Character x) (chars w))) none ∙ ap (λ cs. done.0 ++ map piece_text (map (λ x. Character x) cs)) chars-nil in
    let short : length done.0 ≤ c.args.most = omega (arith, done.2) in
    (all_fit _ done.0 _ e short, has_written_of_eq _ _ _ _ _ (all_taken _ done.0 _ e short) done.3)

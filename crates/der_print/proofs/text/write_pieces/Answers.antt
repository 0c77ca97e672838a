use Rattle.std.proofs.Common.{◌≡◌, ◌≤◌, ◌∙◌, ◌∷◌, ◌++◌, [], ap, arith, length, refl}
use Rattle.std.proofs.Output.{has_written_append, has_written_of_eq}
use Rattle.std.specs.Prelude.{map}
use Rattle.der_print.specs.Quotes.{piece_text}
use Rattle.der_print.proofs.QuoteLaws.{all_fit, all_taken, concat_more, first_taken, length_more, some_left, texts_more}
use Rattle.der_print.proofs.text.write_pieces.Goals as goal

pub loop-piece-smaller : goal.loop-piece-smaller
loop-piece-smaller g c = omega (arith, ap length c.in-Some.ensures)

pub loop-piece-preserved : goal.loop-piece-preserved
loop-piece-preserved g c = record {
  done = λ plain.
      let done = c.loop-piece.invariant.done plain in
      let text = piece_text c.in-Some.piece in (
        done.0 ++ text ∷ [],
        texts_more _ done.0 _ text (done.1 ∙ ap (λ w. done.0 ++ w) (ap (map piece_text) c.in-Some.ensures)),
        omega (arith, length_more done.0 text, done.2),
        has_written_of_eq _ _ _ _ _ (concat_more done.0 text) (has_written_append _ _ _ _ _ _ done.3 (c.in_ok-write_piece.ensures done.3.plain refl)),
      );
}

pub returns-then-left-eq0 : goal.returns-then-left-eq0
returns-then-left-eq0 g c =
    λ plain.
    let done = c.loop-piece.invariant.done plain in
    let e = done.1 ∙ ap (λ w. done.0 ++ w) (ap (map piece_text) c.in-Some.ensures) in
    let full : length done.0 ≡ c.args.most = omega (arith, done.2) in
    (some_left _ done.0 _ _ _ e full, has_written_of_eq _ _ _ _ _ (first_taken _ done.0 _ _ _ e full) done.3)

pub returns : goal.returns
returns g c =
    λ plain.
    let done = c.loop-piece.invariant.done plain in
    let e = done.1 ∙ ap (λ w. done.0 ++ w) (ap (map piece_text) c.in_default.ensures) in
    let short : length done.0 ≤ c.args.most = omega (arith, done.2) in
    (all_fit _ done.0 _ e short, has_written_of_eq _ _ _ _ _ (all_taken _ done.0 _ e short) done.3)

use Rattle.std.proofs.Common.{◌≡◌, ◌/◌, ◌%◌, ◌++◌, ◌∙◌, ◌∷◌, [], ℕ, List, ap, append_assoc, append-nil, arith, length, refl, rules, slice_index, sym}
use Rattle.std.proofs.Output.{has_written_append, has_written_of_eq}
use Rattle.hex.specs.Hex.{encode_lower, encode_with, lower_digits}
use Rattle.der_print.proofs.octets.write_digits.Goals as goal

encode_more : (t u v : List ℕ) → encode_with t (u ++ v) ≡ encode_with t u ++ encode_with t v
unfolding encode_with
encode_more t [] v = refl
encode_more t (b ∷ u) v = ap (λ w. slice_index t (b / 16) ∷ slice_index t (b % 16) ∷ w) (encode_more t u v)

ended : (w rest sent : List ℕ) → length rest ≡ 0 → encode_lower w ≡ sent ++ encode_lower rest → sent ≡ encode_lower w
unfolding encode_with
ended w [] sent none e = sym (e ∙ append-nil sent)
ended w (b ∷ rest) sent none e = grind arith

pub loop-rest-preserved : goal.loop-rest-preserved
loop-rest-preserved g c = record {
  done = λ plain.
      let done = c.loop-rest.invariant.done plain in
      let first = c.split_at.result.0.now in
      let others = c.split_at.result.1.now in (
        done.0 ++ encode_lower first,
        done.1 ∙ ap (λ w. done.0 ++ encode_lower w) c.split_at.ensures.by_index.0 ∙ ap (λ w. done.0 ++ w) (encode_more lower_digits first others)
            ∙ sym (append_assoc done.0 (encode_lower first) (encode_lower others)),
        has_written_append _ _ _ _ _ _ done.2 (c.in_ok-write_few.ensures done.2.plain refl),
      );
}

pub returns : goal.returns
returns g c =
    λ plain ok.
    let done = c.loop-rest.invariant.done plain in
    has_written_of_eq _ _ _ _ _ (ended _ c.loop-rest.rest.now done.0 (search rules) done.1) done.2

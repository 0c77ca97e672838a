use Rattle.std.proofs.Common.{◌++◌, ◌∙◌, ap, append-nil, append_assoc, arith, flat_map, refl, sym}
use Rattle.std.proofs.Output.{has_written_append, has_written_of_eq}
use Rattle.std.proofs.lemmas.List.{nil_from_length, take_rest}
use Rattle.extension_text.specs.Names.Escapes.{pair_text}
use Rattle.extension_text.proofs.NamesLaws.EscapeLaws.{pairs_more}
use Rattle.extension_text.proofs.names.escaped.write_pairs.Goals as goal

pub loop-left-preserved : goal.loop-left-preserved
loop-left-preserved g c = record {
  done = λ plain.
      let done = c.loop-left.invariant.done plain in
      let w = c.loop-left.left.now in
      rw (take_rest w 1) (
        _,
        done.1 ∙ ap (λ t. done.0 ++ t) (pairs_more w c.in-len1-up.len_at_least) ∙ sym (append_assoc done.0 _ _),
        has_written_append _ _ _ _ _ _ done.2 (c.in_ok-write_pair.ensures done.2.plain refl),
      );
}

pub returns : goal.returns
returns g c =
    λ plain ok.
    let done = c.loop-left.invariant.done plain in
    let none = nil_from_length c.loop-left.left.now (omega (arith, c.in_default.len_below)) in
    has_written_of_eq _ _ _ _ _ (sym (done.1 ∙ ap (λ w. done.0 ++ flat_map pair_text w) none ∙ append-nil done.0)) done.2

use Rattle.std.proofs.Common.{◌∙◌, arith, refl, sym}
use Rattle.std.proofs.Output.{has_written_of_eq}
use Rattle.der_print.proofs.QuoteLaws.{short_fits, unescaped_whole}
use Rattle.der_print.proofs.text.write_text.Goals as goal

pub returns-then-is_unescaped_text : goal.returns-then-is_unescaped_text
returns-then-is_unescaped_text g c =
    let w = c.args.text.now in
    let unescaped = sym c.is_unescaped_text.ensures ∙ c.if-is_unescaped_text.true in
    λ plain.
    (short_fits w c.args.most c.utf8.text (omega arith), has_written_of_eq _ _ _ _ _ (unescaped_whole w c.args.most c.utf8.text unescaped (omega arith)) (c.in_ok-write_str.ensures.writes plain refl))

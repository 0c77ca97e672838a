use Rattle.std.proofs.Common.{◌≡◌, ◌∙◌, ap, subst, false, Some}
use Rattle.std.specs.Fmt.{styled_digits_output, DisplaysOnOk, padded_integral, shown_prefix, radix_prefix, digits}
use Rattle.std.specs.Option.{option_map}
use Rattle.der_base.specs.Pretty.{hex_pair}
use Rattle.der_base.proofs.HexTexts.{pair_is}
use Rattle.type_words.proofs.filter.write_hex.Goals as goal

pub returns : goal.returns
returns g c =
    let d = c.in_radix.result in
    let s = c.laid_out.result in
    let shown : styled_digits_output d s ≡ Some (hex_pair c.args.octet) =
    ap (option_map (padded_integral s false (shown_prefix s (radix_prefix d.base)))) c.in_radix.ensures
    ∙ ap (λ t. option_map (padded_integral t false (shown_prefix t (radix_prefix d.base))) (Some (digits 16 false c.args.octet))) c.laid_out.ensures
    ∙ ap Some (pair_is c.args.octet c.ranges.octet.fits) in
    subst (λ o. DisplaysOnOk g.W.Write.write_str_gives c.args.f.now c.write.result o c.write.new.self) shown c.write.ensures.writes

use Rattle.std.proofs.Common.{◌≡◌, ◌∙◌, ap, rules, take}
use Rattle.std.specs.List.{list_all, prefix_len}
use Rattle.der_text.specs.Printed.{is_plain}
use Rattle.der_text.proofs.Delimiters.{all_taken}
use Rattle.der_text.proofs.parts.write_part.Goals as goal

pub write_quoted-requires : goal.write_quoted-requires
write_quoted-requires c =
    let octets = c.args.octets.now in
    let e : c.split_at.result.0.now ≡ take (prefix_len is_plain octets) octets = search rules in
    ap (list_all is_plain) e ∙ all_taken is_plain octets

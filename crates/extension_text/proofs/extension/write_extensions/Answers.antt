use Rattle.std.proofs.Common.{◌<◌, arith, inl, inr, length, refl, rules}
use Rattle.std.proofs.lemmas.Bool.Decides.{nat_tests}
use Rattle.std.proofs.lemmas.List.{nil_from_length}
use Rattle.extension_text.proofs.NamesLaws.WriteLaws.{next, nothing, one, restated}
use Rattle.extension_text.proofs.ItemLaws.{not_nil}
use Rattle.extension_text.proofs.extension.write_extensions.Goals as goal

pub returns-then-is_empty : goal.returns-then-is_empty
returns-then-is_empty g c = restated (λ t x. inl (nil_from_length _ (search rules), x)) nothing

pub returns : goal.returns
returns g c =
    let some : 0 < length c.args.extensions.octets.now = grind (arith, nat_tests, c.if-is_empty.false) in
    restated (λ t x. inr (not_nil _ some, x)) (next (one c.in_ok-write_str.ensures.writes) refl c.write_each.ensures)

use Rattle.std.proofs.Common.{refl}
use Rattle.extension_text.proofs.NamesLaws.WriteLaws.{next, restated}
use Rattle.certificate_text.proofs.revoked.write_entry_extension.Goals as goal

pub returns : goal.returns
returns g c = next c.in_ok-write_heading.ensures refl (restated (λ t x. (c.args.extension.now, refl, x)) c.write_entry_value.ensures)

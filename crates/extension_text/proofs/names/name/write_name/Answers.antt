use Rattle.extension_text.proofs.NamesLaws.BackLaws.{all_names}
use Rattle.extension_text.proofs.NamesLaws.WriteLaws.{restated}
use Rattle.extension_text.proofs.names.name.write_name.Goals as goal

pub write_backwards-requires : goal.write_backwards-requires
write_backwards-requires g c = let p = c.pass-count.ensures in (p.0, _, p.1, p.2)

pub returns : goal.returns
returns g c =
    restated (λ t x. all_names c.relative_names-names.ensures.octets c.pass-count.ensures x) c.write_backwards.ensures

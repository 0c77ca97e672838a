use Rattle.std.proofs.Common.{refl}
use Rattle.extension_text.proofs.NamesLaws.WriteLaws.{next, one}
use Rattle.extension_text.proofs.unread.write_unread.Goals as goal

pub returns : goal.returns
returns g c =
    next (one c.in_ok-write_str.ensures.writes) refl (next c.in_ok-write_displayed.ensures refl
    (next (one c.in_ok-write_str-2.ensures.writes) refl (one c.write_octets.ensures)))

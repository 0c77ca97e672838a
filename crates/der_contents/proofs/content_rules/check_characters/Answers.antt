use Rattle.std.proofs.Common.{inl, refl}
use Rattle.der_contents.proofs.content_rules.check_characters.Goals as goal

pub returns-in-None : goal.returns-in-None
returns-in-None c = inl (c.in-None.ensures c.requires, refl)

use Rattle.std.proofs.Common.{◌≡◌, None, Some, refl}
use Rattle.type_words.specs.Lines.{moment, no_moment}
use Rattle.type_words.proofs.text.write_time.Goals as goal

none_is_none : {A P : Type 0} {x : A} → None ≡ Some x → P
none_is_none e = cc

pub returns-in-Some : goal.returns-in-Some
returns-in-Some g c = λ plain ok. (_, moment c.in-Some.time c.in-Some.ensures.found refl, c.write.ensures.writes plain ok)

pub returns-in-None : goal.returns-in-None
returns-in-None g c =
    λ plain ok. (_, no_moment (λ x is. none_is_none (c.in-None.ensures.only x is)) refl, c.write-in-None.ensures.writes plain ok)

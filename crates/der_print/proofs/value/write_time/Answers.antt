use Rattle.std.proofs.Common.{◌≡◌, ◌++◌, ◌==◌, None, Some, codes, refl}
use Rattle.der_print.specs.Quotes.{quoted_text}
use Rattle.der_print.specs.Values.{moment, moment_text, no_moment}
use Rattle.der_print.proofs.value.write_time.Goals as goal

none_is_none : {A P : Type 0} {x : A} → None ≡ Some x → P
none_is_none e = cc

pub returns-in-Some : goal.returns-in-Some
returns-in-Some g c =
    λ own kind plain ok.
    (codes " " ++ moment_text (c.args.number == 23) c.in-Some.time, moment c.in-Some.time c.in-Some.ensures.found refl, c.write_spaced.ensures plain ok)

pub returns-in-None : goal.returns-in-None
returns-in-None g c =
    λ own kind plain ok.
    (codes " " ++ quoted_text c.args.limit c.args.number c.args.octets.now, no_moment kind (λ x is. none_is_none (c.in-None.ensures.only x is)) refl, c.write_quoted.ensures plain ok)

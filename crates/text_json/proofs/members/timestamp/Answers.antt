use Rattle.std.proofs.Common.{◌≡◌, None, Option, Some, subst, sym}
use Rattle.std.specs.Prelude.{◌==◌, IsSome}
use Rattle.text_json.specs.Timestamps.{HasTimestamp}
use Rattle.text_json.proofs.members.timestamp.Goals as goal

none_is_none : {A P : Type 0} {x : A} → None ≡ Some x → P
none_is_none e = cc

some_of : {A : Type 0} {x y : A} → Some x ≡ Some y → x ≡ y
some_of e = cc

no_some : {A P : Type 0} (o : Option A) → o ≡ None → IsSome o → P
no_some o e s = cc

pub returns-in_default : goal.returns-in_default
returns-in_default c = λ x is has. none_is_none (c.in_default.ensures.only x is)

pub returns-in-None : goal.returns-in-None
returns-in-None c =
    λ x is has. no_some c.timestamp_of.result c.in-None.is
    (c.timestamp_of.ensures.only (subst (HasTimestamp (c.args.number == 23)) (sym (some_of (c.in-Some.ensures.only x is))) has))

use Rattle.std.proofs.Common.{[], length, ap, subst, arith, rules}
use Rattle.std.proofs.lemmas.Bool.Decides.{nat_tests}
use Rattle.std.proofs.lemmas.List.{nil_from_length}
use Rattle.der_extensions.specs.Lists.{BeginsWith}
use Rattle.der_extensions.specs.WebExtensions.{Vector}
use Rattle.der_extensions.proofs.timestamps.only_vector.Goals as goal

pub returns-in_default : goal.returns-in_default
returns-in_default c = λ v z. c.in_default.ensures v [] z

pub returns-then-not-is_empty : goal.returns-then-not-is_empty
returns-then-not-is_empty c = λ v z. let long = ap length (c.in-Some.ensures.only v [] z).1 in grind (arith, nat_tests)

pub returns : goal.returns
returns c = subst (λ k. BeginsWith Vector c.args.octets.now c.in-Some.vector.now k) (nil_from_length _ (search rules)) c.in-Some.ensures

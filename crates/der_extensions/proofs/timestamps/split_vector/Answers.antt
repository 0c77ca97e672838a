use Rattle.std.proofs.Common.{◌-◌, length, take, drop, get_or, sym, subst, arith}
use Rattle.der_values.proofs.Subidentifiers.{first_and_second}
use Rattle.der_extensions.specs.Lists.{BeginsWithNone}
use Rattle.der_extensions.specs.WebExtensions.{Vector}
use Rattle.der_extensions.proofs.VectorLaws.{none_counted, too_short, vector_split}
use Rattle.der_extensions.proofs.timestamps.split_vector.Goals as goal

pub returns-in_default : goal.returns-in_default
returns-in_default c = too_short c.args.octets.now (omega arith)

pub returns-then-count-eq0 : goal.returns-then-count-eq0
returns-then-count-eq0 c =
    let w = c.args.octets.now in
    let two = first_and_second w c.in-len2-up.len_at_least in
    subst (λ i. BeginsWithNone Vector i) (sym two) (none_counted (get_or w 0 0) (get_or w 1 0) (take (length w - 2) (drop 2 w)) (omega (arith, c.from.ensures, c.from-2.ensures)))

pub returns : goal.returns
returns c =
    let w = c.args.octets.now in
    let two = first_and_second w c.in-len2-up.len_at_least in
    vector_split (get_or w 0 0) (get_or w 1 0) _ (take (length w - 2) (drop 2 w)) c.split_at_checked.result two (omega (arith, c.from.ensures, c.from-2.ensures)) (λ e. omega (arith, e)) c.split_at_checked.ensures.cases

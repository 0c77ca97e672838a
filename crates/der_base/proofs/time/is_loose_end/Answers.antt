use Rattle.std.proofs.Common.{codes, refl}
use Rattle.std.proofs.lemmas.Bool.Decides.{Decides-eqb}
use Rattle.std.proofs.lemmas.Slice.Eq.{starts_is, ends_is}
use Rattle.der_base.proofs.Leaves.Decided.{never}
use Rattle.der_base.proofs.Times.TimesStrict.{loose_end_by}
use Rattle.der_base.proofs.time.is_loose_end.Goals as goal

pub returns-then-starts_with-2 : goal.returns-then-starts_with-2
returns-then-starts_with-2 c =
    let comma = starts_is Decides-eqb c.args.behind.now (codes ",") _ c.if-starts_with.ensures.value in
    let point = starts_is Decides-eqb c.args.behind.now (codes ".") _ c.if-starts_with-2.ensures.value in
    let zero = ends_is Decides-eqb c.args.behind.now (codes "0Z") c.ends_with.result c.ends_with.ensures.value in
    loose_end_by c.args.behind.now _ _ c.ends_with.result (λ rest e. never (comma.1 rest e)) (point.0 refl) zero.0 zero.1

use Rattle.std.proofs.Common.{◌++◌, ◌∙◌, codes, refl, sym}
use Rattle.std.proofs.lemmas.Bool.{false≢true}
use Rattle.std.proofs.lemmas.Bool.Decides.{Decides-eqb}
use Rattle.std.proofs.lemmas.Slice.Eq.{starts_is, ends_is}
use Rattle.der_contents.proofs.FormLaws.{last_zero_by}
use Rattle.der_contents.proofs.time_forms.has_last_zero.Goals as goal

pub returns-then-starts_with : goal.returns-then-starts_with
returns-then-starts_with c =
    let point = starts_is Decides-eqb c.args.behind.now (codes ".") _ c.if-starts_with.ensures.value in
    let zero = ends_is Decides-eqb c.args.behind.now (codes "0Z") c.ends_with.result c.ends_with.ensures.value in
    last_zero_by c.args.behind.now _ _ c.ends_with.result (point.0 refl) zero.0 zero.1

pub returns-else-starts_with : goal.returns-else-starts_with
returns-else-starts_with c =
    let point = starts_is Decides-eqb c.args.behind.now (codes ".") c.starts_with.result c.starts_with.ensures.value in
    ((λ t. absurd (false≢true (sym c.if-starts_with.false ∙ t))), (λ h. point.1 (h.0 ++ codes "0Z") h.1))

use Rattle.std.proofs.Common.{refl}
use Rattle.der_values.proofs.LawsLaws.Containers.OpenedLaws.{opened_run}
use Rattle.der_combinators.proofs.tagged.ExplicitContainer.parse.Goals as goal

pub parse_content-requires : goal.parse_content-requires
parse_content-requires g c κs = ((refl, tt), rw (← c.self.view_is) at c.requires)

pub returns-clause-run : goal.returns-clause-run
returns-clause-run g c = (rw (← c.self.view_is) refl, rw (← c.self.view_is) (opened_run _ _ _ c.open_explicit.result c.parse_content.ensures.run c.open_explicit.ensures.ok c.open_explicit.ensures.err))

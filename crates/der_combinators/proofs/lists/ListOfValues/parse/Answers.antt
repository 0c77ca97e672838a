use Rattle.std.proofs.Common.{refl}
use Rattle.der_values.proofs.LawsLaws.Containers.OpenedLaws.{opened_run}
use Rattle.der_combinators.proofs.lists.ListOfValues.parse.Goals as goal

pub parse_items-requires : goal.parse_items-requires
parse_items-requires g c κs = ((refl, tt), rw (← c.self.view_is) at c.requires)

pub returns-clause-run : goal.returns-clause-run
returns-clause-run g c = (
  rw (← c.self.view_is) refl,
  rw (← c.self.view_is, ← c.tag.ensures)
      (opened_run _ _ _ c.open_number-opened.result c.parse_items.ensures.run c.open_number-opened.ensures.ok c.open_number-opened.ensures.err),
)

use Rattle.std.proofs.Common.{refl}
use Rattle.der_values.proofs.LawsLaws.Containers.OpenedLaws.{opened_run, remade_run}
use Rattle.der_combinators.proofs.lists.ListObject.parse.Goals as goal

pub parse_list_content-requires : goal.parse_list_content-requires
parse_list_content-requires g c κs = ((refl, tt), rw (← c.self.view_is) at c.requires)

pub returns-clause-run : goal.returns-clause-run
returns-clause-run g c = (
  rw (← c.self.view_is) refl,
  rw (← c.self.view_is, ← c.tag.ensures)
      (remade_run _ _ _ _ c.with_list.result (opened_run _ _ _ c.open_number-opened.result c.parse_list_content.ensures.run c.open_number-opened.ensures.ok c.open_number-opened.ensures.err) c.with_list.ensures),
)

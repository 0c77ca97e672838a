use Rattle.der_input.proofs.Searches.{occurs_by}
use Rattle.der_input.proofs.search.occurs_at.Goals as goal

pub returns : goal.returns
returns c = occurs_by c.args.text.now c.args.needle.now _ c.args.place c.starts_with.result c.requires c.rest_from.ensures c.starts_with.ensures.value

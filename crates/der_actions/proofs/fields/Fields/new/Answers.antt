use Rattle.der_actions.proofs.Fielding.{followed_none}
use Rattle.der_actions.proofs.NamePaths.{steps_none}
use Rattle.der_actions.proofs.fields.Fields.new.Goals as goal

pub returns : goal.returns
returns c = record {
  named = c.namer_of.ensures;
  steps = steps_none _ _ _ c.new-2.ensures;
  followed = followed_none c.args.schema c.args.input.now c.new.result c.new.ensures;
}

use Rattle.der_contents.specs.ContentRules.{content_rules}
use Rattle.der_elements.proofs.CheckLaws.Contents.{all_by_check}
use Rattle.der_elements.proofs.check.rules.is_content.Goals as goal

pub returns : goal.returns
returns c = rw c.is_ok.ensures.value (all_by_check (content_rules c.args.rules c.args.number c.args.octets.now) c.check_content.result c.check_content.ensures)

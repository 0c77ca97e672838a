use Rattle.der_readers.proofs.BerLaws.Leaves.{text_read}
use Rattle.der_readers.proofs.ber.leaf.read_string.Goals as goal

pub returns : goal.returns
returns c = λ r. text_read r c.args.tag.0 c.args.octets.now _ _ c.requires c.text_content.ensures c.in_ok-read_text.ensures

use Rattle.c_formats.proofs.SameOctets.{same_finish}
use Rattle.c_formats.proofs.text.next_text.Goals as goal

pub returns : goal.returns
returns c =
    let found = c.read_text-found.result in
    (c.resume-fields.result, c.read_text-found.new.fields, found, c.resume-fields.ensures, c.read_text-found.ensures, same_finish found c.octets_of.result _ _ _ _ _ _ c.octets_of.ensures c.finish_octets.ensures)

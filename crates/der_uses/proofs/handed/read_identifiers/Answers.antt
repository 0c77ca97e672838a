use Rattle.std.proofs.Common.{rules}
use Rattle.der_parser.specs.Formats.{Never, NoMemory, ObjectIdentifier, ReadsField, Required}
use Rattle.der_parser.specs.Kinds.{borrowed_octets}
use Rattle.der_parser.proofs.FormatLaws.{inside, required_takes}
use Rattle.der_parser.proofs.FormatLists.{all_read}
use Rattle.der_parser.proofs.FormatSequences.{may_need, refused_open}
use Rattle.der_uses.proofs.UseLaws.{begins_read}
use Rattle.der_uses.proofs.handed.read_identifiers.Goals as goal

pub returns-in_err-open_sequence : goal.returns-in_err-open_sequence
returns-in_err-open_sequence c = begins_read {d = c.open_sequence.new.self} c.new.ensures _ (refused_open _ _ c.in_err-open_sequence.ensures c.from_residual.ensures.1)

pub returns : goal.returns
returns c = begins_read {d = c.open_sequence.new.self} c.new.ensures _ (inside _ _ c.in_ok-open_sequence.ensures (all_read (Required ObjectIdentifier) borrowed_octets (required_takes ObjectIdentifier)
    (λ f g a b r s. let h : ReadsField (Required ObjectIdentifier) borrowed_octets Never a.now r b.now = search rules in may_need NoMemory r h) _ _ _ _ c.read_all.ensures))

use Rattle.std.proofs.Common.{[], refl}
use Rattle.der_print.specs.Texts.{octets_in}
use Rattle.der_print.proofs.PartLaws.{grown_none}
use Rattle.der_print.proofs.line_octets.LineOctets.put_ending.Goals as goal

pub returns-then-ends_with_type : goal.returns-then-ends_with_type
returns-then-ends_with_type c =
    let e = c.ends_with_type.ensures c.if-ends_with_type.true in
    ([], refl, rw (e.0, e.1) refl, grown_none c.args.limit (octets_in c.args.self.now))

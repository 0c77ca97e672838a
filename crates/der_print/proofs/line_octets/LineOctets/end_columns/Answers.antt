use Rattle.std.proofs.Common.{◌≡◌, ◌-◌, ◌∙◌, ap, arith, length}
use Rattle.der_print.specs.declared.style.Limit.TheVariants.{Columns}
use Rattle.der_print.specs.Texts.{octets_in}
use Rattle.der_print.proofs.PartLaws.{columns_left}
use Rattle.der_print.proofs.line_octets.LineOctets.end_columns.Goals as goal

pub returns : goal.returns
returns c =
    let old = octets_in c.args.self.now in
    let new = octets_in c.cut.new.self in
    let same : c.saturating_sub.result ≡ c.args.columns - (length new - c.args.start) = omega arith in
    let cut = c.in_ok-cut.ensures in
    record { octets = cut; left = ap Columns same ∙ columns_left old new c.args.start c.args.columns cut }

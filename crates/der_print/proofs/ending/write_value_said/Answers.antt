use Rattle.std.proofs.Common.{Some, ◌++◌, refl, subst}
use Rattle.std.proofs.Output.{has_written_append}
use Rattle.der_print.specs.Lines.{after_spaces}
use Rattle.der_print.specs.Names.{table_of}
use Rattle.der_print.specs.Remarks.{remark_text}
use Rattle.der_print.specs.Texts.{content_of}
use Rattle.der_print.specs.Values.{IsValue}
use Rattle.der_print.proofs.ending.write_value_said.Goals as goal

pub returns-in_ok-write_value-in-Some : goal.returns-in_ok-write_value-in-Some
returns-in_ok-write_value-in-Some g c =
    let e = c.args.element.now in
    let remark = Some (remark_text c.in-Some.remark) in
    λ plain ok.
    let value = c.in_ok-write_value-in-Some.ensures plain refl in
    let said = c.write.ensures.writes value.2.plain ok in (
      value.0 ++ after_spaces remark,
      record {
        remark = remark;
        is_remark = c.in-Some.ensures;
        value = value.0;
        is_value = subst (λ limit. IsValue (table_of c.args.own) limit e.class e.number (content_of e) value.0) (c.beside.ensures (remark_text c.in-Some.remark)) value.1;
        whole = refl;
      },
      has_written_append _ _ _ _ _ _ value.2 said,
    )

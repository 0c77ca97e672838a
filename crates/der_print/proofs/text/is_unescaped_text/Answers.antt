use Rattle.std.proofs.Common.{◌∙◌, ap, sym}
use Rattle.std.specs.List.{list_all}
use Rattle.der_print.specs.Quotes.{is_plain}
use Rattle.der_print.proofs.QuoteLaws.{plain_unescaped}
use Rattle.der_print.proofs.text.is_unescaped_text.Goals as goal

pub returns-then-are_plain : goal.returns-then-are_plain
returns-then-are_plain c =
    let plain = sym c.are_plain.ensures ∙ c.if-are_plain.true in
    c.if-are_plain.true
    ∙ sym (plain_unescaped c.args.text.now (ap (list_all is_plain) (sym c.as_bytes.ensures.value) ∙ plain))

use Rattle.std.proofs.Common.{refl, subst}
use Rattle.der_base.specs.declared.rules.Rules.TheVariants.{Der}
use Rattle.der_cursor.specs.Formats.{Never, ReadsInput}
use Rattle.der_extensions.specs.GeneralNames.{GeneralNames}
use Rattle.c_formats.specs.ExtensionValues.{names_octets}
use Rattle.c_formats.specs.Found.{repeated, single}
use Rattle.c_formats.specs.Items.{left}
use Rattle.c_formats.proofs.found.write_alt_names.Goals as goal

pub returns-in-Some-first_of_kind : goal.returns-in-Some-first_of_kind
returns-in-Some-first_of_kind c =
    let x = c.in-Some.ensures in
    let y = c.in-Some-first_of_kind.ensures in
    repeated x.0 y.0 (left c.in-Some.rest) (left c.in-Some-first_of_kind.field-0.1) x.1 y.1 refl c.rule_fault.ensures

pub returns-in-None : goal.returns-in-None
returns-in-None c =
    let x = c.in-Some.ensures in
    let r = c.read_general_names.result in
    let read = subst (λ w. ReadsInput Der GeneralNames names_octets Never w r) x.2.value c.read_general_names.ensures in
    single x.0 (left c.in-Some.rest) x.1 c.in-None.ensures (r, read, c.write_list.ensures)

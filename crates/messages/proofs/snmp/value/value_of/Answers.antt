use Rattle.std.proofs.Common.{◌≡◌, true, false, arith, refl, rules, ◌∙◌, FitsSigned, w32}
use Rattle.std.proofs.lemmas.Int.{to_z-of_z}
use Rattle.std.proofs.lemmas.Result.{err_from_is_err_and}
use Rattle.der_base.specs.declared.header.Class.TheVariants.{Universal, Application, ContextSpecific, Private}
use Rattle.der_base.specs.Header.{class_of, is_constructed, number_of}
use Rattle.der_base.specs.Refusal.{refusal}
use Rattle.der_cursor.specs.Formats.{End, Value, element_of}
use Rattle.messages.specs.declared.snmp.message.Value.TheVariants.{Null, NoSuchObject, NoSuchInstance, EndOfMibView}
use Rattle.messages.proofs.SnmpLaws.SyntaxLaws.{is_value, no_value, value_of_none, no_address, no_counter32, no_counter64, no_end, no_gauge32, no_identifier}
use Rattle.messages.proofs.SnmpLaws.SyntaxLaws.{no_application, no_context, no_instance, no_integer, no_null, no_object, no_private, no_time_ticks, no_universal}
use Rattle.messages.proofs.snmp.value.value_of.Goals.{in_default-via-in-Universal+in_default-1, in_default-via-in-Application+in_default-1, in_default-via-in-ContextSpecific+in_default-1, in_default-via-in-Private-1}
use Rattle.messages.proofs.snmp.value.value_of.Goals as goal

pub returns-in_err-assert_primitive : goal.returns-in_err-assert_primitive
returns-in_err-assert_primitive c =
    let q = err_from_is_err_and c.from_residual.result c.from_residual.ensures.1 in
    rw q.1 (no_value (element_of c.args.element) _ (λ v p z. let h : is_constructed c.args.element.header ≡ true = c.in_err-assert_primitive.ensures.0 in let k : is_constructed c.args.element.header ≡ false = p in absurd cc))

pub returns-in_err-read_i32-in-Universal-eq2 : goal.returns-in_err-read_i32-in-Universal-eq2
returns-in_err-read_i32-in-Universal-eq2 c =
    let ec : class_of c.args.element.header ≡ Universal = cc in
    let et : number_of c.args.element.header ≡ 2 = cc in
    let ep : is_constructed c.args.element.header ≡ false = search rules in
    let q = err_from_is_err_and c.from_residual-in_err-read_i32-in-Universal-eq2.result c.from_residual-in_err-read_i32-in-Universal-eq2.ensures.1 in
    rw q.1 (no_value (element_of c.args.element) _ (λ v p z. no_integer c.args.element.bytes.now (refusal c.in_err-read_i32-in-Universal-eq2.field-0.0) c.in_err-read_i32-in-Universal-eq2.ensures v _ _ ec et z))

pub returns-in_ok-read_i32-in-Universal-eq2 : goal.returns-in_ok-read_i32-in-Universal-eq2
unfolding Value End
returns-in_ok-read_i32-in-Universal-eq2 c =
    let ec : class_of c.args.element.header ≡ Universal = cc in
    let et : number_of c.args.element.header ≡ 2 = cc in
    let ep : is_constructed c.args.element.header ≡ false = search rules in
    let f : FitsSigned w32 c.in_ok-read_i32-in-Universal-eq2.field-0 = search rules in
    is_value (element_of c.args.element) _ ep (ec, et, (c.in_ok-read_i32-in-Universal-eq2.ensures.0, to_z-of_z w32 _ f ∙ c.in_ok-read_i32-in-Universal-eq2.ensures.1))

pub returns-in-Universal-eq4 : goal.returns-in-Universal-eq4
unfolding Value End
returns-in-Universal-eq4 c =
    let ec : class_of c.args.element.header ≡ Universal = cc in
    let et : number_of c.args.element.header ≡ 4 = cc in
    let ep : is_constructed c.args.element.header ≡ false = search rules in
    is_value (element_of c.args.element) _ ep (ec, et, (tt, refl))

pub returns-in-Universal-eq5 : goal.returns-in-Universal-eq5
unfolding Value End
returns-in-Universal-eq5 c =
    let ec : class_of c.args.element.header ≡ Universal = cc in
    let et : number_of c.args.element.header ≡ 5 = cc in
    let ep : is_constructed c.args.element.header ≡ false = search rules in
    value_of_none (element_of c.args.element) Null _ ep c.of_no_octets.ensures (λ h. (ec, et, h)) (λ h v z. no_null c.args.element.bytes.now h v _ _ ec et z)

pub returns-in_err-read_identifier-in-Universal-eq6 : goal.returns-in_err-read_identifier-in-Universal-eq6
returns-in_err-read_identifier-in-Universal-eq6 c =
    let ec : class_of c.args.element.header ≡ Universal = cc in
    let et : number_of c.args.element.header ≡ 6 = cc in
    let ep : is_constructed c.args.element.header ≡ false = search rules in
    let q = err_from_is_err_and c.from_residual-in_err-read_identifier-in-Universal-eq6.result c.from_residual-in_err-read_identifier-in-Universal-eq6.ensures.1 in
    rw q.1 (no_value (element_of c.args.element) _ (λ v p z. no_identifier c.args.element.bytes.now (refusal c.in_err-read_identifier-in-Universal-eq6.field-0.0) c.in_err-read_identifier-in-Universal-eq6.ensures v _ _ ec et z))

pub returns-in_ok-read_identifier-in-Universal-eq6 : goal.returns-in_ok-read_identifier-in-Universal-eq6
unfolding Value End
returns-in_ok-read_identifier-in-Universal-eq6 c =
    let ec : class_of c.args.element.header ≡ Universal = cc in
    let et : number_of c.args.element.header ≡ 6 = cc in
    let ep : is_constructed c.args.element.header ≡ false = search rules in
    is_value (element_of c.args.element) _ ep (ec, et, c.in_ok-read_identifier-in-Universal-eq6.ensures)

pub returns-in_err-address_of-in-Application-eq0 : goal.returns-in_err-address_of-in-Application-eq0
returns-in_err-address_of-in-Application-eq0 c =
    let ec : class_of c.args.element.header ≡ Application = cc in
    let et : number_of c.args.element.header ≡ 0 = cc in
    let ep : is_constructed c.args.element.header ≡ false = search rules in
    let q = err_from_is_err_and c.from_residual-in_err-address_of-in-Application-eq0.result c.from_residual-in_err-address_of-in-Application-eq0.ensures.1 in
    rw q.1 (no_value (element_of c.args.element) _ (λ v p z. no_address c.args.element.bytes.now (λ l. c.in_err-address_of-in-Application-eq0.ensures.only c.args.element.bytes.now (refl, l)) v _ _ ec et z))

pub returns-in_ok-address_of-in-Application-eq0 : goal.returns-in_ok-address_of-in-Application-eq0
unfolding Value End
returns-in_ok-address_of-in-Application-eq0 c =
    let ec : class_of c.args.element.header ≡ Application = cc in
    let et : number_of c.args.element.header ≡ 0 = cc in
    let ep : is_constructed c.args.element.header ≡ false = search rules in
    is_value (element_of c.args.element) _ ep (ec, et, ((tt, c.in_ok-address_of-in-Application-eq0.ensures.found.0), c.in_ok-address_of-in-Application-eq0.ensures.found.1))

pub returns-in_err-read_u32-in-Application-eq1 : goal.returns-in_err-read_u32-in-Application-eq1
returns-in_err-read_u32-in-Application-eq1 c =
    let ec : class_of c.args.element.header ≡ Application = cc in
    let et : number_of c.args.element.header ≡ 1 = cc in
    let ep : is_constructed c.args.element.header ≡ false = search rules in
    let q = err_from_is_err_and c.from_residual-in_err-read_u32-in-Application-eq1.result c.from_residual-in_err-read_u32-in-Application-eq1.ensures.1 in
    rw q.1 (no_value (element_of c.args.element) _ (λ v p z. no_counter32 c.args.element.bytes.now (refusal c.in_err-read_u32-in-Application-eq1.field-0.0) c.in_err-read_u32-in-Application-eq1.ensures v _ _ ec et z))

pub returns-in_ok-read_u32-in-Application-eq1 : goal.returns-in_ok-read_u32-in-Application-eq1
unfolding Value End
returns-in_ok-read_u32-in-Application-eq1 c =
    let ec : class_of c.args.element.header ≡ Application = cc in
    let et : number_of c.args.element.header ≡ 1 = cc in
    let ep : is_constructed c.args.element.header ≡ false = search rules in
    is_value (element_of c.args.element) _ ep (ec, et, c.in_ok-read_u32-in-Application-eq1.ensures)

pub returns-in_err-read_u32-in-Application-eq2 : goal.returns-in_err-read_u32-in-Application-eq2
returns-in_err-read_u32-in-Application-eq2 c =
    let ec : class_of c.args.element.header ≡ Application = cc in
    let et : number_of c.args.element.header ≡ 2 = cc in
    let ep : is_constructed c.args.element.header ≡ false = search rules in
    let q = err_from_is_err_and c.from_residual-in_err-read_u32-in-Application-eq2.result c.from_residual-in_err-read_u32-in-Application-eq2.ensures.1 in
    rw q.1 (no_value (element_of c.args.element) _ (λ v p z. no_gauge32 c.args.element.bytes.now (refusal c.in_err-read_u32-in-Application-eq2.field-0.0) c.in_err-read_u32-in-Application-eq2.ensures v _ _ ec et z))

pub returns-in_ok-read_u32-in-Application-eq2 : goal.returns-in_ok-read_u32-in-Application-eq2
unfolding Value End
returns-in_ok-read_u32-in-Application-eq2 c =
    let ec : class_of c.args.element.header ≡ Application = cc in
    let et : number_of c.args.element.header ≡ 2 = cc in
    let ep : is_constructed c.args.element.header ≡ false = search rules in
    is_value (element_of c.args.element) _ ep (ec, et, c.in_ok-read_u32-in-Application-eq2.ensures)

pub returns-in_err-read_u32-in-Application-eq3 : goal.returns-in_err-read_u32-in-Application-eq3
returns-in_err-read_u32-in-Application-eq3 c =
    let ec : class_of c.args.element.header ≡ Application = cc in
    let et : number_of c.args.element.header ≡ 3 = cc in
    let ep : is_constructed c.args.element.header ≡ false = search rules in
    let q = err_from_is_err_and c.from_residual-in_err-read_u32-in-Application-eq3.result c.from_residual-in_err-read_u32-in-Application-eq3.ensures.1 in
    rw q.1 (no_value (element_of c.args.element) _ (λ v p z. no_time_ticks c.args.element.bytes.now (refusal c.in_err-read_u32-in-Application-eq3.field-0.0) c.in_err-read_u32-in-Application-eq3.ensures v _ _ ec et z))

pub returns-in_ok-read_u32-in-Application-eq3 : goal.returns-in_ok-read_u32-in-Application-eq3
unfolding Value End
returns-in_ok-read_u32-in-Application-eq3 c =
    let ec : class_of c.args.element.header ≡ Application = cc in
    let et : number_of c.args.element.header ≡ 3 = cc in
    let ep : is_constructed c.args.element.header ≡ false = search rules in
    is_value (element_of c.args.element) _ ep (ec, et, c.in_ok-read_u32-in-Application-eq3.ensures)

pub returns-in-Application-eq4 : goal.returns-in-Application-eq4
unfolding Value End
returns-in-Application-eq4 c =
    let ec : class_of c.args.element.header ≡ Application = cc in
    let et : number_of c.args.element.header ≡ 4 = cc in
    let ep : is_constructed c.args.element.header ≡ false = search rules in
    is_value (element_of c.args.element) _ ep (ec, et, (tt, refl))

pub returns-in_err-read_u64-in-Application-eq6 : goal.returns-in_err-read_u64-in-Application-eq6
returns-in_err-read_u64-in-Application-eq6 c =
    let ec : class_of c.args.element.header ≡ Application = cc in
    let et : number_of c.args.element.header ≡ 6 = cc in
    let ep : is_constructed c.args.element.header ≡ false = search rules in
    let q = err_from_is_err_and c.from_residual-in_err-read_u64-in-Application-eq6.result c.from_residual-in_err-read_u64-in-Application-eq6.ensures.1 in
    rw q.1 (no_value (element_of c.args.element) _ (λ v p z. no_counter64 c.args.element.bytes.now (refusal c.in_err-read_u64-in-Application-eq6.field-0.0) c.in_err-read_u64-in-Application-eq6.ensures v _ _ ec et z))

pub returns-in_ok-read_u64-in-Application-eq6 : goal.returns-in_ok-read_u64-in-Application-eq6
unfolding Value End
returns-in_ok-read_u64-in-Application-eq6 c =
    let ec : class_of c.args.element.header ≡ Application = cc in
    let et : number_of c.args.element.header ≡ 6 = cc in
    let ep : is_constructed c.args.element.header ≡ false = search rules in
    is_value (element_of c.args.element) _ ep (ec, et, c.in_ok-read_u64-in-Application-eq6.ensures)

pub returns-in-ContextSpecific-eq0 : goal.returns-in-ContextSpecific-eq0
unfolding Value End
returns-in-ContextSpecific-eq0 c =
    let ec : class_of c.args.element.header ≡ ContextSpecific = cc in
    let et : number_of c.args.element.header ≡ 0 = cc in
    let ep : is_constructed c.args.element.header ≡ false = search rules in
    value_of_none (element_of c.args.element) NoSuchObject _ ep c.of_no_octets-in-ContextSpecific-eq0.ensures (λ h. (ec, et, h)) (λ h v z. no_object c.args.element.bytes.now h v _ _ ec et z)

pub returns-in-ContextSpecific-eq1 : goal.returns-in-ContextSpecific-eq1
unfolding Value End
returns-in-ContextSpecific-eq1 c =
    let ec : class_of c.args.element.header ≡ ContextSpecific = cc in
    let et : number_of c.args.element.header ≡ 1 = cc in
    let ep : is_constructed c.args.element.header ≡ false = search rules in
    value_of_none (element_of c.args.element) NoSuchInstance _ ep c.of_no_octets-in-ContextSpecific-eq1.ensures (λ h. (ec, et, h)) (λ h v z. no_instance c.args.element.bytes.now h v _ _ ec et z)

pub returns-in-ContextSpecific-eq2 : goal.returns-in-ContextSpecific-eq2
unfolding Value End
returns-in-ContextSpecific-eq2 c =
    let ec : class_of c.args.element.header ≡ ContextSpecific = cc in
    let et : number_of c.args.element.header ≡ 2 = cc in
    let ep : is_constructed c.args.element.header ≡ false = search rules in
    value_of_none (element_of c.args.element) EndOfMibView _ ep c.of_no_octets-in-ContextSpecific-eq2.ensures (λ h. (ec, et, h)) (λ h v z. no_end c.args.element.bytes.now h v _ _ ec et z)

pub returns-in_default : goal.returns-in_default
returns-in_default c = elim c.in_default-1.branch [
  | in_default-via-in-Universal+in_default-1 w ↦
      let ec : class_of c.args.element.header ≡ Universal = cc in
      no_value (element_of c.args.element) _ (λ v p z. no_universal v _ _ _ ec (λ e. omega arith) (λ e. omega arith) (λ e. omega arith) (λ e. omega arith) z)
  | in_default-via-in-Application+in_default-1 w ↦
      let ec : class_of c.args.element.header ≡ Application = cc in
      no_value (element_of c.args.element) _ (λ v p z. no_application v _ _ _ ec (λ e. omega arith) (λ e. omega arith) (λ e. omega arith) (λ e. omega arith) (λ e. omega arith) (λ e. omega arith) z)
  | in_default-via-in-ContextSpecific+in_default-1 w ↦
      let ec : class_of c.args.element.header ≡ ContextSpecific = cc in
      no_value (element_of c.args.element) _ (λ v p z. no_context v _ _ _ ec (λ e. omega arith) (λ e. omega arith) (λ e. omega arith) z)
  | in_default-via-in-Private-1 w ↦
      let ec : class_of c.args.element.header ≡ Private = cc in
      no_value (element_of c.args.element) _ (λ v p z. no_private v _ _ _ ec z)
]

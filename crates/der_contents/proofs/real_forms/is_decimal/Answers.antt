use Rattle.der_contents.specs.Grammar.{IsSign, IsSpace, MaybeThen}
use Rattle.der_contents.specs.RealForms.{IsOfForm}
use Rattle.der_contents.proofs.FormLaws.{form_no_sign, signed_no_space}
use Rattle.der_contents.proofs.GrammarLaws.{any_passed, maybe_passed, told_at}
use Rattle.der_contents.proofs.real_forms.is_decimal.Goals as goal

pub returns : goal.returns
returns c =
    told_at _ _ _
    (any_passed IsSpace (MaybeThen IsSign (IsOfForm c.args.form)) (signed_no_space c.args.form) c.args.text.now
    c.skip_spaces.result.now c.skip_spaces.ensures)
    (told_at _ _ _
    (maybe_passed IsSign (IsOfForm c.args.form) (form_no_sign c.args.form) c.skip_spaces.result.now
    c.skip_sign-number.result.now c.skip_sign-number.ensures)
    c.is_of_form.ensures)

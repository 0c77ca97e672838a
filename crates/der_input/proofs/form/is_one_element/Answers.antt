use Rattle.std.proofs.Common.{◌≡◌, ◌∙◌, sym}
use Rattle.std.proofs.lemmas.Bool.{false≢true}
use Rattle.der_base.specs.Headers.{leading_header}
use Rattle.der_input.proofs.Elements.{header_of, is_one, not_refused, only_length}
use Rattle.der_input.proofs.form.is_one_element.Goals as goal

pub returns-in-Ok : goal.returns-in-Ok
returns-in-Ok c =
    let i = c.args.input.now in (
      λ t. is_one i c.in-Ok.content c.in-Ok.header c.in-Ok.ensures.found (sym c.length.ensures ∙ c.is_definite.ensures.0 t),
      λ one. c.is_definite.ensures.1 (c.length.ensures ∙ only_length i c.in-Ok.content c.in-Ok.header one (c.in-Ok.ensures.only (header_of i one) one.4)),
    )

pub returns-in-Err : goal.returns-in-Err
returns-in-Err c =
    let i = c.args.input.now in (
      λ t. absurd (false≢true t),
      λ one. absurd (not_refused c.in-Err.field-0 (λ x. leading_header x ≡ header_of i one) (c.in-Err.ensures.only (header_of i one) one.4)),
    )

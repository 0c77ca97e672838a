use Rattle.std.proofs.Common.{◌≡◌, ◌≢◌, rules}
use Rattle.der_elements.specs.Walked.{visited_of}
use Rattle.der_canon.specs.declared.piece.Form.TheVariants.{Primitive}
use Rattle.der_canon.specs.NoDer.{part, value, string_after, unused_after}
use Rattle.der_canon.proofs.Forms.{none_broken}
use Rattle.der_canon.proofs.Readings.{has_der}
use Rattle.der_canon.proofs.piece.form_in_der.Goals as goal

pub returns-in-Err-clause-der : goal.returns-in-Err-clause-der
returns-in-Err-clause-der c = λ i vs g a. part (c.in-Err.ensures.part i (string_after vs) (unused_after i vs) g a)

pub returns-in-Ok-clause-der : goal.returns-in-Ok-clause-der
returns-in-Ok-clause-der c = λ i vs g a.
    let f = c.in-Ok.ensures.part i (string_after vs) (unused_after i vs) g a in
    let never : c.in-Ok.form ≢ Primitive = search rules in
    (f.0, has_der i vs (visited_of c.args.element.now) f.1 (λ k inside con u h. never (f.2.1 (inside, con))))

pub returns-in-Ok-check_value-clause-der : goal.returns-in-Ok-check_value-clause-der
returns-in-Ok-check_value-clause-der c = λ i vs g a.
    let f = c.in-Ok.ensures.part i (string_after vs) (unused_after i vs) g a in
    (f.0, has_der i vs (visited_of c.args.element.now) f.1 (λ k inside con u h. none_broken _ h.0 (c.in-Ok-check_value.ensures i g con u) h.1))

pub returns-in-Err-check_value-clause-der : goal.returns-in-Err-check_value-clause-der
returns-in-Err-check_value-clause-der c = λ i vs g a.
    let f = c.in-Ok.ensures.part i (string_after vs) (unused_after i vs) g a in
    let is : c.in-Ok.form ≡ Primitive = search rules in
    let whole = f.2.0 is in
    let q = c.in-Err-check_value.ensures i g whole.1 in
    value whole.0 whole.1 q.0 q.1

pub returns-in-Ok-clause-kept : goal.returns-in-Ok-clause-kept
returns-in-Ok-clause-kept c = λ i g headed con u.
    let never : c.in-Ok.form ≢ Primitive = search rules in
    absurd (never (c.in-Ok.ensures.form.primitive headed con))

pub returns-in-Ok-check_value-clause-kept : goal.returns-in-Ok-check_value-clause-kept
returns-in-Ok-check_value-clause-kept c = λ i g headed con u. c.in-Ok-check_value.ensures i g con u

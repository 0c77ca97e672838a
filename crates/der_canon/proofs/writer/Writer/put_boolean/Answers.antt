use Rattle.std.proofs.Common.{[], ◌∷◌, ap, subst, ◌∙◌}
use Rattle.der_canon.specs.Writing.{Puts}
use Rattle.der_canon.proofs.Puts.{one_boolean, other_boolean}
use Rattle.der_canon.proofs.writer.Writer.put_boolean.Goals as goal

pub returns-then-content-eq1 : goal.returns-then-content-eq1
returns-then-content-eq1 c =
    subst (λ z. Puts z c.args.self.now c.args.out.now c.put.new.self c.put.new.out) (ap (λ z. z ∷ []) c.boolean.ensures ∙ one_boolean c.args.content.now c.if-content-eq1.true) c.put.ensures

pub returns-else-content-eq1 : goal.returns-else-content-eq1
returns-else-content-eq1 c =
    subst (λ z. Puts z c.args.self.now c.args.out.now c.put-else-content-eq1.new.self c.put-else-content-eq1.new.out) (other_boolean c.args.content.now c.if-content-eq1.false) c.put-else-content-eq1.ensures

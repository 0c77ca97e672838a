use Rattle.std.proofs.Common.{◌++◌, ◌∷◌, [], ◌∙◌, ap, append_assoc, rules, sym}
use Rattle.std.proofs.lemmas.List.{append-nil}
use Rattle.der_base.specs.Pretty.{spaces}
use Rattle.der_text.proofs.Looks.{one_more}
use Rattle.der_text.proofs.Printed.{puts_none, pushed_space}
use Rattle.der_text.proofs.write.write_spaces.Goals as goal

pub spaces-init : goal.spaces-init
spaces-init c = (puts_none c.args.out.now.items, sym (append-nil c.args.out.now.items))

pub spaces-preserved : goal.spaces-preserved
spaces-preserved c = (
  pushed_space c.spaces.invariant.0 c.in_ok-push.ensures.items,
  c.in_ok-push.ensures.items ∙ ap (λ x. x ++ 32 ∷ []) c.spaces.invariant.1
      ∙ append_assoc c.args.out.now.items (spaces c.spaces.counter) (32 ∷ []) ∙ ap (λ x. c.args.out.now.items ++ x) (one_more c.spaces.counter),
)

pub returns-clause-puts : goal.returns-clause-puts
returns-clause-puts c = c.spaces.invariant.0

pub returns-clause-text : goal.returns-clause-text
returns-clause-text c = search rules

use Rattle.std.proofs.Common.{◌≡◌, true, false, drop, get_or, refl, sym, ap, ◌∙◌, ◌+◌, arith, rules}
use Rattle.std.specs.Prelude.{nat_lt}
use Rattle.std.specs.List.{list_all}
use Rattle.std.proofs.lemmas.Bool.{false≢true}
use Rattle.std.proofs.lemmas.List.{drop_all}
use Rattle.der_base.specs.Arcs.{subidentifiers}
use Rattle.der_base.proofs.Oids.Arcs.{octet_at}
use Rattle.der_values.specs.Kinds.{is_unpadded}
use Rattle.der_values.proofs.PaddedArcs.{unpadded_from, unpadded, passed, padded}
use Rattle.der_values.proofs.oid.has_padded_arc.Goals as goal
use Rattle.der_values.proofs.oid.has_padded_arc.Goals.{else-begins-via-then-begins+else-octet, else-begins-via-else-begins}

pub loop-octet-init : goal.loop-octet-init
loop-octet-init c = refl

pub returns-then-octet : goal.returns-then-octet
returns-then-octet c =
    let w = c.args.octets.now in
    let k = c.loop-octet.octet-index in
    let at = octet_at w k (omega arith) in
    let begins : c.loop-octet.begins ≡ true = search rules in
    let is : get_or w k 0 ≡ 128 = search rules in
    let no : list_all is_unpadded (subidentifiers w) ≡ false =
    sym (unpadded w) ∙ sym c.loop-octet.invariant ∙ ap (unpadded_from c.loop-octet.begins) at ∙ padded c.loop-octet.begins _ (drop (k + 1) w) begins is in
    ((λ t. no), (λ t. refl))

pub loop-octet-preserved : goal.loop-octet-preserved
loop-octet-preserved c =
    let w = c.args.octets.now in
    let k = c.loop-octet.octet-index in
    let b = get_or w k 0 in
    let other : c.loop-octet.begins ≡ true → b ≡ 128 → ⊥ =
    elim c.else-begins.branch [
      | else-begins-via-then-begins+else-octet v ↦ (λ t e. search (rules, e, v.if-octet))
      | else-begins-via-else-begins v ↦ (λ t e. false≢true (search (rules, t, v.if-begins)))
    ] in
    passed c.loop-octet.begins (nat_lt b 128) b (drop (k + 1) w) other refl ∙ ap (unpadded_from c.loop-octet.begins) (sym (octet_at w k (omega arith))) ∙ c.loop-octet.invariant

pub returns : goal.returns
returns c =
    let w = c.args.octets.now in
    let yes : list_all is_unpadded (subidentifiers w) ≡ true =
    sym (unpadded w) ∙ sym c.loop-octet.invariant ∙ ap (unpadded_from c.loop-octet.begins) (drop_all c.loop-octet.octet-index w (omega arith)) in
    ((λ t. absurd (false≢true t)), (λ p. absurd (false≢true (sym p ∙ yes))))

use Rattle.std.proofs.Common.{◌||◌, ◌==◌, ◌∙◌, ap, arith, false, length, slice_index, subst, sym}
use Rattle.std.proofs.lemmas.List.{nil_from_length, take_rest}
use Rattle.extension_text.specs.Names.Escapes.{IsPlain, is_plain, nothing}
use Rattle.extension_text.proofs.NamesLaws.EscapeLaws.{plain_more}
use Rattle.extension_text.proofs.names.escaped.are_plain.Goals as goal

pub loop-left-preserved : goal.loop-left-preserved
loop-left-preserved c =
    let w = c.loop-left.left.now in
    let first = c.loop-left.first in
    let is = ap (λ r. is_plain (slice_index w 0) (first || length r == 0) first) (sym (take_rest w 1)) ∙ sym c.is_plain.ensures ∙ c.if-not-is_plain.false in
    record { done = λ p. c.loop-left.invariant.done (plain_more first w c.in-len1-up.len_at_least is (subst (IsPlain false) (take_rest w 1) p)) }

pub returns : goal.returns
returns c = λ e. c.loop-left.invariant.done (subst (IsPlain c.loop-left.first) (sym (nil_from_length c.loop-left.left.now (omega (arith, c.in_default.len_below)))) nothing)

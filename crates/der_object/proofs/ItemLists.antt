-- The items of lists.
use Rattle.std.proofs.Common.{◌≡◌, Ok, refl, sym, ap, subst, ◌∙◌}
use Rattle.std.specs.Borrow.{Bor}
use Rattle.std.specs.declared.vec.Vec.{Vec}
use Rattle.std.specs.declared.alloc.Global.{Global}
use Rattle.der_base.specs.Parts.{AnswersPart, sequence_part, set_part}
use Rattle.der_object.specs.declared.object.BerObject.{BerObject}
use Rattle.der_object.specs.declared.object.BerObjectContent.{BerObjectContent}
use Rattle.der_object.specs.declared.object.BerObjectContent.TheVariants.{Sequence, Set}
use Rattle.der_object.specs.declared.object.BerObjectContent.TheBlock.{items_hidden-the_row-BerObject-0}
use Rattle.der_object.specs.Items.{items_of, AnswersItems}
use Rattle.der_object.specs.View.{content_tree, trees}
use Rattle.der_object.proofs.Trees.{sequence_tree, set_tree}

pub of_sequence : (v : Vec BerObject Global) → items_of (Sequence v) ≡ v.items
of_sequence v = items_hidden-the_row-BerObject-0 v

pub of_set : (v : Vec BerObject Global) → items_of (Set v) ≡ v.items
of_set v = items_hidden-the_row-BerObject-0 v

-- a list answers its items
pub sequence_answers : (x : BerObjectContent) (r : Bor (Vec BerObject Global)) → x ≡ Sequence r.now → AnswersItems sequence_part x (Ok r)
sequence_answers x r e = record {
  part = subst (λ c. AnswersPart (λ v. trees v.now.items) (sequence_part c) (Ok r)) (sym (ap content_tree e ∙ sequence_tree r.now)) refl;
  items = sym (ap items_of e ∙ of_sequence r.now);
}

pub set_answers : (x : BerObjectContent) (r : Bor (Vec BerObject Global)) → x ≡ Set r.now → AnswersItems set_part x (Ok r)
set_answers x r e = record {
  part = subst (λ c. AnswersPart (λ v. trees v.now.items) (set_part c) (Ok r)) (sym (ap content_tree e ∙ set_tree r.now)) refl;
  items = sym (ap items_of e ∙ of_set r.now);
}

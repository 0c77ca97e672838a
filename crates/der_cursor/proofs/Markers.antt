-- Whether an end marker follows the content of an element that was read.
use Rattle.std.proofs.Common.{ℕ, List, length, Ok, Err, refl}
use Rattle.std.specs.Prelude.{IfOk}
use Rattle.der_base.specs.declared.any.Any.{Any}
use Rattle.der_base.specs.declared.rules.Rules.TheVariants.{Ber, Der}
use Rattle.der_base.specs.Answer.{MatchAnswer}
use Rattle.der_base.specs.Any.{AnyAnswer, AnyRefuses, AnyLacks, ReadsAny, ReadsDerAny, DerAnyLacks}
use Rattle.der_base.specs.Fault.{DerHeaderRefuses}
use Rattle.der_base.specs.Header.{class_of, is_constructed, number_of, length_of}
use Rattle.der_base.specs.Headers.{LeadingHeader}
use Rattle.der_cursor.specs.Elements.{MarkerFollows, marker_size}

parts : Any → List ℕ → LeadingHeader
parts a behind = record {
  class = class_of a.header;
  constructed = is_constructed a.header;
  number = number_of a.header;
  length = length_of a.header;
  rest = behind;
}

pub ber_marker : (i : List ℕ) (r : AnyAnswer) → MatchAnswer r (λ x. ReadsAny i x.1 x.0.now) (AnyRefuses i) (AnyLacks i) ⊥ → IfOk r (λ x. MarkerFollows Ber i (marker_size (length_of x.1.header)))
unfolding parts
ber_marker i (Ok x) h = (parts x.1 h.behind, h.header.begins, refl)
ber_marker i (Err e) h = tt

pub der_marker : (i : List ℕ) (r : AnyAnswer) → MatchAnswer r (λ x. ReadsDerAny i x.1 x.0.now) (DerHeaderRefuses i) (DerAnyLacks i) ⊥ → IfOk r (λ x. MarkerFollows Der i (marker_size (length_of x.1.header)))
unfolding parts
der_marker i (Ok x) h = (parts x.1 _, (length x.1.bytes.now, h.length, h.begins), refl)
der_marker i (Err e) h = tt

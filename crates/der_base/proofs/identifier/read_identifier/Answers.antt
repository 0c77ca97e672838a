use Rattle.std.proofs.Common.{◌≡◌, ℕ, ◌+◌, ◌<◌, ◌≤◌, Bool, List, ◌∷◌, ◌++◌, length, length-append, take, refl, sym, ap, ◌∙◌, subst, arith}
use Rattle.std.proofs.lemmas.List.{nil_from_length, take_at}
use Rattle.std.proofs.lemmas.Result.{err_from_is_err_and}
use Rattle.der_base.specs.declared.header.Class.{Class}
use Rattle.der_base.specs.Inner.Identifier.{IsCutIdentifier}
use Rattle.der_base.specs.Octets.{identifier, groups, leading_bits}
use Rattle.der_base.proofs.Answers.Answering.{passed_on}
use Rattle.der_base.proofs.Octets.Identifiers.{identifier_short, identifier_long}
use Rattle.der_base.proofs.Octets.TagNumbers.{cut_empty, cut_behind, bad_tag_behind}
use Rattle.der_base.proofs.identifier.read_identifier.Goals as goal

short : (i r : List ℕ) (f t : ℕ) (c : Class) (p : Bool) → i ≡ f ∷ r → f ≡ leading_bits c p + t → t < 31 → i ≡ identifier c p t ++ r
short i r f t c p e o h = e ∙ ap (λ x. x ∷ r) o ∙ ap (λ l. l ++ r) (sym (identifier_short c p t h))

long : (i s r : List ℕ) (f t : ℕ) (c : Class) (p : Bool) → i ≡ f ∷ s → f ≡ leading_bits c p + 31 → s ≡ groups t ++ r → 31 ≤ t → i ≡ identifier c p t ++ r
long i s r f t c p e o g h = e ∙ ap (λ x. x ∷ s) o ∙ ap (λ l. (leading_bits c p + 31) ∷ l) g ∙ ap (λ l. l ++ r) (sym (identifier_long c p t h))

front : (i x r : List ℕ) (k : ℕ) → i ≡ x ++ r → length x ≡ k → take k i ≡ x
front i x r k e l = ap (λ m. take k m) e ∙ take_at x r k l

pub returns-in_default : goal.returns-in_default
returns-in_default c = (refl, subst IsCutIdentifier (sym (nil_from_length c.args.i.now c.in_default.ensures.cases)) cut_empty)

pub returns-then-low_bits-lt31 : goal.returns-then-low_bits-lt31
returns-then-low_bits-lt31 c =
    let k = c.first_octet-class.result in
    let e = short c.args.i.now c.in-Some.following.now c.in-Some.first.now c.from.result k.0 k.1 c.in-Some.ensures.cases.0 (omega (arith, c.first_octet-class.ensures.octet, c.from.ensures))
    (omega arith) in
    record {
      octets = e;
      number = omega arith;
      raw = front c.args.i.now (identifier k.0 k.1 c.from.result) c.in-Some.following.now 1 e (ap length (identifier_short k.0 k.1 c.from.result (omega arith)));
    }

pub returns-in_err-rest : goal.returns-in_err-rest
returns-in_err-rest c =
    let k = c.first_octet-class.result in
    let s = c.in-Some.following.now in
    let e : c.args.i.now ≡ (leading_bits k.0 k.1 + 31) ∷ s = c.in-Some.ensures.cases.0 ∙ ap (λ x. x ∷ s) (omega arith) in
    let q = err_from_is_err_and c.from_residual.result c.from_residual.ensures.1 in
    rw (q.1, q.2, e) (passed_on _ _ c.in_err-rest.field-0.0 c.in_err-rest.ensures (λ x h. (bad_tag_behind 31 (leading_bits k.0 k.1 + 31) s (omega arith) h.0, h.1))
    (λ n h. (h.0, cut_behind k.0 k.1 s h.1)) (λ m. m))

pub returns : goal.returns
returns c =
    let k = c.first_octet-class.result in
    let t = c.in_ok-rest.tag.0 in
    let r = c.in_ok-rest.rest.now in
    let h = c.in_ok-rest.ensures in
    let e = long c.args.i.now c.in-Some.following.now r c.in-Some.first.now t k.0 k.1 c.in-Some.ensures.cases.0 (omega arith) h.0 h.1 in
    record {
      octets = e;
      number = h.2;
      raw = front c.args.i.now (identifier k.0 k.1 t) r _ e (omega (arith, ap length e, length-append (identifier k.0 k.1 t) r));
    }

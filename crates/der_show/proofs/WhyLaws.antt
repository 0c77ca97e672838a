-- What can be said of an error, where the refused element has a place or none.
use Rattle.std.proofs.Common.{◌≡◌, ℕ, Option, Some, ap, refl, subst, sym, ◌∙◌}
use Rattle.std.specs.Borrow.{Bor}
use Rattle.std.specs.Option.{option_copied}
use Rattle.extension_text.specs.declared.why.Why.{Why}
use Rattle.extension_text.specs.Why.{why_of}
use Rattle.der_base.specs.declared.error.Error.{Error as BerError}
use Rattle.der_base.specs.declared.header.Class.{Class}
use Rattle.der_cursor.specs.declared.error.ReadError.{ReadError}
use Rattle.der_elements.specs.declared.name.TypeName.{TypeName}
use Rattle.der_show.specs.declared.place.Place.{Place}
use Rattle.der_show.specs.declared.refused.Refused.{Refused}
use Rattle.der_show.specs.Refused.{refusal_of}
use Rattle.der_show.specs.Why.{IsWhy, IsWhyWrong}

name_same : (n : TypeName) (c : Class) (k : ℕ) → n.class ≡ c → n.number ≡ k → n ≡ record { class = c; number = k }
name_same n c k e m =
    subst (λ x. n ≡ record { class = c; number = x }) m (subst (λ x. n ≡ record { class = x; number = n.number }) e refl)

pub why_there : (r : Refused) (place : Option (Bor Place)) (w : Bor Place) (n : TypeName) {e : ReadError BerError}
    {wrong why : Why} → place ≡ Some w → e ≡ refusal_of r → n.class ≡ w.now.element.class
    → n.number ≡ w.now.element.number → IsWhyWrong r w.now.element wrong → why ≡ why_of e (Some n) wrong
    → IsWhy r (option_copied place) why
why_there r place w n {wrong = wrong} {why = why} here same class number h q =
    let named = name_same n w.now.element.class w.now.element.number class number in
    subst (λ p. IsWhy r (option_copied p) why) (sym here) (
      wrong,
      h,
      q ∙ ap (λ x. why_of x (Some n) wrong) same ∙ ap (λ x. why_of (refusal_of r) (Some x) wrong) named,
    )

use Rattle.std.proofs.Common.{◌≡◌, None, Some, inr, refl, subst}
use Rattle.der_schema.specs.Known.{IsFirstSchema}
use Rattle.der_schema.specs.Meaning.{all_types, root_of}
use Rattle.der_show.specs.Places.{FindsPlace}
use Rattle.der_show.proofs.unread.place_in.Goals as goal

pub returns-in-Some : goal.returns-in-Some
returns-in-Some c =
    let types = c.new-types.result in
    let s = c.in-Some.schema in
    let e = c.if-is_at_end.ensures in
    let named = subst (λ n. IsFirstSchema (λ k. k.name.now ≡ n) types.known.now (all_types types.types) (Some s))
    c.type_name.ensures c.in-Some.ensures in
    let place = subst (λ o. FindsPlace (root_of s) c.args.octets.now o c.place_of.result) c.offset.ensures c.place_of.ensures in
    inr ((λ t. absurd (cc)), types, c.new-types.ensures, Some s, named, place)

pub returns-in-None : goal.returns-in-None
returns-in-None c =
    let types = c.new-types.result in
    let e = c.if-is_at_end.ensures in
    let named = subst (λ n. IsFirstSchema (λ k. k.name.now ≡ n) types.known.now (all_types types.types) None)
    c.type_name.ensures c.in-None.ensures in
    inr ((λ t. absurd (cc)), types, c.new-types.ensures, None, named, refl)

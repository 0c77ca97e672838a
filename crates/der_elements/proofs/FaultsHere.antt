-- Where something is at fault no element is visited.
use Rattle.std.proofs.Common.{◌≡◌, ◌≢◌, ℕ, ◌+◌, ◌<◌, ◌≤◌, ◌⊎◌, true, false, List, [], ◌∷◌, ◌++◌, length, take, Some, refl, sym, ap, subst, ◌∙◌, arith, append_assoc, length-append, inl, inr}
use Rattle.std.proofs.Math.Seq.{take-append_seam}
use Rattle.der_base.specs.declared.header.Class.{Class}
use Rattle.der_base.specs.declared.header.Class.TheVariants.{Universal}
use Rattle.der_base.specs.declared.header.Length.TheVariants.{Definite, Indefinite}
use Rattle.der_base.specs.declared.rules.Rules.{Rules}
use Rattle.der_base.specs.declared.rules.Rules.TheVariants.{Ber, Der}
use Rattle.der_base.specs.Headers.{LeadingHeader}
use Rattle.der_base.specs.Octets.{identifier}
use Rattle.der_base.specs.Rules.{SpellsHeaderBy}
use Rattle.der_base.specs.Spelling.{end_marker}
use Rattle.der_elements.specs.Check.Elements.{MayBeConstructed, MayHaveContent}
use Rattle.der_elements.proofs.CheckLaws.HeadersBy.{header_refused, header_same, spells_open}
use Rattle.der_contents.specs.ContentRules.{IsContent}
use Rattle.der_elements.specs.declared.cause.Cause.{Cause}
use Rattle.der_elements.specs.Faults.{Position, IsAtFault, ended, header, content, too_deep, string, constructed, marker, value}
use Rattle.der_elements.specs.Visits.{Visited, Extras, VisitsOne, primitive, broken, indefinite}
use Rattle.der_elements.specs.Visits.{string as visits_string, constructed as visits_constructed}
use Rattle.der_elements.proofs.ElementReads.{not_all_hold}
use Rattle.der_elements.proofs.Headers.{spells_parts}
use Rattle.der_elements.proofs.OneVisit.{one_nonempty}
use Rattle.der_elements.proofs.VisitedElements.{string_not_zero}

-- what is visited behind the header v
abbrev pub Kind : Extras → Rules → LeadingHeader → Type 0
Kind x r v =
    ((v.constructed ≡ true) × MayBeConstructed r v.class v.number)
    ⊎ ((v.constructed ≡ false) × (n : ℕ) × (v.length ≡ Definite n)
    × (MayHaveContent r v.class v.number (take n v.rest) ⊎ ((x.keeps_values ≡ true) × (r ≡ Ber) × (v.class ≡ Universal) × (v.number ≢ 0))))

-- what holds of the octets here, whose header is v, where an element that is visited next begins them
pub record Fits (x : Extras) (r : Rules) (v : LeadingHeader) : Type 0 where
  pub room : (n : ℕ) → v.length ≡ Definite n → n ≤ length v.rest
  pub kind : Kind x r v

pub same_length : (n m : ℕ) → Definite n ≡ Definite m → n ≡ m
same_length n m e = cc

pub same_size : (n m : ℕ) → Some n ≡ Some m → n ≡ m
same_size n m e = cc

room_of : (n m : ℕ) (w rest : List ℕ) → n ≡ length w → Definite n ≡ Definite m → m ≤ length (w ++ rest)
room_of n m w rest e q = let z = same_length n m q in omega (arith, z, e, length-append w rest)

split_of : (here b h w rest : List ℕ) → here ≡ b ++ rest → b ≡ h ++ w → here ≡ h ++ (w ++ rest)
split_of here b h w rest e q = e ∙ ap (λ l. l ++ rest) q ∙ append_assoc h w rest

pub one_fits : {x : Extras} {r : Rules} {d k a : ℕ} {b : List ℕ} {us : List Visited} (here rest : List ℕ) → here ≡ b ++ rest → VisitsOne x r d k a b us → (v : LeadingHeader) × SpellsHeaderBy r here v × Fits x r v
one_fits {x = x} {r = r} {b = b} here rest e (primitive c t h w is eb has out ev) = (
  record { class = c; constructed = false; number = t; length = Definite (length w); rest = w ++ rest },
  spells_parts r here c false t (length w) h (w ++ rest) is (split_of here b h w rest e eb),
  record { room = λ m q. room_of (length w) m w rest refl q; kind = inr (refl, length w, refl, inl (subst (λ l. MayHaveContent r c t l) (sym (take-append_seam w rest)) has)) },
)
one_fits {x = x} {r = r} {b = b} here rest e (broken t h w is eb keeps er it never ev) = (
  record { class = Universal; constructed = false; number = t; length = Definite (length w); rest = w ++ rest },
  spells_parts r here Universal false t (length w) h (w ++ rest) is (split_of here b h w rest e eb),
  record { room = λ m q. room_of (length w) m w rest refl q; kind = inr (refl, length w, refl, inr (keeps, er, refl, it)) },
)
one_fits {x = x} {r = r} {b = b} here rest e (visits_string m t h w u v us is eb has en holds first vis ev) = (
  record { class = Universal; constructed = false; number = t; length = Definite (length w); rest = w ++ rest },
  spells_parts r here Universal false t (length w) h (w ++ rest) is (split_of here b h w rest e eb),
  record { room = λ m q. room_of (length w) m w rest refl q; kind = inr (refl, length w, refl, inl (λ q. (string_not_zero t u holds.front, subst (λ l. IsContent r t l) (sym (take-append_seam w rest)) has))) },
)
one_fits {x = x} {r = r} {b = b} here rest e (visits_constructed c t h w us is eb may vis ev) = (
  record { class = c; constructed = true; number = t; length = Definite (length w); rest = w ++ rest },
  spells_parts r here c true t (length w) h (w ++ rest) is (split_of here b h w rest e eb),
  record { room = λ m q. room_of (length w) m w rest refl q; kind = inl (refl, may) },
)
one_fits {x = x} {r = r} {b = b} here rest e (indefinite c t h w us is eb may vis ev) =
    let behind = (w ++ end_marker) ++ rest in
    let v : LeadingHeader = record { class = c; constructed = true; number = t; length = Indefinite; rest = behind } in
    let all : here ≡ identifier c true t ++ 128 ∷ behind = split_of here b h (w ++ end_marker) rest e (eb ∙ append_assoc h w end_marker) ∙ ap (λ l. l ++ behind) is.3 ∙ append_assoc (identifier c true t) (128 ∷ []) behind in
    (v, subst (λ q. SpellsHeaderBy q here v) (sym is.1) (spells_open here c t behind is.0 all), record { room = λ m q. absurd (cc); kind = inl (refl, may) })

deep_enough : {x : Extras} {r : Rules} {d k a : ℕ} {b : List ℕ} {us : List Visited} → VisitsOne x r d k a b us → 0 < d
deep_enough (primitive c t h w is eb has out ev) = omega arith
deep_enough (broken t h w is eb keeps er it never ev) = omega arith
deep_enough (visits_string m t h w u v us is eb has en holds first vis ev) = omega arith
deep_enough (visits_constructed c t h w us is eb may vis ev) = omega arith
deep_enough (indefinite c t h w us is eb may vis ev) = omega arith

-- what BER has primitive DER has so too
pub ber_may : (r : Rules) (c : Class) (t : ℕ) → MayBeConstructed r c t → MayBeConstructed Ber c t
ber_may Ber c t may = may
ber_may Der c t may = λ e. (may e).0

module _ (x : Extras) (d : ℕ) (p : Position) (here z : List ℕ) {n : ℕ} {b : List ℕ} {us : List Visited} (en : n + p.depth ≡ d) (e : here ≡ b ++ z) (one : VisitsOne x p.rules n p.depth p.at b us)
  where
    fits_here : (v : LeadingHeader) → SpellsHeaderBy p.rules here v → Fits x p.rules v
    fits_here v spells =
        let (u, is, f) = one_fits here z e one in
        subst (λ q. Fits x p.rules q) (header_same p.rules here u v is spells) f

    no_list : (v : LeadingHeader) → v.constructed ≡ true → (MayBeConstructed p.rules v.class v.number → ⊥) → Kind x p.rules v → ⊥
    no_list v ep bad (inl (t, may)) = bad may
    no_list v ep bad (inr (t, n, l, z)) = absurd (cc)

    no_marker : (v : LeadingHeader) → v.constructed ≡ false → v.class ≡ Universal → v.number ≡ 0 → Kind x p.rules v → ⊥
    no_marker v ep eu en (inl (t, may)) = absurd (cc)
    no_marker v ep eu en (inr (t, n, l, inl has)) = (has eu).0 en
    no_marker v ep eu en (inr (t, n, l, inr (keeps, ber, uni, some))) = some en

    no_value : (v : LeadingHeader) (m : ℕ) → v.constructed ≡ false → (x.keeps_values ≡ true → p.rules ≡ Ber → ⊥) → v.class ≡ Universal → v.length ≡ Definite m → (IsContent p.rules v.number (take m v.rest) → ⊥) → Kind x p.rules v → ⊥
    no_value v m ep never eu is bad (inl (t, may)) = absurd (cc)
    no_value v m ep never eu is bad (inr (t, n, l, inl has)) = bad (subst (λ k. IsContent p.rules v.number (take k v.rest)) (same_length n m (sym l ∙ is)) (has eu).1)
    no_value v m ep never eu is bad (inr (t, n, l, inr (keeps, ber, uni, some))) = never keeps ber

    pub none_at_fault : {c : Cause} → IsAtFault x d p here c → ⊥
    none_at_fault (ended q ec) = one_nonempty z one (sym q ∙ e)
    none_at_fault (header er some a ec) = let (u, is, f) = one_fits here z e one in header_refused p.rules here er u a is
    none_at_fault (content v m spells is lacks past ec) = let f = (fits_here v spells).room m is in absurd (omega (arith, f, lacks))
    none_at_fault (too_deep v spells room deep ec) = absurd (omega (arith, en, deep, deep_enough one))
    none_at_fault (string v reached ep bad may ec) = no_list v ep bad (fits_here v reached.header).kind
    none_at_fault (constructed v reached ep bad ec) = no_list v ep (λ may. bad (ber_may p.rules v.class v.number may)) (fits_here v reached.header).kind
    none_at_fault (marker v reached ep eu en ec) = no_marker v ep eu en (fits_here v reached.header).kind
    none_at_fault (value v m er reached ep never eu some is first ec) = no_value v m ep never eu is (λ has. not_all_hold _ er first has) (fits_here v reached.header).kind

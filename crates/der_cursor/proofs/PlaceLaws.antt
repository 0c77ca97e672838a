-- Where the octets of a cursor stand in the input.
use Rattle.std.proofs.Common.{◌≡◌, ℕ, ◌+◌, ◌-◌, Bool, true, List, [], ◌∷◌, ◌++◌, length, Ok, Err, refl, sym, ap, subst, ◌∙◌, inl, inr, arith, append_assoc, append-nil, length-append}
use Rattle.der_base.specs.declared.header.Class.{Class}
use Rattle.der_base.specs.declared.header.Length.TheVariants.{Definite, Indefinite}
use Rattle.der_base.specs.declared.rules.Rules.{Rules}
use Rattle.der_base.specs.declared.rules.Rules.TheVariants.{Ber, Der}
use Rattle.der_base.specs.Headers.{BeginsWithHeader}
use Rattle.der_base.specs.Octets.{identifier, shortest_length}
use Rattle.der_base.specs.Spelling.{end_marker}
use Rattle.der_base.proofs.Framing.Elements.{open_part}
use Rattle.der_base.proofs.Framing.FramingLaws.{open_header}
use Rattle.der_base.proofs.Headers.BerHeaders.{ber_header_same}
use Rattle.der_cursor.specs.declared.cursor.Cursor.{Cursor}
use Rattle.der_cursor.specs.Cursors.{octets_left, end_of, rules_of, advanced, StandsIn}
use Rattle.der_cursor.specs.Elements.{SpellsElement, MarkerFollows, marker_size}
use Rattle.der_cursor.specs.Laws.{PlacesCount, NewStand, EndsStand, OpenedStand}

pub places_count : PlacesCount
places_count i c s = omega (arith, s.place)

pub new_stand : NewStand
new_stand r i c e = record {
  front = [];
  behind = [];
  octets = sym e.0 ∙ sym (append-nil (octets_left c));
  place = omega (arith, e.1, ap length e.0);
}

-- the middle of the middle
regroup : (f a w b z : List ℕ) → f ++ (a ++ (w ++ b)) ++ z ≡ f ++ a ++ w ++ (b ++ z)
regroup f a w b z =
    append_assoc f (a ++ (w ++ b)) z ∙ ap (λ x. f ++ x) (append_assoc a (w ++ b) z ∙ ap (λ x. a ++ x) (append_assoc w b z))
    ∙ sym (append_assoc (f ++ a) w (b ++ z) ∙ append_assoc f a (w ++ (b ++ z)))

-- a part of what is left stands there too
part_stands : (i a b : List ℕ) (c d : Cursor) → StandsIn i c → octets_left c ≡ a ++ (octets_left d ++ b) → end_of d ≡ end_of c - length b → StandsIn i d
part_stands i a b c d s q e = record {
  front = s.front ++ a;
  behind = b ++ s.behind;
  octets = s.octets ∙ ap (λ x. s.front ++ x ++ s.behind) q ∙ regroup s.front a (octets_left d) b s.behind;
  place =
      let n : length (octets_left c) ≡ length a + (length (octets_left d) + length b) =
      ap length q ∙ length-append a (octets_left d ++ b) ∙ ap (λ x. length a + x) (length-append (octets_left d) b) in
      let m = length-append s.front a in
      omega (arith, s.place, e, n, m);
}

nothing_less : (n : ℕ) → n ≡ n - length {A = ℕ} []
nothing_less n = omega arith

pub ends_stand : EndsStand
ends_stand i c taken rest s q = part_stands i taken [] c (advanced c rest) s (q ∙ ap (λ x. taken ++ x) (sym (append-nil rest.now))) (nothing_less (end_of c))

-- the octets in front of a content, and the end marker behind it
pub content_place : (r : Rules) (c : Class) (p : Bool) (t : ℕ) (i w rest : List ℕ) (m : ℕ) → SpellsElement r c p t i (w, rest) → MarkerFollows r i m
    → (h mark : List ℕ) × (i ≡ h ++ (w ++ (mark ++ rest))) × (length mark ≡ m)
content_place Der c p t i w rest m s (h, q, e) = (identifier c p t ++ shortest_length (length w), [], s.octets, sym (e ∙ ap marker_size q.1))
content_place Ber c p t i w rest m (ht, hk, inl (s, hs, d)) (h, q, e) =
    let f = d ∙ append_assoc (identifier c p t ++ s) w rest in
    let b : BeginsWithHeader i c p t (Definite (length w)) (w ++ rest) = record {
      following = s ++ (w ++ rest);
      octets = f ∙ append_assoc (identifier c p t) s (w ++ rest);
      number = ht;
      length = (s, hs, refl);
    } in
    (identifier c p t ++ s, [], f, sym (e ∙ ap marker_size (ber_header_same i h.rest (w ++ rest) h.class c h.constructed p h.number t h.length (Definite (length w)) q b).length))
content_place Ber c p t i w rest m (ht, hk, inr (ep, h2, hw, d)) (h, q, e) =
    let f = d ∙ open_part c p t w _ rest refl in
    let b = open_header i (w ++ (end_marker ++ rest)) c t ht (f ∙ ap (λ k. identifier c k t ++ 128 ∷ (w ++ (end_marker ++ rest))) ep) in (
      identifier c p t ++ 128 ∷ [],
      end_marker,
      f ∙ sym (append_assoc (identifier c p t) (128 ∷ []) (w ++ (end_marker ++ rest))),
      sym (e ∙ ap marker_size (ber_header_same i h.rest (w ++ (end_marker ++ rest)) h.class c h.constructed true h.number t h.length Indefinite q b).length),
    )

pub opened_stand : OpenedStand
opened_stand i class p t old new (Ok inner) s o =
    let k = o.places.1 in
    let z = content_place (rules_of old) class p t (octets_left old) (octets_left inner) (octets_left new) k.0 o.element.found k.1 in
    let head = z.0 in
    let mark = z.1 in
    let left = octets_left inner in
    let rest = octets_left new in
    let q' : octets_left old ≡ head ++ left ++ mark ++ (rest ++ []) =
    z.2 ∙ sym (append_assoc head left (mark ++ rest)) ∙ sym (append_assoc (head ++ left) mark rest) ∙ ap (λ x. head ++ left ++ mark ++ x) (sym (append-nil rest)) in
    let e : end_of new ≡ end_of old = ap end_of o.places.0 in (
      part_stands i (head ++ left ++ mark) [] old new s q' (e ∙ nothing_less (end_of old)),
      part_stands i head (mark ++ rest) old inner s z.2 (k.2 ∙ omega (arith, e, z.3, length-append mark rest)),
    )
opened_stand i class p t old new (Err e) s o = (subst (λ c. StandsIn i c) (sym o.places.1) s, tt)

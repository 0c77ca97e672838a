-- Elements that are listed one behind the other, and before those inside them.
use Rattle.std.proofs.Common.{◌≡◌, ℕ, zero, suc, ◌+◌, ◌-◌, ◌≤◌, Bool, true, false, List, [], ◌∷◌, ◌++◌, length, map}
use Rattle.std.proofs.Common.{Option, Some, None, refl, sym, ap, subst, ◌∙◌, arith, append_assoc, length-append, ◌<◌, ◌^◌}
use Rattle.std.specs.Borrow.{Bor}
use Rattle.std.specs.Prelude.{IfSome}
use Rattle.std.proofs.lemmas.List.{length-map, map-append}
use Rattle.der_base.specs.declared.header.Class.{Class}
use Rattle.der_base.specs.declared.header.Length.{Length}
use Rattle.der_base.specs.declared.header.Length.TheVariants.{Definite, Indefinite}
use Rattle.der_base.specs.declared.rules.Rules.{Rules}
use Rattle.der_base.specs.Headers.{LeadingHeader}
use Rattle.der_base.specs.Octets.{identifier}
use Rattle.der_base.specs.Rules.{SpellsHeaderBy}
use Rattle.der_base.specs.Spelling.{end_marker}
use Rattle.der_base.proofs.Framing.Elements.{open_part}
use Rattle.der_elements.specs.declared.check.element.Element.{Element}
use Rattle.der_elements.specs.declared.check.tape.Tape.{Tape}
use Rattle.der_elements.specs.Check.Elements.{MayBeConstructed, MayHaveContent, SpellsLengthBy}
use Rattle.der_elements.specs.Check.Elements.{none, one_more, primitive, constructed, indefinite}
use Rattle.der_elements.specs.Check.Listing.{KeepsList, ListsElement, ListsElements, listed, listed_one, with_inside}
use Rattle.der_elements.specs.Check.Overlay.{overlay}
use Rattle.der_elements.specs.Check.Readers.{BeginsWithPart, Follows}
use Rattle.der_elements.specs.Check.Tapes.{Keeps, KeepsContent, KeepsElement, KeepsElements, KeepsInside, is_definite, marker_size}
use Rattle.der_elements.proofs.CheckLaws.ElementLaws.{definite_octets}
use Rattle.der_elements.proofs.CheckLaws.HeadersBy.{definite_spelled, open_spelled}
use Rattle.der_elements.proofs.CheckLaws.Overlays.{overlay_none, overlay_more, overlay_front}

-- nothing is listed
pub keeps_none : {N : Type 0} {slot : Element → N} (old new : Tape N) → new.count ≡ old.count → new.slots.now ≡ old.slots.now → Keeps slot [] old new
keeps_none old new counted same = record { count = omega (arith, counted); slots = same ∙ overlay_none old.slots.now old.count }

-- one behind the other
pub keeps_more : {N : Type 0} {slot : Element → N} (es fs : List Element) (old mid new : Tape N) → Keeps slot es old mid → Keeps slot fs mid new → Keeps slot (es ++ fs) old new
keeps_more {slot = slot} es fs old mid new h k =
    let behind : mid.count ≡ old.count + length (map slot es) = omega (arith, h.count, length-map es slot) in
    record {
      count = omega (arith, h.count, k.count, length-append es fs);
      slots = k.slots ∙ ap (λ v. overlay v mid.count (map slot fs)) h.slots ∙ ap (λ n. overlay (overlay old.slots.now old.count (map slot es)) n (map slot fs)) behind
          ∙ overlay_more old.slots.now old.count (map slot es) (map slot fs) ∙ ap (λ v. overlay old.slots.now old.count v) (sym (map-append slot es fs));
    }

-- an element is begun, those inside it are listed, and then it is
pub record Writes {N : Type 0} (slot : Element → N) (e : Element) (k : ℕ) (old begun mid new : Tape N) : Type 0 where
  pub number : k ≡ old.count
  pub counted : begun.count ≡ old.count + 1
  pub kept : begun.slots.now ≡ old.slots.now
  pub count : new.count ≡ mid.count
  pub slots : new.slots.now ≡ overlay mid.slots.now k (slot (record e { inside = mid.count - k - 1 }) ∷ [])

keeps_whole : {N : Type 0} {slot : Element → N} (c : Class) (p f : Bool) (t a o n o' z k : ℕ) (inside : List Element) (old begun mid new : Tape N) → o' ≡ o → z ≡ o + n
    → Writes slot (record { class = c; constructed = p; definite = f; number = t; header = a; content = o'; end = z; inside = 0 }) k old begun mid new
    → Keeps slot inside begun mid → Keeps slot (with_inside c p f t a o n inside) old new
keeps_whole {slot = slot} c p f t a o n o' z k inside old begun mid new eo ez w h =
    let number : begun.count ≡ suc old.count = omega (arith, w.counted) in
    let many : mid.count - k - 1 ≡ length inside = omega (arith, w.number, w.counted, h.count) in
    let written : Element = record { class = c; constructed = p; definite = f; number = t; header = a; content = o'; end = z; inside = mid.count - k - 1 } in
    let whole : Element = record { class = c; constructed = p; definite = f; number = t; header = a; content = o; end = o + n; inside = length inside } in
    let same : written ≡ whole = cc in
    record {
      count = omega (arith, w.counted, w.count, h.count);
      slots = w.slots ∙ ap (λ q. overlay mid.slots.now q (slot written ∷ [])) w.number ∙ ap (λ x. overlay mid.slots.now old.count (slot x ∷ [])) same
          ∙ ap (λ v. overlay v old.count (slot whole ∷ [])) (h.slots ∙ ap (λ v. overlay v begun.count (map slot inside)) w.kept ∙ ap (λ q. overlay old.slots.now q (map slot inside)) number)
          ∙ overlay_front old.slots.now old.count (slot whole) (map slot inside);
    }

-- the element of a header

-- with a definite length: its octets, and where its content begins and ends
record DefiniteParts (r : Rules) (i w rest : List ℕ) (v : LeadingHeader) (p : Bool) (end : ℕ) : Type 0 where
  size_octets : List ℕ
  number : v.number < 2 ^ 32
  spells : SpellsLengthBy r size_octets (length w)
  octets : i ≡ (identifier v.class p v.number ++ size_octets ++ w) ++ rest
  begins : end - length v.rest ≡ (end - length i) + length (identifier v.class p v.number ++ size_octets)
  ends : end - length rest - 0 ≡ (end - length i) + length (identifier v.class p v.number ++ size_octets) + length w

definite_parts : (r : Rules) (i w rest : List ℕ) (v : LeadingHeader) (p : Bool) (n end : ℕ) → length i ≤ end → v.constructed ≡ p → v.length ≡ Definite n → SpellsHeaderBy r i v → length w ≡ n
    → v.rest ≡ w ++ rest → DefiniteParts r i w rest v p end
definite_parts r i w rest v p n end room ep el h en ew =
    let s = definite_spelled r i v n h el in
    let front = identifier v.class p v.number ++ s.0 in
    let parts = subst (λ q. i ≡ identifier v.class q v.number ++ (s.0 ++ v.rest)) ep s.3 in
    let size : length i ≡ length front + length v.rest = ap length (parts ∙ sym (append_assoc (identifier v.class p v.number) s.0 v.rest)) ∙ length-append front v.rest in
    let behind : length v.rest ≡ length w + length rest = ap length ew ∙ length-append w rest in
    record {
      size_octets = s.0;
      number = s.1;
      spells = subst (λ q. SpellsLengthBy r s.0 q) (sym en) s.2;
      octets = definite_octets i s.0 w rest v.rest (front ++ w) v.class p v.number parts ew refl;
      begins = omega (arith, size, room);
      ends = omega (arith, size, behind, room);
    }

-- the element that is written for a header, before those inside it are counted
abbrev pub of_header : LeadingHeader → Bool → Length → ℕ → ℕ → ℕ → Element
of_header v p l a o z = record { class = v.class; constructed = p; definite = is_definite l; number = v.number; header = a; content = o; end = z - marker_size l; inside = 0 }

abbrev WritesHeader : {N : Type 0} → (Element → N) → LeadingHeader → Bool → Length → List ℕ → List ℕ → ℕ → ℕ → Tape N → Tape N → Tape N → Tape N → Type 0
WritesHeader slot v p l i rest end k old begun mid new = Writes slot (of_header v p l (end - length i) (end - length v.rest) (end - length rest)) k old begun mid new

primitive_listed : {N : Type 0} {slot : Element → N} (r : Rules) (d : ℕ) (i rest : List ℕ) (v : LeadingHeader) (n end k : ℕ) (old begun mid new : Tape N) → length i ≤ end
    → v.constructed ≡ false → v.length ≡ Definite n → SpellsHeaderBy r i v → BeginsWithPart (MayHaveContent r v.class v.number) n v.rest rest → Keeps slot [] begun mid
    → WritesHeader slot v false (Definite n) i rest end k old begun mid new → KeepsElement r slot (suc d) i end old rest new
primitive_listed r d i rest v n end k old begun mid new room ep el h (w, en, ew, m) inside writes =
    let x = definite_parts r i w rest v false n end room ep el h en ew in
    let o = (end - length i) + length (identifier v.class false v.number ++ x.size_octets) in (
      identifier v.class false v.number ++ x.size_octets ++ w,
      x.octets,
      primitive v.class v.number x.size_octets w x.number x.spells refl m,
      keeps_whole v.class false true v.number (end - length i) o (length w) (end - length v.rest) (end - length rest - 0) k [] old begun mid new x.begins x.ends writes inside,
    )

constructed_listed : {N : Type 0} {slot : Element → N} (r : Rules) (d : ℕ) (i rest : List ℕ) (v : LeadingHeader) (n end k : ℕ) (old begun mid new : Tape N) → length i ≤ end
    → v.constructed ≡ true → v.length ≡ Definite n → SpellsHeaderBy r i v → MayBeConstructed r v.class v.number → KeepsContent r slot d (Definite n) v.rest end begun rest mid
    → WritesHeader slot v true (Definite n) i rest end k old begun mid new → KeepsElement r slot (suc d) i end old rest new
constructed_listed {slot = slot} r d i rest v n end k old begun mid new room ep el h m (w, en, ew, are, inside) writes =
    let x = definite_parts r i w rest v true n end room ep el h en ew in
    let o = (end - length i) + length (identifier v.class true v.number ++ x.size_octets) in (
      identifier v.class true v.number ++ x.size_octets ++ w,
      x.octets,
      constructed v.class v.number x.size_octets w x.number x.spells refl m are,
      keeps_whole v.class true true v.number (end - length i) o (length w) (end - length v.rest) (end - length rest - 0) k (listed are o) old begun mid new x.begins x.ends writes
          (subst (λ q. Keeps slot (listed are q) begun mid) x.begins inside),
    )

open_listed : {N : Type 0} {slot : Element → N} (r : Rules) (d : ℕ) (i rest : List ℕ) (v : LeadingHeader) (end k : ℕ) (old begun mid new : Tape N) → length i ≤ end
    → v.length ≡ Indefinite → SpellsHeaderBy r i v → MayBeConstructed r v.class v.number → KeepsContent r slot d Indefinite v.rest end begun rest mid
    → WritesHeader slot v true Indefinite i rest end k old begun mid new → KeepsElement r slot (suc d) i end old rest new
open_listed {slot = slot} r d i rest v end k old begun mid new room el h m (w, ew, are, inside) writes =
    let s = open_spelled r i v h el in
    let front = identifier v.class true v.number in
    let b = front ++ 128 ∷ w ++ end_marker in
    let size : length i ≡ length front + length (128 ∷ v.rest) = ap length s.2 ∙ length-append front (128 ∷ v.rest) in
    let behind : length v.rest ≡ length w + length (end_marker ++ rest) = ap length ew ∙ length-append w (end_marker ++ rest) in
    let o = (end - length i) + length front + 1 in
    let begins : end - length v.rest ≡ o = omega (arith, size, room) in
    let ends : end - length rest - 2 ≡ o + length w = omega (arith, size, behind, room) in (
      b,
      s.2 ∙ ap (λ l. front ++ 128 ∷ l) ew ∙ sym (open_part v.class true v.number w b rest refl),
      indefinite v.class v.number w s.1 s.0 refl m are,
      keeps_whole v.class true false v.number (end - length i) o (length w) (end - length v.rest) (end - length rest - 2) k (listed are o) old begun mid new begins ends writes
          (subst (λ q. Keeps slot (listed are q) begun mid) begins inside),
    )

pub element_listed : {N : Type 0} {slot : Element → N} (r : Rules) (d : ℕ) (i rest : List ℕ) (v : LeadingHeader) (p : Bool) (l : Length) (end k : ℕ) (e : Element) (old begun mid new : Tape N) → 1 ≤ d
    → length i ≤ end → v.constructed ≡ p → v.length ≡ l → SpellsHeaderBy r i v → Follows r d v.class p v.number l v.rest rest → KeepsInside p r slot (d - 1) l v.rest end begun rest mid
    → e ≡ of_header v p l (end - length i) (end - length v.rest) (end - length rest) → Writes slot e k old begun mid new → KeepsElement r slot d i end old rest new
element_listed r zero i rest v p l end k e old begun mid new deep room ep el h f inside is w = absurd (omega (arith, deep))
element_listed {slot = slot} r (suc d) i rest v false (Definite n) end k e old begun mid new deep room ep el h f inside is w =
    primitive_listed r d i rest v n end k old begun mid new room ep el h f inside (subst (λ x. Writes slot x k old begun mid new) is w)
element_listed r (suc d) i rest v false Indefinite end k e old begun mid new deep room ep el h f inside is w = absurd f
element_listed {slot = slot} r (suc d) i rest v true (Definite n) end k e old begun mid new deep room ep el h f inside is w =
    let less : suc d - 1 ≡ d = omega arith in
    constructed_listed r d i rest v n end k old begun mid new room ep el h f.0 (subst (λ q. KeepsContent r slot q (Definite n) v.rest end begun rest mid) less inside)
    (subst (λ x. Writes slot x k old begun mid new) is w)
element_listed {slot = slot} r (suc d) i rest v true Indefinite end k e old begun mid new deep room ep el h f inside is w =
    let less : suc d - 1 ≡ d = omega arith in
    open_listed r d i rest v end k old begun mid new room el h f.0 (subst (λ q. KeepsContent r slot q Indefinite v.rest end begun rest mid) less inside)
    (subst (λ x. Writes slot x k old begun mid new) is w)

-- nothing is inside a primitive element
pub none_inside : {N : Type 0} (slot : Element → N) (p : Bool) (r : Rules) (d : ℕ) (l : Length) (i : List ℕ) (end : ℕ) (now : Tape N) (result : Option (Bor (List ℕ))) → p ≡ false
    → IfSome result (λ x. KeepsInside p r slot d l i end now x.now now)
none_inside slot true r d l i end now result e = absurd (cc)
none_inside slot false r d l i end now (Some x) e = keeps_none now now refl refl
none_inside slot false r d l i end now None e = tt

-- elements, one after another

-- if what is left is listed behind what is on the tape now, all is
abbrev pub ListsBefore : {N : Type 0} → Rules → (Element → N) → ℕ → List ℕ → ℕ → Tape N → List ℕ → Tape N → Type 0
ListsBefore {N} r slot d i end old rest now = (new : Tape N) → KeepsElements r slot d rest end now new → KeepsElements r slot d i end old new

pub one_before : {N : Type 0} {slot : Element → N} (r : Rules) (d : ℕ) (i rest : List ℕ) (end : ℕ) (old mid new : Tape N) → length i ≤ end → KeepsElement r slot d i end old rest mid
    → KeepsElements r slot d rest end mid new → KeepsElements r slot d i end old new
one_before {slot = slot} r d i rest end old mid new room (b, e, is, h) (more, k) =
    let at : end - length rest ≡ (end - length i) + length b = omega (arith, ap length e, length-append b rest, room) in
    (one_more b rest e is more, keeps_more (listed_one is (end - length i)) (listed more ((end - length i) + length b)) old mid new h (subst (λ q. Keeps slot (listed more q) mid new) at k))

pub none_left : {N : Type 0} {slot : Element → N} (r : Rules) (d : ℕ) (rest : List ℕ) (end : ℕ) (now : Tape N) → length rest ≡ 0 → KeepsElements r slot d rest end now now
none_left r d [] end now z = (none, keeps_none now now refl refl)
none_left r d (b ∷ rest) end now z = absurd (omega (arith, z))

-- and before an end marker

abbrev pub ListsBeforeMarker : {N : Type 0} → Rules → (Element → N) → ℕ → List ℕ → ℕ → Tape N → List ℕ → Tape N → Type 0
ListsBeforeMarker {N} r slot d i end old rest now = (behind : List ℕ) (new : Tape N) → KeepsContent r slot d Indefinite rest end now behind new → KeepsContent r slot d Indefinite i end old behind new

pub one_before_marker : {N : Type 0} {slot : Element → N} (r : Rules) (d : ℕ) (i rest behind : List ℕ) (end : ℕ) (old mid new : Tape N) → length i ≤ end → KeepsElement r slot d i end old rest mid
    → KeepsContent r slot d Indefinite rest end mid behind new → KeepsContent r slot d Indefinite i end old behind new
one_before_marker {slot = slot} r d i rest behind end old mid new room (b, e, is, h) (w, ew, more, k) =
    let at : end - length rest ≡ (end - length i) + length b = omega (arith, ap length e, length-append b rest, room) in (
      b ++ w,
      e ∙ ap (λ l. b ++ l) ew ∙ sym (append_assoc b w (end_marker ++ behind)),
      one_more b w refl is more,
      keeps_more (listed_one is (end - length i)) (listed more ((end - length i) + length b)) old mid new h (subst (λ q. Keeps slot (listed more q) mid new) at k),
    )

pub marker_left : {N : Type 0} {slot : Element → N} (r : Rules) (d : ℕ) (rest behind : List ℕ) (end : ℕ) (now : Tape N) → rest ≡ end_marker ++ behind
    → KeepsContent r slot d Indefinite rest end now behind now
marker_left r d rest behind end now e = ([], e, none, keeps_none now now refl refl)

-- the content of a definite length
pub content_listed : {N : Type 0} {slot : Element → N} (r : Rules) (d n : ℕ) (i w rest : List ℕ) (end after : ℕ) (old new : Tape N) → length i ≤ end → after ≡ end - length rest → length w ≡ n
    → i ≡ w ++ rest → KeepsElements r slot d w after old new → KeepsContent r slot d (Definite n) i end old rest new
content_listed {slot = slot} r d n i w rest end after old new room ea en e (are, h) =
    let at : after - length w ≡ end - length i = omega (arith, ea, ap length e, length-append w rest, room) in
    (w, en, e, are, subst (λ q. Keeps slot (listed are q) old new) at h)

-- from an empty tape on

kept : {N : Type 0} {slot : Element → N} (es : List Element) (old new : Tape N) → old.count ≡ 0 → Keeps slot es old new → KeepsList slot es new.count old.slots.now new.slots.now
kept {slot = slot} es old new empty h = (omega (arith, h.count, empty), h.slots ∙ ap (λ n. overlay old.slots.now n (map slot es)) empty)

pub element_from_start : {N : Type 0} {slot : Element → N} (r : Rules) (d : ℕ) (i rest : List ℕ) (old new : Tape N) → old.count ≡ 0 → KeepsElement r slot d i (length i) old rest new
    → ListsElement r slot d i rest new.count old.slots.now new.slots.now
element_from_start {slot = slot} r d i rest old new empty (b, e, is, h) =
    let start : length i - length i ≡ 0 = omega arith in
    (b, e, is, subst (λ a. KeepsList slot (listed_one is a) new.count old.slots.now new.slots.now) start (kept (listed_one is (length i - length i)) old new empty h))

pub elements_from_start : {N : Type 0} {slot : Element → N} (r : Rules) (d : ℕ) (i : List ℕ) (old new : Tape N) → old.count ≡ 0 → KeepsElements r slot d i (length i) old new
    → ListsElements r slot d i new.count old.slots.now new.slots.now
elements_from_start {slot = slot} r d i old new empty (are, h) =
    let start : length i - length i ≡ 0 = omega arith in
    (are, subst (λ a. KeepsList slot (listed are a) new.count old.slots.now new.slots.now) start (kept (listed are (length i - length i)) old new empty h))

-- What has a name may be what is expected.
use Rattle.std.proofs.Common.{◌≡◌, Bool, true, false, ◌&&◌, Option, Some, None, List, [], ◌∷◌, ◌++◌, refl, sym, ◌∙◌, ap}
use Rattle.std.specs.Option.{is_some}
use Rattle.std.specs.List.{list_all}
use Rattle.std.proofs.lemmas.List.Folds.{list_all-append}
use Rattle.der_schema.specs.declared.schema.Component.{Component}
use Rattle.der_schema.specs.Meaning.{Around, Encoding, Expected, Field, free, nothing, components, members, each}
use Rattle.der_schema.specs.Meaning.{or_else, found_in, next_or, next_in, member_in, State}
use Rattle.der_schema.specs.Meaning.{passed_or, place_in, past, with_rest, with_same}
use Rattle.der_schema.specs.Opened.{no_elements, one_more, names}
use Rattle.der_schema.specs.Readings.{IsNext, first, behind, IsAmong, here, further, Reads, any_element, component}
use Rattle.der_schema.specs.Readings.{member, item, no_more, one_named, NamedIsExpected}

-- a component that an element is, next
record HasNext (cs : List Component) (x : Encoding) (s : Around) (p : Field × List Component) : Type 0 where
  c : Component
  next : IsNext cs c p.1
  found : found_in c x s ≡ Some p.0

-- a component that an element is, among some
record HasMember (cs : List Component) (x : Encoding) (s : Around) (f : Field) : Type 0 where
  c : Component
  among : IsAmong cs c
  found : found_in c x s ≡ Some f

next_by : (c : Component) (cs : List Component) (x : Encoding) (s : Around) (p : Field × List Component)
    (o : Option Field) (b : Bool) → found_in c x s ≡ o → c.optional ≡ b
    → (next_in cs x s ≡ Some p → HasNext cs x s p)
    → next_or o b cs (next_in cs x s) ≡ Some p → HasNext (c ∷ cs) x s p
next_by c cs x s p (Some f) b found _ _ e =
    let parts : p ≡ (f, cs) = cc in
    record {
      c = c;
      next = first c p.1 (ap (λ w. c ∷ w) (sym (ap (λ (q : Field × List Component). q.1) parts)));
      found = found ∙ ap Some (sym (ap (λ (q : Field × List Component). q.0) parts));
    }
next_by c cs x s p None true _ optional later e =
    let l = later e in record { c = l.c; next = behind c cs refl optional l.next; found = l.found }
next_by c cs x s p None false _ _ _ e = absurd (cc)

next_of : (cs : List Component) (x : Encoding) (s : Around) (p : Field × List Component)
    → next_in cs x s ≡ Some p → HasNext cs x s p
next_of [] x s p e = absurd (cc)
next_of (c ∷ cs) x s p e = next_by c cs x s p (found_in c x s) c.optional refl refl (next_of cs x s p) e

member_by : (c : Component) (cs : List Component) (x : Encoding) (s : Around) (f : Field)
    (o : Option Field) → found_in c x s ≡ o → (member_in cs x s ≡ Some f → HasMember cs x s f)
    → or_else o (member_in cs x s) ≡ Some f → HasMember (c ∷ cs) x s f
member_by c cs x s f (Some g) found _ e = record { c = c; among = here c cs refl; found = found ∙ e }
member_by c cs x s f None _ later e =
    let l = later e in record { c = l.c; among = further c cs refl l.among; found = l.found }

member_of : (cs : List Component) (x : Encoding) (s : Around) (f : Field)
    → member_in cs x s ≡ Some f → HasMember cs x s f
member_of [] x s f e = absurd (cc)
member_of (c ∷ cs) x s f e = member_by c cs x s f (found_in c x s) refl (member_of cs x s f) e

reads_next : (cs : List Component) (s : State) (x : Encoding) (o : Option (Field × List Component))
    → s.expected ≡ components cs → next_in cs x s.around ≡ o → is_some (passed_or s x (with_rest o)).name ≡ true
    → Reads s x (passed_or s x (with_rest o))
reads_next cs s x (Some p) e found _ =
    let n = next_of cs x s.around p found in component cs p.1 n.c p.0 e n.next n.found refl
reads_next cs s x None _ _ h = absurd (cc)

reads_member : (cs : List Component) (s : State) (x : Encoding) (o : Option Field)
    → s.expected ≡ members cs → member_in cs x s.around ≡ o
    → is_some (passed_or s x (with_same o (members cs))).name ≡ true
    → Reads s x (passed_or s x (with_same o (members cs)))
reads_member cs s x (Some f) e found _ =
    let n = member_of cs x s.around f found in member cs n.c f e n.among n.found refl
reads_member cs s x None _ _ h = absurd (cc)

reads_item : (c : Component) (s : State) (x : Encoding) (o : Option Field)
    → s.expected ≡ each c → found_in c x s.around ≡ o → is_some (passed_or s x (with_same o (each c))).name ≡ true
    → Reads s x (passed_or s x (with_same o (each c)))
reads_item c s x (Some f) e found _ = item c f e found refl
reads_item c s x None _ _ h = absurd (cc)

reads_by : (e : Expected) (s : State) (x : Encoding) → s.expected ≡ e
    → is_some (passed_or s x (place_in e x s.around)).name ≡ true → Reads s x (passed_or s x (place_in e x s.around))
reads_by free s x e h = any_element e refl
reads_by nothing s x e h = absurd (cc)
reads_by (components cs) s x e h = reads_next cs s x (next_in cs x s.around) e refl h
reads_by (members cs) s x e h = reads_member cs s x (member_in cs x s.around) e refl h
reads_by (each c) s x e h = reads_item c s x (found_in c x s.around) e refl h

reads_past : (s : State) (x : Encoding) → is_some (past s x).name ≡ true → Reads s x (past s x)
reads_past s x h = reads_by s.expected s x refl h

both : (a b : Bool) → (a && b) ≡ true → (a ≡ true) × (b ≡ true)
both true b h = (refl, h)
both false b h = absurd (cc)

pub named_is_expected : NamedIsExpected
named_is_expected s no_elements h = no_more
named_is_expected s (one_more x inside after) h =
    let p = past s x in
    let us = names p.inside inside in
    let vs = names p.after after in
    let one : (is_some p.name ≡ true) × (list_all is_some (us ++ vs) ≡ true) =
    both (is_some p.name) (list_all is_some (us ++ vs)) h in
    let rest : (list_all is_some us ≡ true) × (list_all is_some vs ≡ true) =
    both (list_all is_some us) (list_all is_some vs) (sym (list_all-append is_some us vs) ∙ one.1) in
    one_named x inside after p us vs (reads_past s x one.0) (named_is_expected p.inside inside rest.0)
    (named_is_expected p.after after rest.1) refl

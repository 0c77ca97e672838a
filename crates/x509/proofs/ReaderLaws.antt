-- What a reader returns, from what the calls of a cursor return.
use Rattle.std.proofs.Common.{◌≡◌, ◌≢◌, ℕ, ◌-◌, ◌<◌, Bool, true, false, Option, Some, None, List, [], ◌++◌, length, take, Result, Ok, Err, refl, sym, ap, subst, ◌∙◌, inl, inr, arith, append_assoc, append-nil, length-append}
use Rattle.std.specs.Option.{option_map}
use Rattle.std.proofs.lemmas.List.{take_at}
use Rattle.der_base.specs.declared.any.Any.{Any}
use Rattle.der_base.specs.declared.error.Err.{Err as Refused}
use Rattle.der_base.specs.declared.error.Err.TheVariants.{Incomplete, Error, Failure, OutOfMemory}
use Rattle.der_base.specs.declared.error.Error.{Error as BerError}
use Rattle.der_base.specs.declared.error.Error.TheVariants.{BerValueError}
use Rattle.der_base.specs.declared.error.Needed.TheVariants.{Unknown, Size}
use Rattle.der_base.specs.declared.header.Class.{Class}
use Rattle.der_base.specs.declared.header.Class.TheVariants.{ContextSpecific, Universal}
use Rattle.der_base.specs.declared.rules.Rules.{Rules}
use Rattle.der_base.specs.declared.rules.Rules.TheVariants.{Ber, Der}
use Rattle.der_base.specs.Answer.{MatchAnswer}
use Rattle.der_base.specs.Octets.{identifier, shortest_length}
use Rattle.der_base.specs.Refusal.{Refusal as Name}
use Rattle.der_base.proofs.Framing.FramingLaws.{element_shorter}
use Rattle.der_base.proofs.Octets.Identifiers.{identifier_octets}
use Rattle.der_cursor.specs.declared.cursor.Cursor.{Cursor}
use Rattle.der_cursor.specs.declared.error.ReadError.{ReadError}
use Rattle.der_cursor.specs.Cursors.{octets_left, end_of, is_inside, place_of, rules_of, advanced, refusal_at, RefusesAt, LacksAt, OpensAt, OpensType, OpensTagged, EndsAt}
use Rattle.der_cursor.specs.Cursors.{ReadsValue, ReadsOptional, ReadsOr, ReadsAnyAt, IsTagged, class_wanted, number_wanted, contents}
use Rattle.der_cursor.specs.Elements.{SpellsElement, ElementRefuses, element_of, marker_size}
use Rattle.der_values.specs.Kinds.{Kind, booleans}
use Rattle.x509.specs.declared.error.CertificateError.{CertificateError}
use Rattle.x509.specs.declared.error.Field.{Field}
use Rattle.x509.specs.Certificates.{boolean_or_false, last_any}
use Rattle.x509.specs.Formats.{Fault, FieldFault, Format, Items, Spot, IsReason, ◌>>=◌, any, done, each, either, element, end_of_content, explicit_or, inside, list_of, more, named, none}
use Rattle.x509.specs.Formats.{optional_implicit, primitive, requiring, some_octets, with_octets, content_at, fault_at, left_at, refuses, spells}
use Rattle.x509.specs.Readers.{IsPlain, IsShorter, NamesBy, NamesField, Reads, ReadsBy, ReadsToEnd, ReadsWhole, certificate_refusal, fault_of, field_fault, reason_named, spot_of}

-- a cursor that reads by DER, and one that said no implicit tag
abbrev pub der : Cursor → Cursor
der c = record c { rules = Der }

abbrev pub plain_of : Cursor → Cursor
plain_of c = record c { rules = Der; implicit = None }

is_plain_of : (c : Cursor) → IsPlain c → c ≡ plain_of c
is_plain_of c h = ap (λ r. record c { rules = r }) h.0 ∙ ap (λ k. record c { rules = Der; implicit = k }) h.1

at_plain : (P : Cursor → Type 0) (c : Cursor) → IsPlain c → P (plain_of c) → P c
at_plain P c h x = subst P (sym (is_plain_of c h)) x

stays : (c : Cursor) → IsPlain c → c ≡ advanced c c.left
stays c h = ap (λ k. record c { implicit = k }) h.1

kept : (old new : Cursor) → new ≡ advanced old new.left → IsPlain old → IsPlain new
kept old new e h = (ap (λ c. rules_of c) e ∙ h.0, ap (λ c. c.implicit) e)

moved : (old new : Cursor) → new ≡ advanced old new.left → spot_of new ≡ left_at (spot_of old) (octets_left new)
moved old new e = ap (λ c. spot_of c) e

-- the reason of a refusal
reason_is : {T : Type 0} (P : T → Type 0) (Q : Name → Type 0) (c : Cursor) (e : Refused BerError) → MatchAnswer (Err e) P (RefusesAt (der c) Q) (LacksAt (der c)) ⊥ → IsReason Q (spot_of c) (reason_named e)
reason_is P Q c (Error x) m = m
reason_is P Q c (Incomplete (Size n)) m = m
reason_is P Q c (Incomplete Unknown) m = absurd m
reason_is P Q c (Failure x) m = absurd m
reason_is P Q c OutOfMemory m = absurd m

faulted : (c : Cursor) (e : ReadError BerError) → e ≡ refusal_at c e.reason → fault_of e ≡ fault_at (spot_of c) (reason_named e.reason)
faulted c e q = ap (λ x. fault_of x) q

-- one format after another
step_to : {X E T V T' V' : Type 0} (fault : X → E) (view : T → V) (view' : T' → V') (f : Format E V) (k : V → Format E V') (old mid new : Cursor) (x : T) (result : Result T' X)
    → spells f (octets_left old) (view x) (octets_left mid) → mid ≡ advanced old mid.left → Reads fault view' (k (view x)) mid result new → Reads fault view' (f >>= k) old result new
step_to fault view view' f k old mid new x (Ok y) s e r = ((view x, octets_left mid, s, r.0), r.1 ∙ ap (λ c. advanced c new.left) e)
step_to fault view view' f k old mid new x (Err y) s e r = inr (view x, octets_left mid, s, subst (λ z. refuses (k (view x)) z (fault y)) (moved old mid e) r)

pub step : {X E T V T' V' : Type 0} {fault : X → E} {view : T → V} {view' : T' → V'} {f : Format E V} {k : V → Format E V'} {old mid new : Cursor} {x : T} {result : Result T' X}
    → ReadsBy fault view f old (Ok x) mid → ReadsBy fault view' (k (view x)) mid result new → ReadsBy fault view' (f >>= k) old result new
step {fault = fault} {view = view} {view' = view'} {f = f} {k = k} {old = old} {mid = mid} {new = new} {x = x} {result = result} a b = record {
  reads = λ h. let r = a.reads h in step_to fault view view' f k old mid new x result r.0 r.1 (b.reads (kept old mid r.1 h));
}

pub stop : {X E T V T' V' : Type 0} {fault : X → E} {view : T → V} {view' : T' → V'} {f : Format E V} {k : V → Format E V'} {old new : Cursor} {e : X}
    → ReadsBy fault view f old (Err e) new → ReadsBy fault view' (f >>= k) old (Err e) new
stop a = record { reads = λ h. inl (a.reads h) }

-- the steps of a format, and in the place of its end what follows its value
abbrev pub then_by : {E V W : Type 0} → Format E V → (V → Format E W) → Format E W
then_by (f >>= k) l = f >>= λ u. then_by (k u) l
then_by (done v) l = l v
then_by f l = f >>= l

spells_then : {E V W : Type 0} (f : Format E V) (l : V → Format E W) (i : List ℕ) (w : W) (rest : List ℕ) → spells (f >>= l) i w rest → spells (then_by f l) i w rest
spells_then (f >>= k) l i w rest (v, m, (u, m', a, b), c) = (u, m', a, spells_then (k u) l m' w rest (v, m, b, c))
spells_then (done v) l i w rest (v', m, (p, q), c) = subst (λ x. spells (l x) i w rest) p (subst (λ x. spells (l v') x w rest) q c)
spells_then f l i w rest s = s

refuses_then : {E V W : Type 0} (f : Format E V) (l : V → Format E W) (s : Spot) (e : E) → refuses (f >>= l) s e → refuses (then_by f l) s e
refuses_then (f >>= k) l s e (inl (inl r)) = inl r
refuses_then (f >>= k) l s e (inl (inr (u, m, a, r))) = inr (u, m, a, refuses_then (k u) l (left_at s m) e (inl r))
refuses_then (f >>= k) l s e (inr (v, m, (u, m', a, b), r)) = inr (u, m', a, refuses_then (k u) l (left_at s m') e (inr (v, m, b, r)))
refuses_then (done v) l s e (inl r) = absurd r
refuses_then (done v) l s e (inr (v', m, (p, q), r)) = subst (λ x. refuses (l x) s e) p (subst (λ x. refuses (l v') (left_at s x) e) q r)
refuses_then f l s e r = r

joined_to : {X E T V W : Type 0} (fault : X → E) (view : T → W) (f : Format E V) (l : V → Format E W) (old new : Cursor) (result : Result T X)
    → Reads fault view (f >>= l) old result new → Reads fault view (then_by f l) old result new
joined_to fault view f l old new (Ok x) r = (spells_then f l (octets_left old) (view x) (octets_left new) r.0, r.1)
joined_to fault view f l old new (Err e) r = refuses_then f l (spot_of old) (fault e) r

pub joined : {X E T V W : Type 0} {fault : X → E} {view : T → W} (f : Format E V) (l : V → Format E W) {old new : Cursor} {result : Result T X}
    → ReadsBy fault view (f >>= l) old result new → ReadsBy fault view (then_by f l) old result new
joined {fault = fault} {view = view} f l {old} {new} {result} a = record { reads = λ h. joined_to fault view f l old new result (a.reads h) }

-- nothing is read, and the value is this one
pub nothing_read : {X E T V : Type 0} {fault : X → E} {view : T → V} {v : V} {old new : Cursor} {x : T} → view x ≡ v → new ≡ advanced old old.left → ReadsBy fault view (done v) old (Ok x) new
nothing_read {old = old} q e = record {
  reads = λ h. ((q, ap (λ c. octets_left c) e), e ∙ ap (λ l. advanced old l) (sym (ap (λ c. c.left) e)));
}

pub finished : {X E T V : Type 0} {fault : X → E} {view : T → V} {v : V} {old : Cursor} {x : T} → view x ≡ v → ReadsBy fault view (done v) old (Ok x) old
finished {old = old} q = record { reads = λ h. ((q, refl), stays old h) }

-- a choice
first_to : {X E T V : Type 0} (fault : X → E) (view : T → V) (f g : Format E V) (P : List ℕ → Type 0) (old new : Cursor) (result : Result T X)
    → P (octets_left old) → Reads fault view f old result new → Reads fault view (either P f g) old result new
first_to fault view f g P old new (Ok x) p r = (inl (p, r.0), r.1)
first_to fault view f g P old new (Err e) p r = inl (p, r)

pub first : {X E T V : Type 0} {fault : X → E} {view : T → V} {f g : Format E V} {P : List ℕ → Type 0} {old new : Cursor} {result : Result T X}
    → P (octets_left old) → ReadsBy fault view f old result new → ReadsBy fault view (either P f g) old result new
first {fault = fault} {view = view} {f = f} {g = g} {P = P} {old = old} {new = new} {result = result} p a = record { reads = λ h. first_to fault view f g P old new result p (a.reads h) }

second_to : {X E T V : Type 0} (fault : X → E) (view : T → V) (f g : Format E V) (P : List ℕ → Type 0) (old new : Cursor) (result : Result T X)
    → ¬ P (octets_left old) → Reads fault view g old result new → Reads fault view (either P f g) old result new
second_to fault view f g P old new (Ok x) p r = (inr (p, r.0), r.1)
second_to fault view f g P old new (Err e) p r = inr (p, r)

pub second : {X E T V : Type 0} {fault : X → E} {view : T → V} {f g : Format E V} {P : List ℕ → Type 0} {old new : Cursor} {result : Result T X}
    → ¬ P (octets_left old) → ReadsBy fault view g old result new → ReadsBy fault view (either P f g) old result new
second {fault = fault} {view = view} {f = f} {g = g} {P = P} {old = old} {new = new} {result = result} p a = record { reads = λ h. second_to fault view f g P old new result p (a.reads h) }

-- an element that is opened
element_direct : (c : Cursor) (k : Class) (p : Bool) (t : ℕ) (result : Result Cursor (ReadError BerError)) (new : Cursor) → OpensAt k p t (der c) result new
    → Reads fault_of octets_left (element k p t) (der c) result new
element_direct c k p t (Ok inner) new o = (o.element.found, o.places.0)
element_direct c k p t (Err e) new o = (
  reason_named e.reason,
  faulted (der c) e o.places.0,
  reason_is (λ x. SpellsElement Der k p t (octets_left c) (contents x)) (ElementRefuses Der k p t (octets_left c)) c e.reason o.element.found,
)

pub element_read : (k : Class) (p : Bool) (t : ℕ) {old new : Cursor} {result : Result Cursor (ReadError BerError)} → OpensAt k p t old result new
    → ReadsBy fault_of octets_left (element k p t) old result new
element_read k p t {old} {new} {result} o = record {
  reads = λ h. at_plain (λ c. OpensAt k p t c result new → Reads fault_of octets_left (element k p t) c result new) old h
      (element_direct (record old { implicit = None }) k p t result new) o;
}

pub type_read : (p : Bool) (t : ℕ) {old new : Cursor} {result : Result Cursor (ReadError BerError)} → OpensType p t old result new
    → ReadsBy fault_of octets_left (element Universal p t) old result new
type_read p t {old} {new} {result} o = record {
  reads = λ h. at_plain (λ c. OpensType p t c result new → Reads fault_of octets_left (element Universal p t) c result new) old h
      (element_direct (record old { implicit = None }) Universal p t result new) o;
}

-- a cursor over a content, and the one after it
pub record IsContent (inner after : Cursor) : Type 0 where
  pub plain : IsPlain inner
  pub spot : spot_of inner ≡ content_at (spot_of after) (octets_left inner)

less_nothing : (n m : ℕ) → m ≡ 0 → n - m ≡ n
less_nothing n m e = omega (arith, e)

content_direct : (c : Cursor) (k : Class) (p : Bool) (t : ℕ) (inner new : Cursor) → OpensAt k p t (der c) (Ok inner) new → IsContent inner new
content_direct c k p t inner new o =
    let (m, (h, (n, q, b), e), z) = o.places.1 in
    let end : end_of inner ≡ place_of new = z ∙ less_nothing (place_of new) m (e ∙ ap (λ l. marker_size l) q) in
    record {
      plain = (o.places.3, o.places.4);
      spot = ap (λ x. record { octets = octets_left inner; end = x; inside = is_inside inner }) end
          ∙ ap (λ y. record { octets = octets_left inner; end = place_of new; inside = y }) o.places.2;
    }

pub content_is : (k : Class) (p : Bool) (t : ℕ) {old inner new : Cursor} → OpensAt k p t old (Ok inner) new → IsPlain old → IsContent inner new
content_is k p t {old} {inner} {new} o h = at_plain (λ c. OpensAt k p t c (Ok inner) new → IsContent inner new) old h
    (content_direct (record old { implicit = None }) k p t inner new) o

content_of_type : (p : Bool) (t : ℕ) {old inner new : Cursor} → OpensType p t old (Ok inner) new → IsPlain old → IsContent inner new
content_of_type p t {old} {inner} {new} o h = at_plain (λ c. OpensType p t c (Ok inner) new → IsContent inner new) old h
    (content_direct (record old { implicit = None }) Universal p t inner new) o

-- what follows an element that was opened
pub opened : (p : Bool) (t : ℕ) {T V : Type 0} {view : T → V} {k : List ℕ → Format Fault V} {old inner mid new : Cursor} {result : Result T (ReadError BerError)}
    → OpensType p t old (Ok inner) mid → (IsContent inner mid → ReadsBy fault_of view (k (octets_left inner)) mid result new)
    → ReadsBy fault_of view (element Universal p t >>= k) old result new
opened p t {k = k} o a = record { reads = λ h. (step {k = k} (type_read p t o) (a (content_of_type p t o h))).reads h }

pub opened_tag : (n : ℕ) {T V : Type 0} {view : T → V} {k : List ℕ → Format Fault V} {old inner mid new : Cursor} {result : Result T (ReadError BerError)}
    → OpensAt ContextSpecific true n old (Ok inner) mid → (IsContent inner mid → ReadsBy fault_of view (k (octets_left inner)) mid result new)
    → ReadsBy fault_of view (element ContextSpecific true n >>= k) old result new
opened_tag n {k = k} o a = record { reads = λ h. (step {k = k} (element_read ContextSpecific true n o) (a (content_is ContextSpecific true n o h))).reads h }

-- the content is read to its end
whole_to : {X E T V : Type 0} (fault : X → E) (view : T → V) (f : Format E V) (inner after : Cursor) (result : Result T X) → IsContent inner after → IsPlain after
    → ReadsWhole fault view f inner result → Reads fault view (inside (octets_left inner) f) after result after
whole_to fault view f inner after (Ok x) i h r = ((r, refl), stays after h)
whole_to fault view f inner after (Err e) i h r = subst (λ z. refuses f z (fault e)) i.spot r

pub within_whole : {X E T V : Type 0} {fault : X → E} {view : T → V} {f : Format E V} {inner after : Cursor} {result : Result T X} → IsContent inner after
    → ReadsToEnd fault view f inner result → ReadsBy fault view (inside (octets_left inner) f) after result after
within_whole {fault = fault} {view = view} {f = f} {inner = inner} {after = after} {result = result} i a = record { reads = λ h. whole_to fault view f inner after result i h (a.reads_whole i.plain) }

to_whole : {X E T V : Type 0} (fault : X → E) (view : T → V) (f : Format E V) (old new : Cursor) (result : Result T X) → Reads fault view f old result new → ReadsWhole fault view f old result
to_whole fault view f old new (Ok x) r = (octets_left new, r.0)
to_whole fault view f old new (Err e) r = r

pub whole : {X E T V : Type 0} {fault : X → E} {view : T → V} {f : Format E V} {old new : Cursor} {result : Result T X} → ReadsBy fault view f old result new → ReadsToEnd fault view f old result
whole {fault = fault} {view = view} {f = f} {old = old} {new = new} {result = result} a = record { reads_whole = λ h. to_whole fault view f old new result (a.reads h) }

pub within : {X E T V : Type 0} {fault : X → E} {view : T → V} {f : Format E V} {inner inner' after : Cursor} {result : Result T X} → IsContent inner after
    → ReadsBy fault view f inner result inner' → ReadsBy fault view (inside (octets_left inner) f) after result after
within i a = within_whole i (whole a)

-- a value of a primitive type
module _ {T V : Type 0} (value : T → V) (k : Kind V) (t : ℕ) where
  value_direct : (c : Cursor) (result : Result T (ReadError BerError)) (new : Cursor) → ReadsValue value k t (der c) result new
      → Reads fault_of value (primitive (class_wanted c.implicit) (number_wanted c.implicit t) k) (der c) result new
  value_direct c (Ok x) new r = (r.value_read.found, r.place)
  value_direct c (Err e) new r = (
    reason_named e.reason,
    faulted (der c) e r.place.0,
    reason_is _ _ c e.reason r.value_read.found,
  )

pub value_read : {T V : Type 0} {value : T → V} (k : Rules → Kind V) (t : ℕ) {old new : Cursor} {result : Result T (ReadError BerError)} → ReadsValue value (k (rules_of old)) t old result new
    → ReadsBy fault_of value (primitive Universal t (k Der)) old result new
value_read {value = value} k t {old} {new} {result} r = record {
  reads = λ h. at_plain (λ c. ReadsValue value (k (rules_of c)) t c result new → Reads fault_of value (primitive Universal t (k Der)) c result new) old h
      (value_direct value (k Der) t (record old { implicit = None }) result new) r;
}

-- an element of any type
any_direct : (c : Cursor) (result : Result Any (ReadError BerError)) (new : Cursor) → ReadsAnyAt (der c) result new → Reads fault_of element_of any (der c) result new
any_direct c (Ok x) new r = ((r.any_read.found, r.header), r.place)
any_direct c (Err e) new r = (
  reason_named e.reason,
  faulted (der c) e r.place.0,
  reason_is _ _ c e.reason r.any_read.found,
)

pub any_read : {old new : Cursor} {result : Result Any (ReadError BerError)} → ReadsAnyAt old result new → ReadsBy fault_of element_of any old result new
any_read {old} {new} {result} r = record {
  reads = λ h. at_plain (λ c. ReadsAnyAt c result new → Reads fault_of element_of any c result new) old h (any_direct (record old { implicit = None }) result new) r;
}

-- the end of a content
end_to : (c : Cursor) (result : Result (Unit {0}) (ReadError BerError)) → IsPlain c → EndsAt c result → Reads fault_of (λ u. u) end_of_content c result c
end_to c (Ok u) h e = ((e, refl), stays c h)
end_to c (Err e) h q = (q.0, ap (λ x. fault_of x) q.1)

pub end_read : {c : Cursor} {result : Result (Unit {0}) (ReadError BerError)} → EndsAt c result → ReadsBy fault_of (λ u. u) end_of_content c result c
end_read {c = c} {result = result} e = record { reads = λ h. end_to c result h e }

-- a BOOLEAN with the default false
boolean_direct : (c : Cursor) (result : Result Bool (ReadError BerError)) (new : Cursor) → ReadsOr (λ v. v) (booleans Der) 1 false (plain_of c) result new
    → Reads fault_of (λ v. v) boolean_or_false (plain_of c) result new
boolean_direct c (Ok x) new (inl (n, e, q)) = (inr (n, (e, ap (λ d. octets_left d) q)), q ∙ ap (λ l. advanced (plain_of c) l) (sym (ap (λ d. d.left) q)))
boolean_direct c (Ok x) new (inr (n, r, d)) = let v = value_direct (λ v. v) (booleans Der) 1 (record c { implicit = None }) (Ok x) new r in (inl (n, (v.0, d refl)), v.1)
boolean_direct c (Err e) new (n, inl r) = inl (n, inl (value_direct (λ v. v) (booleans Der) 1 (record c { implicit = None }) (Err e) new r))
boolean_direct c (Err e) new (n, inr (d, after, r, q, s)) =
    let v = value_direct (λ v. v) (booleans Der) 1 (record c { implicit = None }) (Ok false) after r in
    inl (n, inr (false, octets_left after, v.0, (λ z. z refl), ap (λ x. fault_of x) q))

pub boolean_read : {old new : Cursor} {result : Result Bool (ReadError BerError)} → ReadsOr (λ v. v) (booleans (rules_of old)) 1 false old result new
    → ReadsBy fault_of (λ v. v) boolean_or_false old result new
boolean_read {old} {new} {result} r = record {
  reads = λ h. at_plain (λ c. ReadsOr (λ v. v) (booleans (rules_of c)) 1 false c result new → Reads fault_of (λ v. v) boolean_or_false c result new) old h
      (boolean_direct old result new) r;
}

-- a value under an implicit tag, if it is next
abbrev tagged_of : ℕ → Cursor → Cursor
tagged_of n c = record c { rules = Der; implicit = Some (ContextSpecific, record { 0 = n }) }

module _ {T V : Type 0} (value : T → V) (k : Kind V) (n t : ℕ) where
  optional_direct : (c : Cursor) (result : Result (Option T) (ReadError BerError)) (new : Cursor) → ReadsOptional value k t (tagged_of n c) result new
      → Reads fault_of (option_map value) (optional_implicit n k) (plain_of c) result new
  optional_direct c (Ok None) new (a, q) = (inr (a, (refl, ap (λ d. octets_left d) q)), q ∙ ap (λ l. advanced (plain_of c) l) (sym (ap (λ d. d.left) q)))
  optional_direct c (Ok (Some x)) new (a, r) =
      let v = value_direct value k t (record c { implicit = Some (ContextSpecific, record { 0 = n }) }) (Ok x) new r in
      (inl (a, (value x, octets_left new, v.0, (refl, refl))), v.1)
  optional_direct c (Err e) new (a, r) = inl (a, inl (value_direct value k t (record c { implicit = Some (ContextSpecific, record { 0 = n }) }) (Err e) new r))

pub optional_read : {T V : Type 0} {value : T → V} (k : Rules → Kind V) (n t : ℕ) {old tagged new : Cursor} {result : Result (Option T) (ReadError BerError)} → IsTagged ContextSpecific n old tagged
    → ReadsOptional value (k (rules_of tagged)) t tagged result new → ReadsBy fault_of (option_map value) (optional_implicit n (k Der)) old result new
optional_read {value = value} k n t {old} {tagged} {new} {result} g r = record {
  reads = λ h. at_plain (λ c. ReadsOptional value (k (rules_of c)) t (record c { implicit = Some (ContextSpecific, record { 0 = n }) }) result new
      → Reads fault_of (option_map value) (optional_implicit n (k Der)) c result new) old h (optional_direct value (k Der) n t old result new)
      (subst (λ c. ReadsOptional value (k (rules_of c)) t c result new) g r);
}

-- the field of a value, where `at` makes its refusals
module _ {N X : Type 0} (fault : X → N × Fault) (at : N → ReadError BerError → X) (same : (n : N) (e : ReadError BerError) → fault (at n e) ≡ (n, fault_of e)) where
  named_to : {T V : Type 0} (view : T → V) (f : Format Fault V) (old new : Cursor) (n : N) (found : Result T (ReadError BerError)) (result : Result T X)
      → NamesBy at n found result → Reads fault_of view f old found new → Reads fault view (named n f) old result new
  named_to view f old new n (Ok x) result e r = subst (λ z. Reads fault view (named n f) old z new) (sym e) r
  named_to view f old new n (Err x) result e r = subst (λ z. Reads fault view (named n f) old z new) (sym e) (fault_of x, r, same n x)

  pub named_by : {T V : Type 0} {view : T → V} {f : Format Fault V} {old new : Cursor} (n : N) (found : Result T (ReadError BerError)) {result : Result T X}
      → NamesBy at n found result → ReadsBy fault_of view f old found new → ReadsBy fault view (named n f) old result new
  named_by {view = view} {f = f} {old = old} {new = new} n found {result} e a = record { reads = λ h. named_to view f old new n found result e (a.reads h) }

  found_by : {T : Type 0} (n : N) (found : Result T (ReadError BerError)) (x : T) → NamesBy at n found (Ok x) → found ≡ Ok x
  found_by n (Ok y) x e = let q : y ≡ x = cc in ap (λ z. Ok z) q
  found_by n (Err y) x e = let q : ⊥ = cc in absurd q

  -- what follows an element that was opened, of a field
  pub opened_by : (n : N) (p : Bool) (t : ℕ) {T V : Type 0} {view : T → V} {k : List ℕ → Format (N × Fault) V} {old inner mid new : Cursor} {result : Result T X}
      (found : Result Cursor (ReadError BerError)) → NamesBy at n found (Ok inner) → OpensType p t old found mid
      → (IsContent inner mid → ReadsBy fault view (k (octets_left inner)) mid result new)
      → ReadsBy fault view (named n (element Universal p t) >>= k) old result new
  opened_by n p t {k = k} {old = old} {inner = inner} {mid = mid} found e o a =
      let o' = subst (λ r. OpensType p t old r mid) (found_by n found inner e) o in
      record { reads = λ h. (step {k = k} (named_by n (Ok inner) refl (type_read p t o')) (a (content_of_type p t o' h))).reads h }

-- the same of a field of a certificate
pub named_read : {T V : Type 0} {view : T → V} {f : Format Fault V} {old new : Cursor} (n : Field) (found : Result T (ReadError BerError)) {result : Result T CertificateError}
    → NamesField n found result → ReadsBy fault_of view f old found new → ReadsBy field_fault view (named n f) old result new
named_read n found e a = named_by field_fault certificate_refusal (λ n e. refl) n found e a

pub opened_field : (n : Field) (p : Bool) (t : ℕ) {T V : Type 0} {view : T → V} {k : List ℕ → Format FieldFault V} {old inner mid new : Cursor} {result : Result T CertificateError}
    (found : Result Cursor (ReadError BerError)) → NamesField n found (Ok inner) → OpensType p t old found mid
    → (IsContent inner mid → ReadsBy field_fault view (k (octets_left inner)) mid result new)
    → ReadsBy field_fault view (named n (element Universal p t) >>= k) old result new
opened_field n p t found e o a = opened_by field_fault certificate_refusal (λ n e. refl) n p t found e o a

-- an element is some octets
pub element_less : (r : Rules) (c : Class) (p : Bool) (t : ℕ) (i : List ℕ) (v : List ℕ × List ℕ) → SpellsElement r c p t i v → length v.1 < length i
element_less Ber c p t i v s = element_shorter i _ c p t v.0 v.1 s
element_less Der c p t i v s =
    let a = length-append (identifier c p t ++ shortest_length (length v.0)) (v.0 ++ v.1) in
    omega (arith, ap length s.octets, a, length-append (identifier c p t) (shortest_length (length v.0)), length-append v.0 v.1, identifier_octets c p t)

pub opened_shorter : (k : Class) (p : Bool) (t : ℕ) {old inner new : Cursor} → OpensAt k p t old (Ok inner) new → IsShorter old new
opened_shorter k p t {old} {inner} {new} o = element_less (rules_of old) k p t (octets_left old) (octets_left inner, octets_left new) o.element.found

-- so is one of any type
pub any_shorter : {old new : Cursor} {x : Any} → ReadsAnyAt old (Ok x) new → IsShorter old new
any_shorter {old} {new} {x} a = element_less (rules_of old) (element_of x).0 (element_of x).1 (element_of x).2 (octets_left old) ((element_of x).3, octets_left new) a.any_read.found

pub type_shorter : (p : Bool) (t : ℕ) {old inner new : Cursor} → OpensType p t old (Ok inner) new → IsShorter old new
type_shorter p t {old} o = opened_shorter (class_wanted old.implicit) p (number_wanted old.implicit t) o

-- the octets of an element, and what follows it
pub element_front : (c : Class) (p : Bool) (t : ℕ) (i w rest : List ℕ) → SpellsElement Der c p t i (w, rest) → (b : List ℕ) × (i ≡ b ++ rest)
element_front c p t i w rest s = (identifier c p t ++ shortest_length (length w) ++ w, s.octets ∙ sym (append_assoc (identifier c p t ++ shortest_length (length w)) w rest))

-- items of a list, so far
pub record Reaches {V : Type 0} (f : Format Fault V) (old now : Cursor) : Type 0 where
  pub so_far : IsPlain old → Items (λ s. spells (each f s)) tt (octets_left old) tt (octets_left now) × (now ≡ advanced old now.left)

pub reaches_start : {V : Type 0} {f : Format Fault V} {old : Cursor} → Reaches f old old
reaches_start {old = old} = record { so_far = λ h. (none refl refl, stays old h) }

one_more : {S : Type 0} {Item : S → List ℕ → S → List ℕ → Type 0} {a b c : S} {i j k : List ℕ} → Items Item a i b j → j ≢ [] → Item b j c k → Items Item a i c k
one_more {Item = Item} {b = b} {c = c} {i = i} {k = k} (none p q) n h = more (λ z. n (sym q ∙ z)) (subst (λ x. Item x i c k) (sym p) (subst (λ x. Item b x c k) (sym q) h)) (none refl refl)
one_more (more n x y) m h = more n x (one_more y m h)

pub reaches_more : {T V : Type 0} {view : T → V} {f : Format Fault V} {old now next : Cursor} {x : T} → Reaches f old now → octets_left now ≢ [] → ReadsBy fault_of view f now (Ok x) next → Reaches f old next
reaches_more {view = view} {old = old} {now = now} {next = next} {x = x} r n a = record {
  so_far = λ h.
      let s = r.so_far h in
      let b = a.reads (kept old now s.1 h) in
      (one_more s.0 n (view x, octets_left next, b.0, (refl, refl)), b.1 ∙ ap (λ c. advanced c next.left) s.1);
}

pub reaches_end : {V : Type 0} {f : Format Fault V} {old now : Cursor} {u : Unit {0}} → Reaches f old now → octets_left now ≡ [] → ReadsToEnd fault_of (λ u. u) (list_of f) old (Ok u)
reaches_end {now = now} r e = record { reads_whole = λ h. (octets_left now, ((r.so_far h).0, e)) }

pub reaches_refused : {T V : Type 0} {view : T → V} {f : Format Fault V} {old now next : Cursor} {e : ReadError BerError} → Reaches f old now → octets_left now ≢ [] → ReadsBy fault_of view f now (Err e) next
    → ReadsToEnd {T = Unit {0}} fault_of (λ u. u) (list_of f) old (Err e)
reaches_refused {f = f} {old = old} {now = now} {e = e} r n a = record {
  reads_whole = λ h.
      let s = r.so_far h in
      (tt, octets_left now, s.0, n, inl (subst (λ z. refuses f z (fault_of e)) (moved old now s.1) (a.reads (kept old now s.1 h))));
}

-- one item at least
some_to : (f : Format Fault (Unit {0})) (old : Cursor) (result : Result (Unit {0}) (ReadError BerError)) → octets_left old ≢ [] → ReadsWhole fault_of (λ u. u) f old result
    → ReadsWhole fault_of (λ u. u) (some_octets >>= λ u. f) old result
some_to f old (Ok u) n r = (r.0, (tt, octets_left old, (n, refl), r.1))
some_to f old (Err e) n r = inr (tt, octets_left old, (n, refl), r)

pub some_read : {f : Format Fault (Unit {0})} {old : Cursor} {result : Result (Unit {0}) (ReadError BerError)} → octets_left old ≢ [] → ReadsToEnd fault_of (λ u. u) f old result
    → ReadsToEnd fault_of (λ u. u) (some_octets >>= λ u. f) old result
some_read {f = f} {old = old} {result = result} n a = record { reads_whole = λ h. some_to f old result n (a.reads_whole h) }

pub none_read : {f : Format Fault (Unit {0})} {old : Cursor} {e : ReadError BerError} → octets_left old ≡ [] → e ≡ refusal_at old (Error BerValueError)
    → ReadsToEnd {T = Unit {0}} fault_of (λ u. u) (some_octets >>= λ u. f) old (Err e)
none_read {old = old} z q = record { reads_whole = λ h. inl ((λ n. n z), ap (λ x. fault_of x) q) }

-- a list that is read to its end, after a value and before one
whole_step_to : {X E T V T' V' : Type 0} (fault : X → E) (view : T → V) (view' : T' → V') (f : Format E V) (k : V → Format E V') (old mid : Cursor) (x : T) (result : Result T' X)
    → spells f (octets_left old) (view x) (octets_left mid) → mid ≡ advanced old mid.left → ReadsWhole fault view' (k (view x)) mid result → ReadsWhole fault view' (f >>= k) old result
whole_step_to fault view view' f k old mid x (Ok y) s e r = (r.0, (view x, octets_left mid, s, r.1))
whole_step_to fault view view' f k old mid x (Err y) s e r = inr (view x, octets_left mid, s, subst (λ z. refuses (k (view x)) z (fault y)) (moved old mid e) r)

pub step_whole : {X E T V T' V' : Type 0} {fault : X → E} {view : T → V} {view' : T' → V'} {f : Format E V} {k : V → Format E V'} {old mid : Cursor} {x : T} {result : Result T' X}
    → ReadsBy fault view f old (Ok x) mid → ReadsToEnd fault view' (k (view x)) mid result → ReadsToEnd fault view' (f >>= k) old result
step_whole {fault = fault} {view = view} {view' = view'} {f = f} {k = k} {old = old} {mid = mid} {x = x} {result = result} a b = record {
  reads_whole = λ h. let r = a.reads h in whole_step_to fault view view' f k old mid x result r.0 r.1 (b.reads_whole (kept old mid r.1 h));
}

pub stop_whole : {X E T V T' V' : Type 0} {fault : X → E} {view : T → V} {view' : T' → V'} {f : Format E V} {k : V → Format E V'} {old : Cursor} {e : X}
    → ReadsToEnd fault view f old (Err e) → ReadsToEnd fault view' (f >>= k) old (Err e)
stop_whole a = record { reads_whole = λ h. inl (a.reads_whole h) }

pub finish_whole : {X E T V T' V' : Type 0} {fault : X → E} {view : T → V} {view' : T' → V'} {f : Format E V} {k : V → Format E V'} {old : Cursor} {x : T} {y : T'}
    → ReadsToEnd fault view f old (Ok x) → ((m : List ℕ) → spells (k (view x)) m (view' y) m) → ReadsToEnd fault view' (f >>= k) old (Ok y)
finish_whole {view = view} {x = x} a g = record { reads_whole = λ h. let r = a.reads_whole h in (r.0, (view x, r.0, r.1, g r.0)) }

-- the last element of a content
last_to : (old mid : Cursor) (x : Any) (result : Result (Unit {0}) (ReadError BerError)) → octets_left old ≢ [] → spells any (octets_left old) (element_of x) (octets_left mid) → mid ≡ advanced old mid.left
    → EndsAt mid result → ReadsWhole fault_of (λ u. octets_left old) last_any old result
last_to old mid x (Ok u) n s m e = (
  octets_left mid,
  inr (
    n,
    (
      (octets_left old, element_of x),
      octets_left mid,
      (s, sym (ap (λ z. octets_left old ++ z) e ∙ append-nil (octets_left old))),
      (tt, octets_left mid, (e, refl), (refl, refl)),
    ),
  ),
)
last_to old mid x (Err e) n s m q =
    let b = element_front (element_of x).0 (element_of x).1 (element_of x).2 (octets_left old) (element_of x).3 (octets_left mid) s.0 in
    let r : refuses end_of_content (spot_of mid) (fault_of e) = (q.0, ap (λ x. fault_of x) q.1) in
    inr (n, inr ((b.0, element_of x), octets_left mid, (s, b.1), inl (subst (λ z. refuses end_of_content z (fault_of e)) (moved old mid m) r)))

pub last_read : {old mid : Cursor} {x : Any} {result : Result (Unit {0}) (ReadError BerError)} → octets_left old ≢ [] → ReadsAnyAt old (Ok x) mid → EndsAt mid result
    → ReadsToEnd fault_of (λ u. octets_left old) last_any old result
last_read {old = old} {mid = mid} {x = x} {result = result} n a e = record { reads_whole = λ h. let r = (any_read a).reads h in last_to old mid x result n r.0 r.1 e }

pub last_refused : {old mid : Cursor} {e : ReadError BerError} → octets_left old ≢ [] → ReadsAnyAt old (Err e) mid → ReadsToEnd {T = Unit {0}} fault_of (λ u. octets_left old) last_any old (Err e)
last_refused n a = record { reads_whole = λ h. inr (n, inl ((any_read a).reads h)) }

pub last_absent : {old : Cursor} {u : Unit {0}} → octets_left old ≡ [] → ReadsToEnd fault_of (λ u. octets_left old) last_any old (Ok u)
last_absent {old} e = record { reads_whole = λ h. (octets_left old, inl (e, (e, refl))) }

-- an explicit tag that may be absent
pub tag_absent : {T V : Type 0} {view : T → V} {v : V} {f : Format Fault V} (n : ℕ) {old mid : Cursor} {x : T} → OpensTagged n old (Ok None) mid → view x ≡ v
    → ReadsBy fault_of view (explicit_or v n f) old (Ok x) mid
tag_absent n o q = second o.0 (nothing_read q o.1)

pub tag_refused : {T V : Type 0} {view : T → V} {v : V} {f : Format Fault V} (n : ℕ) {old mid : Cursor} {e : ReadError BerError} → OpensTagged n old (Err e) mid
    → ReadsBy fault_of view (explicit_or v n f) old (Err e) mid
tag_refused n o = first o.0 (stop (element_read ContextSpecific true n o.1))

pub tag_read : {T V : Type 0} {view : T → V} {v : V} {f : Format Fault V} (n : ℕ) {old inner mid new : Cursor} {result : Result T (ReadError BerError)} (found : Option Cursor) → OpensTagged n old (Ok found) mid
    → found ≡ Some inner → (IsContent inner mid → ReadsBy fault_of view (inside (octets_left inner) (f >>= λ v. end_of_content >>= λ u. done v)) mid result new)
    → ReadsBy fault_of view (explicit_or v n f) old result new
tag_read n {old = old} {mid = mid} found o e a = let t = subst (λ x. OpensTagged n old (Ok x) mid) e o in first t.0 (opened_tag n t.1 a)

-- a value that has to be so
pub required_refused : {X E T V : Type 0} {fault : X → E} {view : T → V} {f : Format E V} {P : V → Type 0} {at : Spot → E} {old new : Cursor} {e : X}
    → ReadsBy fault view f old (Err e) new → ReadsBy fault view (requiring P at f) old (Err e) new
required_refused a = record { reads = λ h. inl (a.reads h) }

pub required_read : {X E T V : Type 0} {fault : X → E} {view : T → V} {f : Format E V} {P : V → Type 0} {at : Spot → E} {old new : Cursor} {x : T}
    → ReadsBy fault view f old (Ok x) new → P (view x) → ReadsBy fault view (requiring P at f) old (Ok x) new
required_read a p = record { reads = λ h. let r = a.reads h in ((r.0, p), r.1) }

pub not_so : {X E T V : Type 0} {fault : X → E} {view : T → V} {f : Format E V} {P : V → Type 0} {at : Spot → E} {old mid new : Cursor} {x : T} {e : X}
    → ReadsBy fault view f old (Ok x) mid → ¬ P (view x) → fault e ≡ at (spot_of old) → ReadsBy fault view (requiring P at f) old (Err e) new
not_so {view = view} {mid = mid} {x = x} a n q = record { reads = λ h. let r = a.reads h in inr (view x, octets_left mid, r.0, n, q) }

-- a value with its octets
pub octets_refused : {X E T V : Type 0} {fault : X → E} {view : T → V} {f : Format E V} {old new : Cursor} {e : X}
    → ReadsBy fault view f old (Err e) new → ReadsBy fault (λ y. ([], view y)) (with_octets f) old (Err e) new
octets_refused a = record { reads = λ h. a.reads h }

pub octets_read : {X E T V : Type 0} {fault : X → E} {view : T → V} {f : Format E V} {old new : Cursor} {x : T} (b : List ℕ)
    → ReadsBy fault view f old (Ok x) new → (spells f (octets_left old) (view x) (octets_left new) → octets_left old ≡ b ++ octets_left new)
    → ReadsBy fault (λ y. (b, view y)) (with_octets f) old (Ok x) new
octets_read b a q = record { reads = λ h. let r = a.reads h in ((r.0, q r.0), r.1) }

-- a front of octets, by how many follow it
pub front_of : (i b rest : List ℕ) → i ≡ b ++ rest → take (length i - length rest) i ≡ b
front_of i b rest e =
    let n : length i - length rest ≡ length b = omega (arith, ap length e, length-append b rest) in
    ap (λ k. take k i) n ∙ ap (λ x. take (length b) x) e ∙ take_at b rest (length b) refl

pub element_taken : (c : Class) (p : Bool) (t : ℕ) (i w rest : List ℕ) → SpellsElement Der c p t i (w, rest) → i ≡ take (length i - length rest) i ++ rest
element_taken c p t i w rest s =
    let b = element_front c p t i w rest s in
    b.1 ∙ ap (λ x. x ++ rest) (sym (front_of i b.0 rest b.1))

-- the same of an element of a field
module _ {N X : Type 0} (fault : X → N × Fault) (at : N → ReadError BerError → X) (same : (n : N) (e : ReadError BerError) → fault (at n e) ≡ (n, fault_of e)) where
  pub shorter_by : (n : N) (p : Bool) (t : ℕ) (inner : Cursor) {old mid : Cursor} (found : Result Cursor (ReadError BerError)) → NamesBy at n found (Ok inner) → OpensType p t old found mid → IsShorter old mid
  shorter_by n p t inner {old = old} {mid = mid} found e o = type_shorter p t (subst (λ r. OpensType p t old r mid) (found_by fault at same n found inner e) o)

pub shorter_field : (n : Field) (p : Bool) (t : ℕ) (inner : Cursor) {old mid : Cursor} (found : Result Cursor (ReadError BerError)) → NamesField n found (Ok inner) → OpensType p t old found mid → IsShorter old mid
shorter_field n p t inner found e o = shorter_by field_fault certificate_refusal (λ n e. refl) n p t inner found e o

-- a cursor that was lent is afterwards what its borrower left
pub given_back : {X E T V : Type 0} {fault : X → E} {view : T → V} {f : Format E V} {old new after : Cursor} {result : Result T X} → ReadsBy fault view f old result new → after ≡ new
    → ReadsBy fault view f old result after
given_back {fault = fault} {view = view} {f = f} {old = old} {result = result} a q = subst (λ c. ReadsBy fault view f old result c) (sym q) a

-- Of a value and a fault, octets show one at most, and in one way.
use Rattle.std.proofs.Common.{◌≡◌, ◌≢◌, ℕ, ◌⊎◌, Bool, false, List, [], ◌++◌, refl, sym, ap, subst, ◌∙◌, inl, inr}
use Rattle.std.proofs.lemmas.Bool.{false≢true}
use Rattle.std.proofs.lemmas.List.{append_cancel_right}
use Rattle.der_base.specs.declared.error.Needed.TheVariants.{Size}
use Rattle.der_base.specs.declared.header.Class.{Class}
use Rattle.der_base.specs.declared.rules.Rules.TheVariants.{Der}
use Rattle.der_base.specs.LeafRefusal.{IsFirstRefusal}
use Rattle.der_base.specs.Refusal.{Refusal as Name, incomplete}
use Rattle.der_base.proofs.Leaves.Refusals.{first_refusal_once, none_refuses}
use Rattle.der_cursor.specs.Elements.{SpellsElement, ElementRefuses, ElementLacks, NoElement}
use Rattle.der_cursor.proofs.AnyLaws.{header_told}
use Rattle.der_cursor.proofs.ElementLaws.{element_same, element_shows_one, no_element_no_lack, no_element_not, no_element_same, not_lacking, one_lack}
use Rattle.der_cursor.proofs.ValueLaws.{HasOneValue}
use Rattle.der_values.specs.Kinds.{Kind}
use Rattle.x509.specs.Formats.{Fault, Format, Items, Spot, IsReason, Reason, RefusesNext, ◌>>=◌, any, check, done, either, element, inside, items, more, named, none}
use Rattle.x509.specs.Formats.{primitive, requiring, with_octets, content_at, fault_at, left_at, refuses, spells, wrong, lacking, unnamed}

-- the kinds of value in it have one value for octets
abbrev pub IsExact : {E V : Type 0} → Format E V → Type 0
IsExact (◌>>=◌ {U = U} f k) = IsExact f × ((v : U) → IsExact (k v))
IsExact (primitive c t k) = HasOneValue k
IsExact (inside w f) = IsExact f
IsExact (either P f g) = IsExact f × IsExact g
IsExact (requiring P fault f) = IsExact f
IsExact (with_octets f) = IsExact f
IsExact (items {S = S} item a) = (b : S) → IsExact (item b)
IsExact (named n f) = IsExact f
IsExact _ = Unit {0}

pub record ShowsOne {E V : Type 0} (f : Format E V) : Type 0 where
  pub one_value : (i : List ℕ) (v u : V) (r q : List ℕ) → spells f i v r → spells f i u q → (v ≡ u) × (r ≡ q)
  pub one_fault : (s : Spot) (e e' : E) → refuses f s e → refuses f s e' → e ≡ e'
  pub not_both : (s : Spot) (v : V) (r : List ℕ) (e : E) → spells f s.octets v r → refuses f s e → ⊥

-- the next element
record NextOne (refused : Name → Type 0) (s : Spot) : Type 0 where
  same : (e e' : Name) → refused e → refused e' → e ≡ e'
  not_lacking : (e : Name) (n : ℕ) → refused e → ElementLacks Der s.octets n → ⊥

reason_same : (Q : Name → Type 0) (s : Spot) (x y : Reason) → NextOne Q s → IsReason Q s x → IsReason Q s y → x ≡ y
reason_same Q s (wrong e) (wrong e') n (inl a) (inl b) = ap (λ z. wrong z) (n.same e e' a b)
reason_same Q s (wrong e) (wrong e') n (inl a) (inr (i, m, l, q)) = absurd (n.not_lacking e m a l)
reason_same Q s (wrong e) (wrong e') n (inr (i, m, l, q)) (inl b) = absurd (n.not_lacking e' m b l)
reason_same Q s (wrong e) (wrong e') n (inr (i, m, l, q)) (inr (i', m', l', q')) =
    ap (λ z. wrong z) (q ∙ ap (λ k. incomplete (Size k)) (one_lack Der s.octets m m' l l') ∙ sym q')
reason_same Q s (wrong e) (lacking k) n (inl a) (o, l) = absurd (n.not_lacking e k a l)
reason_same Q s (wrong e) (lacking k) n (inr (i, m, l, q)) (o, l') = absurd (false≢true (sym o ∙ i))
reason_same Q s (lacking k) (wrong e) n (o, l) (inl b) = absurd (n.not_lacking e k b l)
reason_same Q s (lacking k) (wrong e) n (o, l') (inr (i, m, l, q)) = absurd (false≢true (sym o ∙ i))
reason_same Q s (lacking k) (lacking m) n (o, l) (o', l') = ap (λ z. lacking z) (one_lack Der s.octets k m l l')
reason_same Q s unnamed y n a b = absurd a
reason_same Q s x unnamed n a b = absurd b

next_same : (Q : Name → Type 0) (s : Spot) (e e' : Fault) → NextOne Q s → RefusesNext Q s e → RefusesNext Q s e' → e ≡ e'
next_same Q s e e' n (x, p, a) (y, q, b) = p ∙ ap (λ z. fault_at s z) (reason_same Q s x y n a b) ∙ sym q

reason_not : (Q : Name → Type 0) (s : Spot) (x : Reason) (P : Type 0) → ((e : Name) → Q e → P → ⊥) → ((n : ℕ) → ElementLacks Der s.octets n → P → ⊥) → IsReason Q s x → P → ⊥
reason_not Q s (wrong e) P a b (inl h) p = a e h p
reason_not Q s (wrong e) P a b (inr (i, n, l, q)) p = b n l p
reason_not Q s (lacking n) P a b (o, l) p = b n l p
reason_not Q s unnamed P a b h p = h

-- an element
element_one : (c : Class) (p : Bool) (t : ℕ) → ShowsOne (element c p t)
element_one c p t = record {
  one_value = λ i v u r q a b. let e = (element_same Der i c c p p t t (v, r) (u, q) a b).3 in (ap (λ x. x.0) e, ap (λ x. x.1) e);
  one_fault = λ s e e' a b. let o = element_shows_one Der c p t s.octets (λ v. v) in
      next_same (ElementRefuses Der c p t s.octets) s e e' (record { same = o.one_refusal; not_lacking = o.not_both }) a b;
  not_both = λ s v r e a b. let o = element_shows_one Der c p t s.octets (λ v. v) in
      reason_not (ElementRefuses Der c p t s.octets) s b.0 (SpellsElement Der c p t s.octets (v, r)) (λ x h z. o.not_refused (v, r) x z h) (λ n l z. o.not_lacking (v, r) n z l) b.2 a;
}

any_one : ShowsOne any
any_one = record {
  one_value = λ i v u r q a b.
      let e = element_same Der i v.0 u.0 v.1 u.1 v.2 u.2 (v.3, r) (u.3, q) a.0 b.0 in
      (header_told Der i v u e.0 e.1 e.2 (ap (λ x. x.0) e.3) a.1 b.1, ap (λ x. x.1) e.3);
  one_fault = λ s e e' a b. next_same (NoElement Der s.octets) s e e' (record { same = no_element_same Der s.octets; not_lacking = no_element_no_lack Der s.octets }) a b;
  not_both = λ s v r e a b. reason_not (NoElement Der s.octets) s b.0 (SpellsElement Der v.0 v.1 v.2 s.octets (v.3, r))
      (λ x h z. no_element_not Der s.octets v.0 v.1 v.2 (v.3, r) x z h)
      (λ n l z. not_lacking Der s.octets v.0 v.1 v.2 (v.3, r) n z l) b.2 a.0;
}

-- a value of a primitive type
module _ {V : Type 0} (c : Class) (t : ℕ) (k : Kind V) (one : HasOneValue k) where
  abbrev Refused : List ℕ → Name → Type 0
  Refused i x = ElementRefuses Der c false t i x ⊎ ((v : List ℕ × List ℕ) × SpellsElement Der c false t i v × IsFirstRefusal (k.tests v.0) x)

  same : (i : List ℕ) (v u : List ℕ × List ℕ) → SpellsElement Der c false t i v → SpellsElement Der c false t i u → v ≡ u
  same i v u a b = (element_same Der i c c false false t t v u a b).3

  refused_same : (i : List ℕ) (e e' : Name) → Refused i e → Refused i e' → e ≡ e'
  refused_same i e e' (inl a) (inl b) = (element_shows_one Der c false t i (λ v. v)).one_refusal e e' a b
  refused_same i e e' (inl a) (inr (v, s, f)) = absurd ((element_shows_one Der c false t i (λ v. v)).not_refused v e s a)
  refused_same i e e' (inr (v, s, f)) (inl b) = absurd ((element_shows_one Der c false t i (λ v. v)).not_refused v e' s b)
  refused_same i e e' (inr (v, s, f)) (inr (u, s', g)) =
      first_refusal_once (k.tests v.0) e e' f (subst (λ x. IsFirstRefusal (k.tests x.0) e') (sym (same i v u s s')) g)

  refused_not_lacking : (i : List ℕ) (e : Name) (n : ℕ) → Refused i e → ElementLacks Der i n → ⊥
  refused_not_lacking i e n (inl a) l = (element_shows_one Der c false t i (λ v. v)).not_both e n a l
  refused_not_lacking i e n (inr (v, s, f)) l = not_lacking Der i c false t v n s l

  not_refused : (i : List ℕ) (v : V) (r : List ℕ) (e : Name) → Refused i e → spells (primitive c t k) i v r → ⊥
  not_refused i v r e (inl a) (w, n, m, s) = (element_shows_one Der c false t i (λ v. v)).not_refused (w, r) e s a
  not_refused i v r e (inr (u, s', g)) (w, n, m, s) = none_refuses (k.tests w) e n (subst (λ x. IsFirstRefusal (k.tests x.0) e) (sym (same i (w, r) u s s')) g)

  primitive_value : (i : List ℕ) (v u : V) (r q : List ℕ) → spells (primitive c t k) i v r → spells (primitive c t k) i u q → (v ≡ u) × (r ≡ q)
  primitive_value i v u r q (w, n, m, s) (w', n', m', s') =
      let e = same i (w, r) (w', q) s s' in
      (one w v u m (subst (λ x. k.means x.0 u) (sym e) m'), ap (λ x. x.1) e)

  primitive_one : ShowsOne (primitive c t k)
  primitive_one = record {
    one_value = primitive_value;
    one_fault = λ s e e' a b. next_same (Refused s.octets) s e e' (record { same = refused_same s.octets; not_lacking = refused_not_lacking s.octets }) a b;
    not_both = λ s v r e a b. reason_not (Refused s.octets) s b.0 (spells (primitive c t k) s.octets v r) (λ x h z. not_refused s.octets v r x h z) (λ n l z. not_lacking Der s.octets c false t (z.0, r) n z.3 l) b.2 a;
  }

-- one format after another
module _ {E U V : Type 0} (f : Format E U) (k : U → Format E V) (a : ShowsOne f) (b : (v : U) → ShowsOne (k v)) where
  then_value : (i : List ℕ) (v u : V) (r q : List ℕ) → spells (f >>= k) i v r → spells (f >>= k) i u q → (v ≡ u) × (r ≡ q)
  then_value i v u r q (x, m, s, t) (y, n, s', t') =
      let e = a.one_value i x y m n s s' in
      (b x).one_value m v u r q t (subst (λ z. spells (k z) m u q) (sym e.0) (subst (λ z. spells (k y) z u q) (sym e.1) t'))

  then_fault : (s : Spot) (e e' : E) → refuses (f >>= k) s e → refuses (f >>= k) s e' → e ≡ e'
  then_fault s e e' (inl x) (inl y) = a.one_fault s e e' x y
  then_fault s e e' (inl x) (inr (v, m, y, z)) = absurd (a.not_both s v m e y x)
  then_fault s e e' (inr (v, m, y, z)) (inl x) = absurd (a.not_both s v m e' y x)
  then_fault s e e' (inr (v, m, y, z)) (inr (u, n, y', z')) =
      let q = a.one_value s.octets v u m n y y' in
      (b v).one_fault (left_at s m) e e' z (subst (λ x. refuses (k x) (left_at s m) e') (sym q.0) (subst (λ x. refuses (k u) (left_at s x) e') (sym q.1) z'))

  then_not_both : (s : Spot) (v : V) (r : List ℕ) (e : E) → spells (f >>= k) s.octets v r → refuses (f >>= k) s e → ⊥
  then_not_both s v r e (x, m, y, z) (inl h) = a.not_both s x m e y h
  then_not_both s v r e (x, m, y, z) (inr (u, n, y', z')) =
      let q = a.one_value s.octets x u m n y y' in
      (b x).not_both (left_at s m) v r e z (subst (λ x. refuses (k x) (left_at s m) e) (sym q.0) (subst (λ x. refuses (k u) (left_at s x) e) (sym q.1) z'))

  then_one : ShowsOne (f >>= k)
  then_one = record { one_value = then_value; one_fault = then_fault; not_both = then_not_both }

-- one of two
module _ {E V : Type 0} (P : List ℕ → Type 0) (f g : Format E V) (a : ShowsOne f) (b : ShowsOne g) where
  either_value : (i : List ℕ) (v u : V) (r q : List ℕ) → spells (either P f g) i v r → spells (either P f g) i u q → (v ≡ u) × (r ≡ q)
  either_value i v u r q (inl (p, s)) (inl (p', t)) = a.one_value i v u r q s t
  either_value i v u r q (inl (p, s)) (inr (n, t)) = absurd (n p)
  either_value i v u r q (inr (n, s)) (inl (p, t)) = absurd (n p)
  either_value i v u r q (inr (n, s)) (inr (n', t)) = b.one_value i v u r q s t

  either_fault : (s : Spot) (e e' : E) → refuses (either P f g) s e → refuses (either P f g) s e' → e ≡ e'
  either_fault s e e' (inl (p, x)) (inl (p', y)) = a.one_fault s e e' x y
  either_fault s e e' (inl (p, x)) (inr (n, y)) = absurd (n p)
  either_fault s e e' (inr (n, x)) (inl (p, y)) = absurd (n p)
  either_fault s e e' (inr (n, x)) (inr (n', y)) = b.one_fault s e e' x y

  either_not_both : (s : Spot) (v : V) (r : List ℕ) (e : E) → spells (either P f g) s.octets v r → refuses (either P f g) s e → ⊥
  either_not_both s v r e (inl (p, x)) (inl (p', y)) = a.not_both s v r e x y
  either_not_both s v r e (inl (p, x)) (inr (n, y)) = n p
  either_not_both s v r e (inr (n, x)) (inl (p, y)) = n p
  either_not_both s v r e (inr (n, x)) (inr (n', y)) = b.not_both s v r e x y

  either_one : ShowsOne (either P f g)
  either_one = record { one_value = either_value; one_fault = either_fault; not_both = either_not_both }

-- a value that is so
module _ {E V : Type 0} (P : V → Type 0) (fault : Spot → E) (f : Format E V) (a : ShowsOne f) where
  required_fault : (s : Spot) (e e' : E) → refuses (requiring P fault f) s e → refuses (requiring P fault f) s e' → e ≡ e'
  required_fault s e e' (inl x) (inl y) = a.one_fault s e e' x y
  required_fault s e e' (inl x) (inr (v, m, y, n, q)) = absurd (a.not_both s v m e y x)
  required_fault s e e' (inr (v, m, y, n, q)) (inl x) = absurd (a.not_both s v m e' y x)
  required_fault s e e' (inr (v, m, y, n, q)) (inr (u, m', y', n', q')) = q ∙ sym q'

  required_not_both : (s : Spot) (v : V) (r : List ℕ) (e : E) → spells (requiring P fault f) s.octets v r → refuses (requiring P fault f) s e → ⊥
  required_not_both s v r e (x, p) (inl h) = a.not_both s v r e x h
  required_not_both s v r e (x, p) (inr (u, m, y, n, q)) = n (subst (λ z. P z) (a.one_value s.octets v u r m x y).0 p)

  required_one : ShowsOne (requiring P fault f)
  required_one = record { one_value = λ i v u r q s t. a.one_value i v u r q s.0 t.0; one_fault = required_fault; not_both = required_not_both }

-- items
module _ {E S : Type 0} (item : S → Format E S) (a : (s : S) → ShowsOne (item s)) where
  abbrev Run : S → List ℕ → S → List ℕ → Type 0
  Run = Items (λ s. spells (item s))

  -- a run to the end goes through wherever another one stops
  runs_on : {s t u : S} {i j : List ℕ} → Run s i t j → Run s i u [] → Run t j u []
  runs_on {s = s} {u = u} {j = j} (none p q) r = subst (λ x. Run x j u []) p (subst (λ x. Run s x u []) q r)
  runs_on (more n x y) (none p q) = absurd (n q)
  runs_on {u = u} (more {a = s} {b = b} {c = c} {i = i} {j = j} {k = k} n x y) (more {b = b'} {j = j'} n' x' y') =
      let e = (a s).one_value i b b' j j' x x' in
      runs_on y (subst (λ z. Run z j u []) (sym e.0) (subst (λ z. Run b' z u []) (sym e.1) y'))

  ended : {s t : S} {i : List ℕ} → Run s i t [] → i ≡ [] → s ≡ t
  ended (none p q) e = p
  ended (more n x y) e = absurd (n e)

  -- two runs that stop at items that are refused stop at one
  stop_same : {s t u : S} {i j k : List ℕ} {e e' : E} (z : Spot) → Run s i t j → refuses (item t) (left_at z j) e → j ≢ [] → Run s i u k → refuses (item u) (left_at z k) e' → k ≢ [] → e ≡ e'
  stop_same {t = t} {u = u} {i = i} {j = j} {k = k} {e = e} {e' = e'} z (none p q) f n (none p' q') f' n' =
      (a t).one_fault (left_at z j) e e' f (subst (λ x. refuses (item x) (left_at z j) e') (sym p' ∙ p) (subst (λ x. refuses (item u) (left_at z x) e') (sym q' ∙ q) f'))
  stop_same {s = s} {t = t} {i = i} {j = j} {e = e} z (none p q) f n (more {b = b} {j = m} n' x y) f' m' =
      absurd ((a s).not_both (left_at z i) b m e x (subst (λ x. refuses (item x) (left_at z i) e) (sym p) (subst (λ x. refuses (item t) (left_at z x) e) (sym q) f)))
  stop_same {s = s} {u = u} {i = i} {k = k} {e' = e'} z (more {b = b} {j = m} n x y) f m' (none p q) f' n' =
      absurd ((a s).not_both (left_at z i) b m e' x (subst (λ x. refuses (item x) (left_at z i) e') (sym p) (subst (λ x. refuses (item u) (left_at z x) e') (sym q) f')))
  stop_same {s = s} {u = u} {i = i} {k = k} z (more {b = b} {j = m} n x y) f o (more {b = b'} {j = m'} n' x' y') f' o' =
      let e = (a s).one_value i b b' m m' x x' in
      stop_same z y f o (subst (λ w. Run w m u k) (sym e.0) (subst (λ w. Run b' w u k) (sym e.1) y')) f' o'

  not_stopped : {t u : S} {j : List ℕ} (e : E) (z : Spot) → Run u j t [] → j ≢ [] → refuses (item u) (left_at z j) e → ⊥
  not_stopped e z (none p q) n f = n q
  not_stopped {u = u} {j = j} e z (more {b = b} {j = m} n' x y) n f = (a u).not_both (left_at z j) b m e x f

  items_one : (s : S) → ShowsOne (items item s)
  items_one s = record {
    one_value = λ i v u r q x y.
        (ended (runs_on (subst (λ z. Run s i v z) x.1 x.0) (subst (λ z. Run s i u z) y.1 y.0)) refl, x.1 ∙ sym y.1);
    one_fault = λ z e e' x y. stop_same z x.2 x.4 x.3 y.2 y.4 y.3;
    not_both = λ z v r e x y. not_stopped e z (runs_on y.2 (subst (λ w. Run s z.octets v w) x.1 x.0)) y.3 y.4;
  }

-- octets with their value
octets_one : {E V : Type 0} (f : Format E V) → ShowsOne f → ShowsOne (with_octets f)
octets_one f a = record {
  one_value = λ i x y r q s t.
      let e = a.one_value i x.1 y.1 r q s.0 t.0 in
      let o = append_cancel_right x.0 y.0 r (sym s.1 ∙ t.1 ∙ ap (λ z. y.0 ++ z) (sym e.1)) in
      (ap (λ z. (z, x.1)) o ∙ ap (λ z. (y.0, z)) e.0, e.1);
  one_fault = a.one_fault;
  not_both = λ s v r e x y. a.not_both s v.1 r e x.0 y;
}

pub shows_one : {E V : Type 0} (f : Format E V) → IsExact f → ShowsOne f
shows_one (f >>= k) x = then_one f k (shows_one f x.0) (λ v. shows_one (k v) (x.1 v))
shows_one (done v) x = record {
  one_value = λ i w u r q s t. (s.0 ∙ sym t.0, s.1 ∙ sym t.1);
  one_fault = λ s e e' a b. absurd a;
  not_both = λ s v r e a b. b;
}
shows_one (element c p t) x = element_one c p t
shows_one (primitive c t k) x = primitive_one c t k x
shows_one any x = any_one
shows_one (inside w f) x =
    let o = shows_one f x in record {
      one_value = λ i v u r q s t. ((o.one_value w v u s.0.0 t.0.0 s.0.1 t.0.1).0, s.1 ∙ sym t.1);
      one_fault = λ s e e' a b. o.one_fault (content_at s w) e e' a b;
      not_both = λ s v r e a b. o.not_both (content_at s w) v a.0.0 e a.0.1 b;
    }
shows_one (either P f g) x = either_one P f g (shows_one f x.0) (shows_one g x.1)
shows_one (check P fault) x = record {
  one_value = λ i v u r q s t. (refl, s.1 ∙ sym t.1);
  one_fault = λ s e e' a b. a.1 ∙ sym b.1;
  not_both = λ s v r e a b. b.0 a.0;
}
shows_one (requiring P fault f) x = required_one P fault f (shows_one f x)
shows_one (with_octets f) x = octets_one f (shows_one f x)
shows_one (items item s) x = items_one item (λ b. shows_one (item b) (x b)) s
shows_one (named n f) x =
    let o = shows_one f x in record {
      one_value = o.one_value;
      one_fault = λ s e e' a b. a.2 ∙ ap (λ z. (n, z)) (o.one_fault s a.0 b.0 a.1 b.1) ∙ sym b.2;
      not_both = λ s v r e a b. o.not_both s v r b.0 a b.1;
    }

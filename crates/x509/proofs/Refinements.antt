-- A walk that doesn't look into the items of a list is one over what was read.
use Rattle.std.proofs.Common.{◌≡◌, ◌≢◌, ℕ, ◌⊎◌, true, List, [], ◌∷◌, ◌++◌, length, refl, sym, ap, subst, ◌∙◌, inl, inr, arith, append-nil}
use Rattle.std.specs.Prelude.{◌↔◌}
use Rattle.der_base.specs.declared.header.Class.TheVariants.{Universal}
use Rattle.der_base.specs.declared.rules.Rules.TheVariants.{Der}
use Rattle.der_base.specs.Octets.{identifier, shortest_length}
use Rattle.der_base.specs.SetOfOrder.{Descends}
use Rattle.der_cursor.specs.Elements.{Element, SpellsAny}
use Rattle.x509.specs.Certificates.{Attribute, ExtensionValue, Signed, Tbs, attribute, extension, name, relative_name, tbs_certificate, whole_certificate}
use Rattle.x509.specs.Certificates.{extensions as extension_list}
use Rattle.x509.specs.Formats.{Fault, Format, Items, ◌>>=◌, each, element, explicit_or, more, none, list_of, sequence, set, some_octets, spells, with_octets}
use Rattle.x509.specs.Laws.{HasOtherValue, IsUnordered, NamesHaveThem, NoneIsLeft, OrderIsOfAttributes, RepetitionIsOfIdentifiers, SetsAreRelativeNames, ValuesAreOfAttributes, encoding_of}
use Rattle.x509.specs.Lists.{BeginsWithNone, Somewhere, here, later}
use Rattle.x509.specs.Rules.{AttributesBreakDer, AttributesDescend, HasDescent, HasRepetition, HaveOneIdentifier, IsDer, NameBreaksDer, leading_identifier}
use Rattle.x509.proofs.CertificateLaws.{attribute_exact, extension_exact, relative_name_exact}
use Rattle.x509.proofs.FormatLaws.{IsExact, shows_one}
use Rattle.x509.proofs.ReaderLaws.{element_front, element_less}

-- the octets are values of the format, to their end
abbrev Run : {E V : Type 0} → Format E V → List ℕ → Type 0
Run f i = spells (list_of f) i tt []

-- the first of them
first_of : {E V : Type 0} (f : Format E V) (i j : List ℕ) (a b : Unit {0}) → Items (λ s. spells (each f s)) a i b j → j ≡ [] → i ≢ [] → (v : V) × (rest : List ℕ) × spells f i v rest × Run f rest
first_of f i j a b (none p q) e n = absurd (n (q ∙ e))
first_of f i j a b (more {j = m} o (v, r, s, (t, d)) others) e n =
    let whole = subst (λ z. Items (λ s. spells (each f s)) tt m tt z) e others in
    (v, r, s, (subst (λ z. Items (λ s. spells (each f s)) tt z tt []) d whole, refl))

-- a format f whose values begin with those of g, which has octets
record Refines {E F V W : Type 0} (f : Format E V) (g : Format F W) (R : V → W → Type 0) : Type 0 where
  f_exact : IsExact f
  g_exact : IsExact g
  refine : (i rest : List ℕ) (v : V) → spells f i v rest → (w : W) × spells g i w rest × R v w
  g_octets : BeginsWithNone g []

module _ {E F V W : Type 0} (f : Format E V) (g : Format F W) (R : V → W → Type 0) (x : Refines f g R) where
  -- a value of g is one of f
  same_step : (i rest : List ℕ) (w : W) → Run f i → spells g i w rest → (v : V) × spells f i v rest × R v w × Run f rest
  same_step i rest w r s =
      let (v, j, a, b) = first_of f i [] tt tt r.0 refl (λ e. x.g_octets w rest (subst (λ z. spells g z w rest) e s)) in
      let (u, t, q) = x.refine i j v a in
      let e = (shows_one g x.g_exact).one_value i u w j rest t s in
      (v, subst (λ z. spells f i v z) e.1 a, subst (λ z. R v z) e.0 q, subst (λ z. Run f z) e.1 b)

  next_run : (i rest : List ℕ) (v : V) → Run f i → spells f i v rest → Run f rest
  next_run i rest v r s = let (w, t, q) = x.refine i rest v s in (same_step i rest w r t).3

  up : {P : W → List ℕ → Type 0} {Q : V → List ℕ → Type 0} {i : List ℕ} → ((v : V) (w : W) (rest : List ℕ) → Run f rest → R v w → P w rest → Q v rest) → Run f i → Somewhere g P i → Somewhere f Q i
  up {i = i} h r (here {rest = rest} w s p) = let (v, t, q, n) = same_step i rest w r s in here v t (h v w rest n q p)
  up {i = i} h r (later {rest = rest} w s p) = let (v, t, q, n) = same_step i rest w r s in later v t (up h n p)

  down : {P : W → List ℕ → Type 0} {Q : V → List ℕ → Type 0} {i : List ℕ} → ((v : V) (w : W) (rest : List ℕ) → Run f rest → R v w → Q v rest → P w rest) → Run f i → Somewhere f Q i → Somewhere g P i
  down {i = i} h r (here {rest = rest} v s p) = let (w, t, q) = x.refine i rest v s in here w t (h v w rest (next_run i rest v r s) q p)
  down {i = i} h r (later {rest = rest} v s p) = let (w, t, q) = x.refine i rest v s in later w t (down h (next_run i rest v r s) p)

nothing_begins : (t : ℕ) (w rest : List ℕ) → spells (element Universal true t) [] w rest → ⊥
nothing_begins t w rest s = omega (arith, element_less Der Universal true t [] (w, rest) s)

-- a list to the end of a content
all_of : {E V : Type 0} (f : Format E V) {i r : List ℕ} {u : Unit {0}} → spells (list_of f) i u r → Run f i
all_of f {i = i} {u = u} l = (subst (λ z. Items (λ s. spells (each f s)) tt i u z) l.1 l.0, refl)

some_of : {V : Type 0} (f : Format Fault V) {i r : List ℕ} {u : Unit {0}} → spells (some_octets >>= λ u. list_of f) i u r → Run f i
some_of f a = subst (λ z. Run f z) a.2.1 (all_of f a.3)

-- an attribute is a SEQUENCE
attributes : Refines (with_octets attribute) (with_octets sequence) (λ a b. a.0 ≡ b.0)
attributes = record {
  f_exact = attribute_exact;
  g_exact = tt;
  refine = λ i rest v s. ((v.0, s.0.0), (subst (λ z. spells sequence i s.0.0 z) (sym s.0.3.1) s.0.2, s.1), refl);
  g_octets = λ w rest s. nothing_begins 16 w.1 rest s.0;
}

with_their_octets : {a b : Unit {0}} {i j : List ℕ} → Items (λ s. spells (each attribute s)) a i b j → Items (λ s. spells (each (with_octets attribute) s)) a i b j
with_their_octets (none p q) = none p q
with_their_octets {i = i} (more n (v, r, s, (t, d)) others) =
    let b = element_front Universal true 16 i s.0 r (subst (λ z. spells sequence i s.0 z) (sym s.3.1) s.2) in
    more n ((b.0, v), r, (s, b.1), (t, d)) (with_their_octets others)

-- attributes descend, as SEQUENCEs and as attributes
unordered : (w : List ℕ) → Run attribute w → AttributesDescend w ↔ IsUnordered w
unordered w r = (
  up _ _ _ attributes
      (λ a b rest n q (c, after, s, d).
      let (e, t, p, m) = same_step _ _ _ attributes rest after c n s in
      (e, after, t, subst (λ z. Descends z e.0) (sym q) (subst (λ z. Descends b.0 z) (sym p) d)))
      (with_their_octets r.0, refl),
  down _ _ _ attributes
      (λ a b rest n q (c, after, s, d).
      let (e, t, p) = attributes.refine rest after c s in
      (e, after, t, subst (λ z. Descends z e.0) q (subst (λ z. Descends a.0 z) p d)))
      (with_their_octets r.0, refl),
)

-- a relative name is a SET
relative_names : Refines relative_name set (λ v w. (v ≡ w) × Run attribute w)
relative_names = record {
  f_exact = relative_name_exact;
  g_exact = tt;
  refine = λ i rest v s. (s.0, subst (λ z. spells set i s.0 z) (sym (s.3.3.1 ∙ s.3.2.1)) s.2, (s.3.3.0, some_of attribute s.3.2.0.1));
  g_octets = λ w rest s. nothing_begins 17 w rest s;
}

ordered : (i : List ℕ) → Run relative_name i → HasDescent i ↔ Somewhere relative_name (λ w _. IsUnordered w) i
ordered i r = (
  up _ _ _ relative_names (λ v w rest n q d. subst (λ z. IsUnordered z) (sym q.0) ((unordered w q.1).0 d)) r,
  down _ _ _ relative_names (λ v w rest n q d. (unordered w q.1).1 (subst (λ z. IsUnordered z) q.0 d)) r,
)

-- an attribute is a SEQUENCE in which its value follows the identifier
abbrev HasValue : Attribute → List ℕ → Type 0
HasValue a w = (x : List ℕ) × spells leading_identifier w x (encoding_of a.value)

last_octets : (i : List ℕ) (e : Element) (rest : List ℕ) → SpellsAny Der i e rest → rest ≡ [] → i ≡ encoding_of e
last_octets i e rest s h = s.0.octets ∙ ap (λ z. identifier e.0 e.1 e.2 ++ shortest_length (length e.3) ++ z) (ap (λ z. e.3 ++ z) h ∙ append-nil e.3)

with_values : Refines attribute sequence HasValue
with_values = record {
  f_exact = attribute_exact;
  g_exact = tt;
  refine = λ i rest a s.
      let g = s.3.0.1 in
      let e = last_octets g.1 g.3.0 g.3.1 g.3.2 g.3.3.2.0 ∙ ap (λ z. encoding_of z.value) (sym g.3.3.3.0) in
      (s.0, subst (λ z. spells sequence i s.0 z) (sym s.3.1) s.2, (g.2.0, subst (λ z. spells leading_identifier s.0 g.2.0 z) e g.2.3));
  g_octets = λ w rest s. nothing_begins 16 w rest s;
}

values_of : (w : List ℕ) → Run attribute w → AttributesBreakDer w ↔ HasOtherValue w
values_of w r = (
  up _ _ _ with_values
      (λ a x rest n q (v, i, s, b). subst (λ z. ¬ IsDer z) (sym ((shows_one leading_identifier tt).one_value x q.0 v _ i q.1 s).1) b)
      r,
  down _ _ _ with_values (λ a x rest n q b. (q.0, encoding_of a.value, q.1, b)) r,
)

values_of_names : (i : List ℕ) → Run relative_name i → NameBreaksDer i ↔ Somewhere relative_name (λ w _. HasOtherValue w) i
values_of_names i r = (
  up _ _ _ relative_names (λ v w rest n q d. subst (λ z. HasOtherValue z) (sym q.0) ((values_of w q.1).0 d)) r,
  down _ _ _ relative_names (λ v w rest n q d. (values_of w q.1).1 (subst (λ z. HasOtherValue z) q.0 d)) r,
)

-- an extension is a SEQUENCE that begins with its identifier
abbrev Identifies : ExtensionValue → List ℕ → Type 0
Identifies e x = (q : List ℕ) × spells leading_identifier x e.identifier q

extensions : Refines extension sequence Identifies
extensions = record {
  f_exact = extension_exact;
  g_exact = tt;
  refine = λ i rest v s.
      let g = s.3.0.1 in
      (s.0, subst (λ z. spells sequence i s.0 z) (sym s.3.1) s.2, (g.1, subst (λ z. spells leading_identifier s.0 z g.1) (sym (ap (λ z. z.identifier) g.3.3.3.3.0 ∙ g.2.2)) g.2.3));
  g_octets = λ w rest s. nothing_begins 16 w rest s;
}

same_identifier : (e f : ExtensionValue) (x y : List ℕ) → Identifies e x → Identifies f y → HaveOneIdentifier x y ↔ (e.identifier ≡ f.identifier)
same_identifier e f x y (q, a) (p, b) = (
  λ (w, r, r', s, t).
      ((shows_one leading_identifier tt).one_value x e.identifier w q r a s).0 ∙ sym ((shows_one leading_identifier tt).one_value y f.identifier w p r' b t).0,
  λ h. (e.identifier, q, p, a, subst (λ z. spells leading_identifier y z p) (sym h) b),
)

repeated : (i : List ℕ) → Run extension i → HasRepetition i ↔ Somewhere extension (λ x rest. Somewhere extension (λ y _. x.identifier ≡ y.identifier) rest) i
repeated i r = (
  up _ _ _ extensions (λ e x rest n a. up _ _ _ extensions (λ f y rest' m b. (same_identifier e f x y a b).0) n) r,
  down _ _ _ extensions (λ e x rest n a. down _ _ _ extensions (λ f y rest' m b. (same_identifier e f x y a b).1) n) r,
)

-- the lists of a certificate
names_of : (i n rest : List ℕ) → spells name i n rest → Run relative_name n
names_of i n rest s = subst (λ z. Run relative_name z) (sym s.3.3.0) (all_of relative_name s.3.2.0.1)

extensions_of : (i x rest : List ℕ) → spells (explicit_or [] 3 extension_list) i x rest → Run extension x
extensions_of i x rest (inl (p, (w, m, o, ((r, (v, k, s, (u, l, z, e))), d)))) = subst (λ z. Run extension z) (sym (e.0 ∙ s.3.3.0)) (some_of extension s.3.2.0.1)
extensions_of i x rest (inr (n, e)) = subst (λ z. Run extension z) (sym e.0) (none refl refl, refl)

record HasLists (t : Tbs) : Type 0 where
  issuer : Run relative_name t.issuer
  subject : Run relative_name t.subject
  extensions : Run extension t.extensions

lists_of_tbs : (i : List ℕ) (t : Tbs) (rest : List ℕ) → spells tbs_certificate i t rest → HasLists t
lists_of_tbs i t rest s =
    let h = s.3.0.1.3.3.3 in
    let k = h.3.3 in
    let x = k.3.3.3.3 in
    subst (λ z. HasLists z) (sym x.3.3.0) (record {
      issuer = names_of _ h.0 h.1 h.2;
      subject = names_of _ k.0 k.1 k.2;
      extensions = extensions_of _ x.0 x.1 x.2;
    })

lists_of : (i : List ℕ) (c : Signed) → spells whole_certificate i c [] → HasLists c.tbs_certificate
lists_of i c s =
    let b = s.2.3.0.1 in
    let t = lists_of_tbs _ b.0.1 b.1 b.2.0 in
    subst (λ z. HasLists z) (sym (ap (λ z. z.tbs_certificate) (s.3.3.0 ∙ b.3.3.3.3.0))) t

either_of : {A B C D : Type 0} → (A → C) → (B → D) → A ⊎ B → C ⊎ D
either_of f g (inl a) = inl (f a)
either_of f g (inr b) = inr (g b)

-- what the laws say
pub names_have_them : NamesHaveThem
names_have_them i w rest s = names_of i w rest s

pub sets_are_relative_names : SetsAreRelativeNames
sets_are_relative_names i w rest r s =
    let (v, t, q, n) = same_step _ _ _ relative_names i rest w r s in
    (subst (λ z. spells relative_name i z rest) q.0 t, n)

pub none_is_left : NoneIsLeft
none_is_left [] r n = refl
none_is_left (o ∷ os) r n =
    let (v, rest, s, m) = first_of relative_name (o ∷ os) [] tt tt r.0 refl (λ e. cc) in
    let (w, t, q) = relative_names.refine (o ∷ os) rest v s in
    absurd (n w rest t)

pub order_is_of_attributes : OrderIsOfAttributes
order_is_of_attributes i c s =
    let l = lists_of i c s in
    let a = ordered c.tbs_certificate.issuer l.issuer in
    let b = ordered c.tbs_certificate.subject l.subject in
    (either_of a.0 b.0, either_of a.1 b.1)

pub repetition_is_of_identifiers : RepetitionIsOfIdentifiers
repetition_is_of_identifiers i c s =
    let r = repeated c.tbs_certificate.extensions (lists_of i c s).extensions in
    (either_of (λ m. m) r.0, either_of (λ m. m) r.1)

pub values_are_of_attributes : ValuesAreOfAttributes
values_are_of_attributes i w rest s = values_of_names w (names_of i w rest s)

-- Fields one after another: what is read of them, and one value at most.
use Rattle.std.proofs.Common.{◌≡◌, ◌≢◌, true, ◌<◌, ℕ, ◌-◌, List, [], ◌++◌, Option, Some, None, Result, Ok, Err, length, take, refl, sym, ap, subst, ◌∙◌, append_assoc}
use Rattle.std.proofs.lemmas.List.{append_cancel_right}
use Rattle.std.specs.Option.{option_map, unwrap_or}
use Rattle.der_base.specs.declared.error.Error.{Error as BerError}
use Rattle.der_base.specs.declared.header.Class.TheVariants.{Universal}
use Rattle.der_base.specs.declared.rules.Rules.TheVariants.{Der}
use Rattle.der_cursor.specs.declared.cursor.Cursor.{Cursor}
use Rattle.der_cursor.specs.declared.error.ReadError.{ReadError}
use Rattle.der_cursor.specs.Cursors.{StartsAt, octets_left}
use Rattle.x509.specs.Certificates.{ExtensionValue, extension}
use Rattle.x509.specs.Formats.{Fault, Format, Items, each, more, none, spells}
use Rattle.x509.specs.Lists.{BeginsWithNone}
use Rattle.x509.specs.Readers.{IsShorter, ReadsBy, fault_of}
use Rattle.x509.proofs.FormatLaws.{IsExact, shows_one}
use Rattle.x509.proofs.ListLaws.{no_item}
use Rattle.x509.proofs.ReaderLaws.{element_front, front_of}
use Rattle.x509.specs.Partial.Openings.{AreFirst, Field, OptionalField}
use Rattle.x509.specs.Partial.Partials.{GoesOn, IsTaken}

-- a field that a reader reads where it follows
module _ {T V : Type 0} (view : T → V) (f : Format Fault V) (x : IsExact f) where
  field_of : (found : Result T (ReadError BerError)) (old mid new : Option (List ℕ)) (c after : Cursor) (result : Option T) → IsTaken old (Some c) mid → ReadsBy fault_of view f c found after
      → GoesOn after found mid result new → Field f old (option_map view result) new
  field_of (Ok y) old mid new c after result t a g =
      let (i, e, s) = t.0 in
      let r = subst (λ z. spells f z (view y) (octets_left after)) s.0 (a.reads (s.3, s.4)).0 in
      subst (λ o. Field f o (option_map view result) new) (sym e) (subst (λ v. Field f (Some i) (option_map view v) new) (sym g.0) (octets_left after, g.1, r))
  field_of (Err y) old mid new c after result t a g =
      let (i, e, s) = t.0 in
      subst (λ o. Field f o (option_map view result) new) (sym e) (subst (λ v. Field f (Some i) (option_map view v) new) (sym g.0) (no_item x s a, g.1 ∙ t.1))

pub follows : {T V : Type 0} {view : T → V} {f : Format Fault V} {old mid : Option (List ℕ)} {c after : Cursor} {found : Result T (ReadError BerError)} (result : Option T) (new : Option (List ℕ)) → IsExact f
    → IsTaken old (Some c) mid → ReadsBy fault_of view f c found after → GoesOn after found mid result new → Field f old (option_map view result) new
follows {view = view} {f = f} {old = old} {mid = mid} {c = c} {after = after} {found = found} result new x t a g = field_of view f x found old mid new c after result t a g

map_same : {T : Type 0} (o : Option T) → option_map (λ v. v) o ≡ o
map_same (Some v) = refl
map_same None = refl

pub follows_same : {V : Type 0} {f : Format Fault V} {old mid : Option (List ℕ)} {c after : Cursor} {found : Result V (ReadError BerError)} (result : Option V) (new : Option (List ℕ)) → IsExact f
    → IsTaken old (Some c) mid → ReadsBy fault_of (λ v. v) f c found after → GoesOn after found mid result new → Field f old result new
follows_same {f = f} {old = old} result new x t a g = subst (λ v. Field f old v new) (map_same result) (follows result new x t a g)

-- one value at most, and one rest
pub field_one : {V : Type 0} (f : Format Fault V) → IsExact f → (i : Option (List ℕ)) (v u : Option V) (a b : Option (List ℕ)) → Field f i v a → Field f i u b → (v ≡ u) × (a ≡ b)
field_one f x (Some i) (Some v) (Some u) a b (r, p, s) (q, d, t) = let o = (shows_one f x).one_value i v u r q s t in (ap (λ z. Some z) o.0, p ∙ ap (λ z. Some z) o.1 ∙ sym d)
field_one f x (Some i) (Some v) None a b (r, p, s) (n, d) = absurd (n v r s)
field_one f x (Some i) None (Some u) a b (n, p) (q, d, t) = absurd (n u q t)
field_one f x (Some i) None None a b (n, p) (m, d) = (refl, p ∙ sym d)
field_one f x None v u a b (p, q) (d, e) = (p ∙ sym d, q ∙ sym e)

pub optional_one : {V : Type 0} (f : Format Fault (Option V)) → IsExact f → (i : Option (List ℕ)) (v u : Option V) (a b : Option (List ℕ)) → OptionalField f i v a → OptionalField f i u b → (v ≡ u) × (a ≡ b)
optional_one f x i v u a b (s, p, e) (t, q, d) = let o = field_one f x i s t a b p q in (e ∙ ap (λ z. unwrap_or z None) o.0 ∙ sym d, o.1)

-- values one after another
pub one_more : {S : Type 0} {Item : S → List ℕ → S → List ℕ → Type 0} {a b c : S} {i j k : List ℕ} → Items Item a i b j → j ≢ [] → Item b j c k → Items Item a i c k
one_more {Item = Item} {b = b} {c = c} {i = i} {k = k} (none p q) n h = more (λ z. n (sym q ∙ z)) (subst (λ x. Item x i c k) (sym p) (subst (λ x. Item b x c k) (sym q) h)) (none refl refl)
one_more (more n x y) m h = more n x (one_more y m h)

module _ {V : Type 0} (f : Format Fault V) (x : IsExact f) where
  run_one : {a b c : Unit {0}} {i j k : List ℕ} → Items (λ s. spells (each f s)) a i b j → Items (λ s. spells (each f s)) a i c k → BeginsWithNone f j → BeginsWithNone f k → j ≡ k
  run_one (none p q) (none d e) m n = sym q ∙ e
  run_one (none p q) (more d (v, r, s, t) y) m n = absurd (m v r (subst (λ z. spells f z v r) q s))
  run_one (more p (v, r, s, t) y) (none d e) m n = absurd (n v r (subst (λ z. spells f z v r) e s))
  run_one {i = i} {k = k} (more p (v, r, s, t) y) (more d (u, q, w, z) l) m n =
      let o = (shows_one f x).one_value i v u r q s w in
      let same = t.1 ∙ o.1 ∙ sym z.1 in
      run_one y (subst (λ j. Items (λ s. spells (each f s)) tt j tt k) (sym same) l) m n

  pub first_one : (i w v : List ℕ) → AreFirst f i w → AreFirst f i v → w ≡ v
  first_one i w v (r, e, s, n) (q, d, t, m) =
      let o : r ≡ q = run_one s t n m in
      append_cancel_right w v q (ap (λ z. w ++ z) (sym o) ∙ sym e ∙ d)

-- an extension is some octets, and what follows it
pub extension_front : (i rest : List ℕ) (v : ExtensionValue) → spells extension i v rest → (b : List ℕ) × (i ≡ b ++ rest)
extension_front i rest v s = subst (λ z. (b : List ℕ) × (i ≡ b ++ z)) (sym s.3.1) (element_front Universal true 16 i s.0 s.1 s.2)

-- what was read of a list, and what follows
pub run_front : {a b : Unit {0}} {i j : List ℕ} → Items (λ s. spells (each extension s)) a i b j → (w : List ℕ) × (i ≡ w ++ j)
run_front (none p q) = ([], q)
run_front (more {i = i} n (v, m, s, t) y) =
    let f = extension_front i m v s in
    let g = run_front y in
    (f.0 ++ g.0, f.1 ∙ ap (λ z. f.0 ++ z) (sym t.1 ∙ g.1) ∙ sym (append_assoc f.0 g.0 _))

-- the octets before what follows are the first extensions
pub run_first : {i rest : List ℕ} → Items (λ s. spells (each extension s)) tt i tt rest → BeginsWithNone extension rest → AreFirst extension i (take (length i - length rest) i)
run_first {i} {rest} r n =
    let f = run_front r in
    (rest, f.1 ∙ ap (λ z. z ++ rest) (sym (front_of i f.0 rest f.1)), r, n)

-- an extension that is next
pub extension_next : {T : Type 0} {view : T → ExtensionValue} {i : List ℕ} {c after : Cursor} {x : T} → StartsAt Der i c → ReadsBy fault_of view extension c (Ok x) after → IsShorter c after
    → spells (each extension tt) i tt (octets_left after) × (length (octets_left after) < length i)
extension_next {view = view} {c = c} {after = after} {x = x} s a l = (
  (view x, octets_left after, subst (λ z. spells extension z (view x) (octets_left after)) s.0 (a.reads (s.3, s.4)).0, (refl, refl)),
  subst (λ z. length (octets_left after) < length z) s.0 l,
)

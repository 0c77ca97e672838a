-- What a cursor returns for a value, from what it finds and what a reader of content octets returns.
use Rattle.std.proofs.Common.{◌≡◌, ℕ, false, List, Result, Ok, Err, Bor, refl, sym, ap, subst, ◌∙◌, inl, inr}
use Rattle.der_base.specs.declared.error.Err.TheVariants.{Error}
use Rattle.der_base.specs.declared.error.Error.{Error as BerError}
use Rattle.der_base.specs.declared.header.Class.{Class}
use Rattle.der_base.specs.LeafRefusal.{IsFirstRefusal}
use Rattle.der_base.specs.Refusal.{Refusal as Name}
use Rattle.der_base.proofs.Answers.Answering.{passed_on}
use Rattle.der_base.proofs.Answers.Exactness.{ShowsOne, exactly}
use Rattle.der_base.proofs.Leaves.Refusals.{first_refusal_once, none_refuses}
use Rattle.der_values.specs.Kinds.{Kind, Decodes}
use Rattle.der_cursor.specs.declared.cursor.Cursor.{Cursor}
use Rattle.der_cursor.specs.declared.error.ReadError.{ReadError}
use Rattle.der_cursor.specs.Cursors.{octets_left, rules_of, class_wanted, number_wanted, RefusesAt, FindsPrimitive, Takes}
use Rattle.der_cursor.specs.Cursors.{SpellsValue, ValueRefuses, value_left, ReadsValue}
use Rattle.der_cursor.specs.Elements.{SpellsElement, ElementRefuses, ElementLacks}
use Rattle.der_cursor.proofs.CursorLaws.{shows_one_at}
use Rattle.der_cursor.proofs.ElementLaws.{element_same, element_shows_one, not_lacking}

-- content octets have one value
abbrev pub HasOneValue : {V : Type 0} → Kind V → Type 0
HasOneValue k = (w : List ℕ) (v u : _) → k.means w v → k.means w u → v ≡ u

module _ {T V : Type 0} (value : T → V) (k : Kind V) (t : ℕ) (one : HasOneValue k) (old : Cursor) where
  same : (c : Class) (n : ℕ) (i : List ℕ) (v u : List ℕ × List ℕ) → SpellsElement (rules_of old) c false n i v → SpellsElement (rules_of old) c false n i u → v ≡ u
  same c n i v u a b = (element_same (rules_of old) i c c false false n n v u a b).3

  refusal_same : (e e' : Name) → ValueRefuses value k t old e → ValueRefuses value k t old e' → e ≡ e'
  refusal_same e e' (inl a) (inl b) = (element_shows_one (rules_of old) (class_wanted old.implicit) false (number_wanted old.implicit t) (octets_left old) (λ v. v)).one_refusal e e' a b
  refusal_same e e' (inl a) (inr (v, s, f)) = absurd ((element_shows_one (rules_of old) (class_wanted old.implicit) false (number_wanted old.implicit t) (octets_left old) (λ v. v)).not_refused v e s a)
  refusal_same e e' (inr (v, s, f)) (inl b) = absurd ((element_shows_one (rules_of old) (class_wanted old.implicit) false (number_wanted old.implicit t) (octets_left old) (λ v. v)).not_refused v e' s b)
  refusal_same e e' (inr (v, s, f)) (inr (u, s', g)) =
      let q = same _ _ _ v u s s' in
      first_refusal_once (k.tests v.0) e e' f (subst (λ x. IsFirstRefusal (k.tests x.0) e') (sym q) g)

  not_refused : (v : V × List ℕ) (e : Name) → SpellsValue value k t old v → ValueRefuses value k t old e → ⊥
  not_refused v e (w, n, m, s) (inl a) = (element_shows_one (rules_of old) (class_wanted old.implicit) false (number_wanted old.implicit t) (octets_left old) (λ v. v)).not_refused (w, v.1) e s a
  not_refused v e (w, n, m, s) (inr (u, s', g)) =
      let q = same _ _ _ (w, v.1) u s s' in
      none_refuses (k.tests w) e n (subst (λ x. IsFirstRefusal (k.tests x.0) e) (sym q) g)

  not_both : (e : Name) (n : ℕ) → ValueRefuses value k t old e → ElementLacks (rules_of old) (octets_left old) n → ⊥
  not_both e n (inl a) l = (element_shows_one (rules_of old) (class_wanted old.implicit) false (number_wanted old.implicit t) (octets_left old) (λ v. v)).not_both e n a l
  not_both e n (inr (v, s, f)) l = not_lacking (rules_of old) (octets_left old) _ _ _ v n s l

  value_same : (v u : V × List ℕ) → SpellsValue value k t old v → SpellsValue value k t old u → v ≡ u
  value_same v u (w, n, m, s) (w', n', m', s') =
      let q = same _ _ _ (w, v.1) (w', u.1) s s' in
      let e = one w v.0 u.0 m (subst (λ x. k.means x.0 u.0) (sym q) m') in
      ap (λ x. (x, v.1)) e ∙ ap (λ y. (u.0, y)) (ap (λ x. x.1) q)

  pub value_shows_one : ShowsOne (value_left value k t) (λ x. SpellsValue value k t old (value_left value k t x)) (SpellsValue value k t old) (ValueRefuses value k t old)
      (ElementLacks (rules_of old) (octets_left old))
  value_shows_one = record {
    spelled = λ x h. h;
    one_value = λ x v h s. value_same (value_left value k t x) v h s;
    one_refusal = refusal_same;
    one_lack = (element_shows_one (rules_of old) (class_wanted old.implicit) false (number_wanted old.implicit t) (octets_left old) (λ v. v)).one_lack;
    not_refused = not_refused;
    not_lacking = λ v n s l. not_lacking (rules_of old) (octets_left old) _ _ _ (s.0, v.1) n s.3 l;
    not_both = not_both;
  }

  at_element : (e : Name) → RefusesAt old (ElementRefuses (rules_of old) (class_wanted old.implicit) false (number_wanted old.implicit t) (octets_left old)) e → RefusesAt old (ValueRefuses value k t old) e
  at_element e (inl a) = inl (inl a)
  at_element e (inr b) = inr b

  -- where no element of the type was found
  pub value_refused : (e : ReadError BerError) → FindsPrimitive t old (Err e) → ReadsValue value k t old (Err e) old
  value_refused e f = record {
    value_read = exactly (Err e.reason) (shows_one_at old value_shows_one) (λ n l m. m) (passed_on _ _ e.reason f.0 (λ x h. at_element x h) (λ n h. h) (λ m. m));
    place = (f.1, refl);
  }

  -- where one was found
  pub value_taken : (rest octets : Bor (List ℕ)) (found : Result T BerError) (result : Result T (ReadError BerError)) (new : Cursor) → FindsPrimitive t old (Ok (rest, octets))
      → Decodes value k octets.now found → Takes old rest found result new → ReadsValue value k t old result new
  value_taken rest octets (Ok x) result new f d h = rw (h.0, h.1) (record {
    value_read = exactly (Ok (x, _)) (shows_one_at old value_shows_one) (λ n l m. m) (octets.now, d.0, d.1, f.0);
    place = refl;
  })
  value_taken rest octets (Err e) result new f d h = rw (h.0, h.1) (record {
    value_read = exactly (Err (Error e)) (shows_one_at old value_shows_one) (λ n l m. m) (inl (inr ((octets.now, rest.now), f.0, d)));
    place = (refl, refl);
  })

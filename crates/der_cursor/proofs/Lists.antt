-- Fields of one kind, that `read_all` reads.
use Rattle.std.proofs.Common.{◌≡◌, ◌≢◌, ℕ, ◌<◌, List, [], ◌∷◌, ◌++◌, length, map, None, Result, Ok, Err, Bor, refl, sym, ap, subst, ◌∙◌, arith, append-nil}
use Rattle.std.specs.Borrow.{MutBor}
use Rattle.std.specs.Global.{Vec}
use Rattle.der_base.specs.declared.error.ErrorKind.{ErrorKind}
use Rattle.der_base.specs.declared.rules.Rules.{Rules}
use Rattle.der_cursor.specs.declared.cursor.Cursor.{Cursor}
use Rattle.der_cursor.specs.declared.error.ReadError.{ReadError}
use Rattle.der_cursor.specs.Cursors.{octets_left, rules_of}
use Rattle.der_cursor.specs.Runs.{CallsAt, Calls, no_call, one_more, StopsAt, refused, stuck, no_room, ReadsAll, values_of}
use Rattle.der_cursor.specs.Formats.{Field, Each, NoMemory, ReadsNext, ReadsField, ReadsContent}

joined : {O V : Type 0} (view : O → V) (ws : List O) (v : O) (us : List V) → map view (ws ++ v ∷ []) ++ us ≡ map view ws ++ view v ∷ us
joined view [] v us = refl
joined view (w ∷ ws) v us = ap (λ y. view w ∷ y) (joined view ws v us)

-- a field takes octets
abbrev pub TakesOctets : {V : Type 0} → Field V → Type 0
TakesOctets {V} G = (r : Rules) (i : List ℕ) (v : V) (rest : List ℕ) → G r i v rest → length rest < length i

module _ {F O E V : Type 0} {step : F → MutBor Cursor → Result O (ReadError E) → MutBor Cursor → F → Type 0} (G : Field V) (view : O → V)
    (takes : TakesOctets G)
    (reads : (f g : F) (a b : MutBor Cursor) (r : Result O (ReadError E)) → step f a r b g → ReadsField G view NoMemory a.now r b.now) where
  -- a call, at the cursors where it was made
  call_reads : (f g : F) (b d : Cursor) (r : Result O (ReadError E)) → CallsAt step f b r d g → ReadsField G view NoMemory b r d
  call_reads f g b d r (x, y, s, p, q) = subst (λ k. ReadsField G view NoMemory k r d) p (subst (λ k. ReadsField G view NoMemory x.now r k) q (reads f g x y r s))

  none_more : (r : Rules) (w : List ℕ) (us : List V) → w ≡ [] → Each G r w us → us ≡ []
  unfolding Each
  none_more r w [] q z = refl
  none_more r w (t ∷ ts) q z = let h = takes r w t z.0 z.1 in absurd (omega (arith, h, ap length q))

  some_more : (r : Rules) (w : List ℕ) (us : List V) → w ≢ [] → Each G r w us → (t : V) × (rest : List ℕ) × G r w t rest
  unfolding Each
  some_more r w [] n z = absurd (n z)
  some_more r w (t ∷ ts) n z = (t, z.0, z.1)

  -- after one more is read
  item : (b d : Cursor) (v : O) → ReadsNext G view (NoMemory {E = E}) b (Ok v) d → rules_of d ≡ rules_of b → octets_left b ≢ [] → (ts : List V) → Each G (rules_of b) (octets_left b) ts
      → (ws : List V) × Each G (rules_of d) (octets_left d) ws × (ts ≡ view v ∷ ws)
  unfolding Each
  item b d v r same n [] z = absurd (n z)
  item b d v r same n (t ∷ ts) z =
      let q = r.only t z.0 z.1 in
      (ts, subst (λ k. Each G k (octets_left d) ts) (sym same) (subst (λ w. Each G (rules_of b) w ts) (sym q.1) z.2), ap (λ y. y ∷ ts) (sym q.0))

  -- what was read so far, and the values that are left
  record SoFar (c d : Cursor) (vs : List O) : Type 0 where
    fresh : d.implicit ≡ None
    back : (us : List V) → Each G (rules_of d) (octets_left d) us → Each G (rules_of c) (octets_left c) (map view vs ++ us)
    only : (us : List V) → Each G (rules_of c) (octets_left c) us → (ws : List V) × Each G (rules_of d) (octets_left d) ws × (us ≡ map view vs ++ ws)

  so_far : (f : F) (c : Cursor) (g : F) (d : Cursor) (vs : List O) → c.implicit ≡ None → Calls step f c vs g d → SoFar c d vs
  unfolding Each
  so_far f c g d vs fresh no_call = record { fresh = fresh; back = λ us h. h; only = λ us h. (us, h, refl) }
  so_far f c g d vs fresh (one_more {m = m} {vs = ws} {b = b} {v = v} l n h k) =
      let s = so_far f c m b ws fresh l in
      let r = call_reads m g b d (Ok v) h s.fresh in
      let same : rules_of d ≡ rules_of b = ap rules_of r.found.1 in record {
        fresh = ap (λ y. y.implicit) r.found.1;
        back = λ us z. subst (λ y. Each G (rules_of c) (octets_left c) y) (sym (joined view ws v us))
            (s.back (view v ∷ us) (octets_left d, r.found.0, subst (λ k. Each G k (octets_left d) us) same z));
        only = λ us z.
            let y = s.only us z in
            let x = item b d v r same n y.0 y.1 in
            (x.0, x.1, y.2 ∙ ap (λ t. map view ws ++ t) x.2 ∙ sym (joined view ws v x.0));
      }

  -- where the run ends without the values
  stopped : (gives : Bor (List ℕ) → ErrorKind → E → Type 0) (f m : F) (c b : Cursor) (vs : List O) (e : ReadError E) → SoFar c b vs → octets_left b ≢ [] → StopsAt step gives m b e → (us : List V) → Each G (rules_of c) (octets_left c) us → NoMemory e
  stopped gives f m c b vs e s n (refused {g = g} {d = d} h) us z =
      let y = s.only us z in
      let t = some_more _ _ y.0 n y.1 in
      (call_reads m g b d (Err e) h s.fresh).only t.0 t.1 t.2
  stopped gives f m c b vs e s n (stuck {g = g} {d = d} {v = v} h k x) us z =
      let y = s.only us z in
      let t = some_more _ _ y.0 n y.1 in
      let q = (call_reads m g b d (Ok v) h s.fresh).only t.0 t.1 t.2 in
      let less = takes _ _ t.0 t.1 t.2 in
      absurd (omega (arith, less, k, ap length q.1))
  stopped gives f m c b vs e s n (no_room h) us z = refl

  pub all_read : (gives : Bor (List ℕ) → ErrorKind → E → Type 0) (f : F) (c : Cursor) (result : Result (Vec O) (ReadError E)) → ReadsAll step gives f c (values_of result) → ReadsContent (Each G) (λ v. map view v.items) NoMemory c result
  unfolding Each
  all_read gives f c (Ok vs) (g, d, l, q) fresh = let s = so_far f c g d vs.items fresh l in record {
    found = subst (λ y. Each G (rules_of c) (octets_left c) y) (append-nil (map view vs.items)) (s.back [] q);
    only = λ us z.
        let y = s.only us z in
        sym (y.2 ∙ ap (λ t. map view vs.items ++ t) (none_more _ _ y.0 q y.1) ∙ append-nil (map view vs.items));
  }
  all_read gives f c (Err e) (vs, m, b, l, n, stop) fresh = record { found = tt; only = λ us z. stopped gives f m c b vs e (so_far f c m b vs fresh l) n stop us z }

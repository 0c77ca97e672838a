-- What a list parser of DER answers, where its parser answers what an item is.
use Rattle.std.proofs.Common.{◌≡◌, ◌≢◌, ℕ, ◌-◌, List, [], ◌∷◌, ◌++◌, length, take, map, Result, Ok, Err, Bor, IfOk, MatchResult, refl, sym, ap, subst, ◌∙◌, arith, append_assoc, append-nil, length-append}
use Rattle.std.specs.List.{concat}
use Rattle.std.specs.Global.{Vec}
use Rattle.der_parser.specs.declared.error.Err.{Err as Refused}
use Rattle.der_parser.specs.declared.error.Err.TheVariants.{Incomplete, Error, Failure, OutOfMemory}
use Rattle.der_parser.specs.declared.error.Error.{Error as BerError}
use Rattle.der_parser.specs.declared.error.ErrorKind.{ErrorKind}
use Rattle.der_parser.specs.Containers.{Answered}
use Rattle.der_parser.specs.ListSteps.{Calls, no_call, one_more, LastCall, at_end, left_over, refused, failed, out_of_memory, stuck, no_room, ListSteps, items_of, taken}
use Rattle.der_parser.specs.SetOfOrder.{Descends, IsAscending, OrderedSteps, in_order, out_of_order}
use Rattle.der_uses.specs.Names.Inner.{AnswersItem, AnswersWhole}
use Rattle.der_uses.specs.Names.Names.{Joins, JoinsInOrder, SpellEach}

pub nil_or_more : (w : List ℕ) → length w ≡ 0 → w ≡ []
nil_or_more [] e = refl
nil_or_more (x ∷ w) e = absurd (omega (arith, e))

take_front : (b r : List ℕ) → take (length b) (b ++ r) ≡ b
take_front [] r = refl
take_front (x ∷ b) r = ap (λ w. x ∷ w) (take_front b r)

-- the front of what a call leaves the rest of
taken_front : (j b r : List ℕ) → j ≡ b ++ r → taken j r ≡ b
taken_front j b r e =
    let n : length j - length r ≡ length b = omega (arith, ap length e, length-append b r) in
    ap (λ k. take k j) n ∙ ap (λ x. take (length b) x) e ∙ take_front b r

concat_snoc : (ss : List (List ℕ)) (t : List ℕ) → concat (ss ++ t ∷ []) ≡ concat ss ++ t
concat_snoc [] t = append-nil t
concat_snoc (s ∷ ss) t = ap (λ w. s ++ w) (concat_snoc ss t) ∙ sym (append_assoc s (concat ss) t)

map_snoc : {T V : Type 0} (view : T → V) (vs : List T) (v : T) → map view (vs ++ v ∷ []) ≡ map view vs ++ view v ∷ []
map_snoc view [] v = refl
map_snoc view (u ∷ vs) v = ap (λ l. view u ∷ l) (map_snoc view vs v)

each_snoc : {V : Type 0} (P : List ℕ → V → Type 0) (ss : List (List ℕ)) (vs : List V) (s : List ℕ) (v : V) → SpellEach P ss vs → P s v → SpellEach P (ss ++ s ∷ []) (vs ++ v ∷ [])
each_snoc P [] [] s v e h = (h, tt)
each_snoc P [] (u ∷ vs) s v e h = absurd e
each_snoc P (t ∷ ss) [] s v e h = absurd e
each_snoc P (t ∷ ss) (u ∷ vs) s v e h = (e.0, each_snoc P ss vs s v e.1 h)

-- neighbours do not descend, wherever they stand
ascending_at : (front : List (List ℕ)) (s t : List ℕ) (back : List (List ℕ)) → IsAscending (front ++ s ∷ [] ++ t ∷ back) → ¬ Descends s t
ascending_at [] s t back a = a.0
ascending_at (u ∷ []) s t back a = a.1.0
ascending_at (u ∷ v ∷ front) s t back a = ascending_at (v ∷ front) s t back a.1

ascending_behind : (ts ss back : List (List ℕ)) (t : List ℕ) → IsAscending ts → ts ≡ ss ++ t ∷ [] ++ back → (front : List (List ℕ)) (s : List ℕ) → ss ≡ front ++ s ∷ [] → ¬ Descends s t
ascending_behind ts ss back t a e front s q =
    ascending_at front s t back (subst IsAscending (e ∙ ap (λ x. x ++ t ∷ [] ++ back) q ∙ append_assoc (front ++ s ∷ []) (t ∷ []) back) a)

module _ {F T V : Type 0} {step : F → Bor (List ℕ) → Answered T BerError → F → Type 0} {Spells : List ℕ → V → Type 0} {view : T → V}
    (answers : (f g : F) (p : Bor (List ℕ)) (r : Answered T BerError) → step f p r g → AnswersItem Spells view p.now r)
    (some : (b : List ℕ) (v : V) → Spells b v → b ≢ []) where
  -- each call took the octets of a value
  calls_found : {f : F} {w : List ℕ} {g : F} {j : List ℕ} {vs : List T} {ss : List (List ℕ)} → Calls step f w vs ss g j → (w ≡ concat ss ++ j) × SpellEach Spells ss (map view vs)
  calls_found no_call = (refl, tt)
  calls_found (one_more {m = m} {g = g} {vs = vs} {ss = ss} {j = j} {p = p} {r = r} {v = v} c s q l) =
      let (e, each) = calls_found c in
      let (b, joined, spelled) = (answers m g p (Ok (r, v)) s).spelled.found in
      let k : j ≡ b ++ r.now = sym q ∙ joined in
      let t : taken j r.now ≡ b = taken_front j b r.now k in (
        rw (t, concat_snoc ss b) (e ∙ ap (λ x. concat ss ++ x) k ∙ sym (append_assoc (concat ss) b r.now)),
        rw (t, map_snoc view vs v) (each_snoc Spells ss (map view vs) b (view v) each spelled),
      )

  -- where values are spelled, those of the calls are the first of them
  record Reached (ts : List (List ℕ)) (us : List V) (ss : List (List ℕ)) (vs : List T) (j : List ℕ) : Type 0 where
    back : List (List ℕ)
    others : List V
    spellings : ts ≡ ss ++ back
    values : us ≡ map view vs ++ others
    left : j ≡ concat back
    each : SpellEach Spells back others

  reached_more : {m g : F} {ts : List (List ℕ)} {us : List V} {j : List ℕ} {p r : Bor (List ℕ)} {v : T} (ss : List (List ℕ)) (vs : List T) (back : List (List ℕ)) (others : List V)
      → ts ≡ ss ++ back → us ≡ map view vs ++ others → j ≡ concat back → SpellEach Spells back others
      → step m p (Ok (r, v)) g → p.now ≡ j → Reached ts us (ss ++ taken j r.now ∷ []) (vs ++ v ∷ []) r.now
  reached_more {m = m} {g = g} {p = p} {r = r} {v = v} ss vs [] [] a b k each s q = absurd ((answers m g p (Ok (r, v)) s).at_end (q ∙ k))
  reached_more ss vs [] (u ∷ others) a b k each s q = absurd each
  reached_more ss vs (t ∷ back) [] a b k each s q = absurd each
  reached_more {m = m} {g = g} {ts = ts} {us = us} {j = j} {p = p} {r = r} {v = v} ss vs (t ∷ back) (u ∷ others) a b k each s q =
      let (same, rest) = (answers m g p (Ok (r, v)) s).spelled.only u (concat back) (t, q ∙ k, each.0) in
      let front : taken j r.now ≡ t = taken_front j t r.now (k ∙ ap (λ x. t ++ x) (sym rest)) in
      record {
        back = back;
        others = others;
        spellings = rw front (a ∙ sym (append_assoc ss (t ∷ []) back));
        values = rw (map_snoc view vs v, same) (b ∙ sym (append_assoc (map view vs) (u ∷ []) others));
        left = rest;
        each = each.1;
      }

  reached : {f : F} {w : List ℕ} {g : F} {j : List ℕ} {vs : List T} {ss : List (List ℕ)} (ts : List (List ℕ)) (us : List V) → Calls step f w vs ss g j → w ≡ concat ts → SpellEach Spells ts us → Reached ts us ss vs j
  reached ts us no_call e each = record { back = ts; others = us; spellings = refl; values = refl; left = e; each = each }
  reached ts us (one_more {vs = vs} {ss = ss} c s q l) e each =
      let n = reached ts us c e each in
      reached_more ss vs n.back n.others n.spellings n.values n.left n.each s q

  module _ {from_error_kind_gives : Bor (List ℕ) → ErrorKind → BerError → Type 0} where
    -- the last call ends the list behind the last value, but for memory
    last_only : {m g : F} {j : List ℕ} {vs : List T} {r : Result (List T) (Refused BerError)} (back : List (List ℕ)) (others : List V) → j ≡ concat back → SpellEach Spells back others
        → LastCall step from_error_kind_gives m j vs r g → MatchResult r (λ x. map view x ≡ map view vs ++ others) (λ e. e ≡ OutOfMemory)
    last_only [] (u ∷ others) k each c = absurd each
    last_only (t ∷ back) [] k each c = absurd each
    last_only {vs = vs} [] [] k each (at_end s q l) = sym (append-nil (map view vs))
    last_only [] [] k each (left_over s q l h) = absurd (omega (arith, l, ap length k))
    last_only {m = m} {g = g} [] [] k each (refused {p = p} {e = e} s q) = absurd ((answers m g p (Err (Error e)) s).at_end (q ∙ k))
    last_only {m = m} {g = g} [] [] k each (failed {p = p} {e = e} s q) = absurd ((answers m g p (Err (Failure e)) s).at_end (q ∙ k))
    last_only [] [] k each (out_of_memory s q) = refl
    last_only {m = m} {g = g} [] [] k each (stuck {p = p} {r = r} {v = v} s q l h) = absurd ((answers m g p (Ok (r, v)) s).at_end (q ∙ k))
    last_only [] [] k each (no_room s q l) = refl
    last_only {m = m} {g = g} (t ∷ back) (u ∷ others) k each (at_end {p = p} {n = n} s q l) = let e = (answers m g p (Err (Incomplete n)) s).spelled.only u (concat back) (t, q ∙ k, each.0) in cc
    last_only {m = m} {g = g} (t ∷ back) (u ∷ others) k each (left_over {p = p} {n = n} s q l h) = let e = (answers m g p (Err (Incomplete n)) s).spelled.only u (concat back) (t, q ∙ k, each.0) in cc
    last_only {m = m} {g = g} (t ∷ back) (u ∷ others) k each (refused {p = p} {e = x} s q) = let e = (answers m g p (Err (Error x)) s).spelled.only u (concat back) (t, q ∙ k, each.0) in cc
    last_only {m = m} {g = g} (t ∷ back) (u ∷ others) k each (failed {p = p} {e = x} s q) = (answers m g p (Err (Failure x)) s).spelled.only u (concat back) (t, q ∙ k, each.0)
    last_only (t ∷ back) (u ∷ others) k each (out_of_memory s q) = refl
    last_only {m = m} {g = g} (t ∷ back) (u ∷ others) k each (stuck {p = p} {r = r} {v = v} s q l h) =
        let (same, rest) = (answers m g p (Ok (r, v)) s).spelled.only u (concat back) (t, q ∙ k, each.0) in
        let e : length t ≡ 0 = omega (arith, l, ap length k, length-append t (concat back), ap length rest) in
        absurd (some t u each.0 (nil_or_more t e))
    last_only (t ∷ back) (u ∷ others) k each (no_room s q l) = refl

    ended : {f g m : F} {w j : List ℕ} {vs us : List T} {ss : List (List ℕ)} → Calls step f w vs ss m j → LastCall step from_error_kind_gives m j vs (Ok us) g
        → (w ≡ concat ss) × SpellEach Spells ss (map view us)
    ended {j = j} {ss = ss} c (at_end s q l) =
        let (e, each) = calls_found c in
        (e ∙ ap (λ x. concat ss ++ x) (nil_or_more j l) ∙ append-nil (concat ss), each)

    only_ended : {f g m : F} {w j : List ℕ} {vs : List T} {r : Result (List T) (Refused BerError)} {ss : List (List ℕ)} (ts : List (List ℕ)) (us : List V)
        → w ≡ concat ts → SpellEach Spells ts us → Calls step f w vs ss m j → LastCall step from_error_kind_gives m j vs r g
        → MatchResult r (λ x. map view x ≡ us) (λ e. e ≡ OutOfMemory)
    only_ended ts us e each c l =
        let n = reached ts us c e each in
        rw n.values (last_only n.back n.others n.left n.each l)

    list_found : {f g : F} (w : List ℕ) (r : Answered (Vec T) BerError) → ListSteps step from_error_kind_gives w f (items_of r) g → IfOk r (λ x. Joins Spells w (map view x.1.items))
    list_found w (Ok x) s = let (e, each) = ended s.calls s.last in (s.spellings, e, each)
    list_found w (Err e) s = tt

    list_only : {f g : F} (w : List ℕ) (r : Answered (Vec T) BerError) → ListSteps step from_error_kind_gives w f (items_of r) g
        → (us : List V) → Joins Spells w us → MatchResult r (λ x. map view x.1.items ≡ us) (λ e. e ≡ OutOfMemory)
    list_only w (Ok x) s us (ts, e, each) = only_ended ts us e each s.calls s.last
    list_only w (Err x) s us (ts, e, each) = only_ended ts us e each s.calls s.last

    module _ {from_gives : BerError → BerError → Type 0} where
      set_found : {f g : F} (w : List ℕ) (r : Answered (Vec T) BerError) → OrderedSteps from_error_kind_gives from_gives step w f (items_of r) g
          → IfOk r (λ x. JoinsInOrder Spells w (map view x.1.items))
      set_found w (Ok x) (in_order {ss = ss} c (at_end s q l) a) = let (e, each) = ended c (at_end s q l) in (ss, e, each, subst IsAscending (append-nil ss) a)
      set_found w (Err e) s = tt

      set_only : {f g : F} (w : List ℕ) (r : Answered (Vec T) BerError) → OrderedSteps from_error_kind_gives from_gives step w f (items_of r) g
          → (us : List V) → JoinsInOrder Spells w us → MatchResult r (λ x. map view x.1.items ≡ us) (λ e. e ≡ OutOfMemory)
      set_only w (Ok x) (in_order c l a) us (ts, e, each, b) = only_ended ts us e each c l
      set_only w (Err x) (in_order c l a) us (ts, e, each, b) = only_ended ts us e each c l
      set_only w (Err x) (out_of_order {vs = vs} {ss = ss} {j = j} {r = r} c a s q l d k h) us (ts, e, each, b) =
          let n = reached ts us c e each in
          let more = reached_more ss vs n.back n.others n.spellings n.values n.left n.each s q in
          absurd (ascending_behind ts ss more.back (taken j r.now) b more.spellings d.0 d.1 d.2 d.3)

module _ {F T V : Type 0} {step : F → Bor (List ℕ) → Answered T BerError → F → Type 0} {Spells : List ℕ → V → Type 0} {view : T → V}
    {from_error_kind_gives : Bor (List ℕ) → ErrorKind → BerError → Type 0} where
  -- a list parser answers what joins the values
  pub list_whole : {f g : F} (w : List ℕ) (r : Answered (Vec T) BerError) → ListSteps step from_error_kind_gives w f (items_of r) g
      → ((f g : F) (p : Bor (List ℕ)) (r : Answered T BerError) → step f p r g → AnswersItem Spells view p.now r)
      → ((b : List ℕ) (v : V) → Spells b v → b ≢ []) → AnswersWhole (Joins Spells) (λ v. map view v.items) w r
  list_whole w r s answers some = record { found = list_found answers some w r s; only = list_only answers some w r s }

  -- and so does a parser of a SET OF, where their octets do not descend
  pub set_whole : {from_gives : BerError → BerError → Type 0} {f g : F} (w : List ℕ) (r : Answered (Vec T) BerError) → OrderedSteps from_error_kind_gives from_gives step w f (items_of r) g
      → ((f g : F) (p : Bor (List ℕ)) (r : Answered T BerError) → step f p r g → AnswersItem Spells view p.now r)
      → ((b : List ℕ) (v : V) → Spells b v → b ≢ []) → AnswersWhole (JoinsInOrder Spells) (λ v. map view v.items) w r
  set_whole w r s answers some = record { found = set_found answers some w r s; only = set_only answers some w r s }

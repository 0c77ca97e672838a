-- What a result makes of a list, it makes of the calls so far where it is that of one call more.
use Rattle.std.proofs.Common.{◌≡◌, ℕ, ◌<◌, ◌⊎◌, Option, Some, None, List, [], ◌∷◌, ◌++◌, length, Result, Ok, Err, Bor, refl, sym, subst, append-nil, inl, inr}
use Rattle.der_base.specs.declared.error.Err.{Err as Refused}
use Rattle.der_base.specs.declared.error.Error.{Error as BerError}
use Rattle.der_base.specs.declared.error.ErrorKind.{ErrorKind}
use Rattle.der_base.specs.declared.rules.Rules.{Rules}
use Rattle.der_base.specs.declared.rules.Rules.TheVariants.{Ber, Der}
use Rattle.der_base.specs.Containers.{Answered}
use Rattle.der_base.specs.Inner.Taken.{Gave, Takes, one_more, ended, refused as refused_item}
use Rattle.der_base.specs.ListSteps.{Calls, one_more as one_call_more, LastCall, at_end as list_at_end, left_over, refused, failed, out_of_memory, stuck, no_room, taken}
use Rattle.der_base.specs.SetOfOrder.{Descends, DescendsAtEnd, IsAscending, OrderedSteps, in_order as steps_in_order, out_of_order as steps_out_of_order}
use Rattle.der_values.proofs.LawsLaws.Containers.SetOfOrders.{descends_greater}
use Rattle.der_values.proofs.LawsLaws.Containers.TakenLaws.{taken_on, taken_end, taken_refused}
use Rattle.der_combinators.specs.declared.list_type.ListType.{ListType}
use Rattle.der_combinators.specs.declared.list_type.ListType.TheVariants.{Sequence, Set}
use Rattle.der_combinators.specs.Lists.{ItemSteps}
use Rattle.der_combinators.specs.Inner.InOrder.{IsInOrder, TakesInOrder, in_order, out_of_order, order_refused, octets_compared}

-- s is the last of the lists ss, or empty where there is none
abbrev pub EndsIn : List (List ℕ) → List ℕ → Type 0
EndsIn ss s = ((ss ≡ []) × (s ≡ [])) ⊎ ((front : List (List ℕ)) × (ss ≡ front ++ s ∷ []))

-- one more that does not descend
ascending_on : (front : List (List ℕ)) (s t : List ℕ) → IsAscending (front ++ s ∷ []) → ¬ Descends s t → IsAscending (front ++ s ∷ [] ++ t ∷ [])
ascending_on [] s t a n = (n, tt)
ascending_on (u ∷ []) s t a n = (a.0, (n, tt))
ascending_on (u ∷ v ∷ front) s t a n = (a.0, ascending_on (v ∷ front) s t a.1 n)

grown : (ss : List (List ℕ)) (s t : List ℕ) → EndsIn ss s → IsAscending ss → ¬ Descends s t → IsAscending (ss ++ t ∷ [])
grown ss s t (inl (e, _)) a n = rw e tt
grown ss s t (inr (front, e)) a n = rw e (ascending_on front s t (subst IsAscending e a) n)

nothing_descends : (before t : List ℕ) → before ≡ [] → ¬ Descends before t
nothing_descends before t e d = absurd (descends_greater [] t (subst (λ x. Descends x t) e d))

at_end : (ss : List (List ℕ)) (s t : List ℕ) → EndsIn ss s → Descends s t → DescendsAtEnd ss t
at_end ss s t (inl (_, e)) d = absurd (nothing_descends s t e d)
at_end ss s t (inr (front, e)) d = (front, s, e, d)

nothing_more : (ss : List (List ℕ)) → IsAscending ss → IsAscending (ss ++ [])
nothing_more ss a = rw (append-nil ss) a

call : {F O E : Type 0} (step : F → Bor (List ℕ) → Answered O E → F → Type 0) {m g : F} {p q : Bor (List ℕ)} {a r : Answered O E}
    → step m p a g → Gave p a tt q r tt → step m q r g
call step s (e, e') = rw (e, e') s

module _ {F O E : Type 0} (step : F → Bor (List ℕ) → Answered O E → F → Type 0) {m g : F} {p : Bor (List ℕ)} {a : Answered O E} (s : step m p a g)
    {from_error_kind_gives : Bor (List ℕ) → ErrorKind → E → Type 0} {from_gives : BerError → E → Type 0} {j : List ℕ} {vs : List O}
    {w : List ℕ} {f : F} {ss : List (List ℕ)} {before : List ℕ} (calls : Calls step f w vs ss m j) (ascends : IsAscending ss) (ends : EndsIn ss before) (i : p.now ≡ j) where
  -- the list goes on
  in_order_on : {us : List O} {r : Bor (List ℕ)} → TakesInOrder from_error_kind_gives from_gives before p a vs (Ok (Some r)) us
      → (length r.now < length j) × (ss' : List (List ℕ)) × Calls step f w us ss' g r.now × IsAscending ss' × EndsIn ss' (taken j r.now)
  in_order_on {r = r} (in_order n (one_more {v = v} e l)) =
      let l' : length r.now < length j = rw (← i) l in
      let n' : ¬ Descends before (taken j r.now) = rw (← i) (subst (IsInOrder before p) e n l) in
      (l', ss ++ taken j r.now ∷ [], one_call_more {p = p} {r = r} {v = v} calls (rw (← e) s) i l', grown ss before (taken j r.now) ends ascends n', inr (ss, refl))

  -- it ends, and where a value was read, it does not descend
  last_in_order : {x : Result (List O) (Refused E)} → IsInOrder before p a → LastCall (Gave p a) from_error_kind_gives tt j vs x tt
      → OrderedSteps from_error_kind_gives from_gives step w f x g
  last_in_order n (list_at_end c q l) = steps_in_order calls (list_at_end (call step s c) q l) (nothing_more ss ascends)
  last_in_order n (left_over c q l k) = steps_in_order calls (left_over (call step s c) q l k) (nothing_more ss ascends)
  last_in_order n (refused c q) = steps_in_order calls (refused (call step s c) q) (nothing_more ss ascends)
  last_in_order n (failed c q) = steps_in_order calls (failed (call step s c) q) (nothing_more ss ascends)
  last_in_order n (out_of_memory c q) = steps_in_order calls (out_of_memory (call step s c) q) (nothing_more ss ascends)
  last_in_order n (stuck c q l k) = steps_in_order calls (stuck (call step s c) q l k) (nothing_more ss ascends)
  last_in_order n (no_room {r = r} c q l) =
      let l' : length r.now < length p.now = rw i l in
      let n' : ¬ Descends before (taken j r.now) = rw (← i) (subst (IsInOrder before p) (sym c.1) n l') in
      steps_in_order calls (no_room (call step s c) q l) (grown ss before (taken j r.now) ends ascends n')

  in_order_end : {us : List O} → TakesInOrder from_error_kind_gives from_gives before p a vs (Ok None) us → OrderedSteps from_error_kind_gives from_gives step w f (Ok us) g
  in_order_end (in_order n (ended l)) = last_in_order n (rw (← i) l)

  in_order_refused : {us : List O} {e : Refused E} → TakesInOrder from_error_kind_gives from_gives before p a vs (Err e) us → OrderedSteps from_error_kind_gives from_gives step w f (Err e) g
  in_order_refused (in_order n (refused_item l)) = last_in_order n (rw (← i) l)
  in_order_refused (out_of_order {r = r} {v = v} q l d (order_refused k h)) =
      steps_out_of_order {p = p} {r = r} {v = v} calls ascends (rw (← q) s) i (rw (← i) l) (at_end ss before (taken j r.now) ends (rw (← i) d)) k h

-- what the next item is compared with, after calls that took ss: the last of them where they ascend, and else nothing
abbrev pub IsCompared : Rules → ListType → List (List ℕ) → List ℕ → Type 0
IsCompared Ber list ss before = before ≡ []
IsCompared Der Sequence ss before = before ≡ []
IsCompared Der Set ss before = IsAscending ss × EndsIn ss before

pub compared_first : (rules : Rules) (list : ListType) → IsCompared rules list [] []
compared_first Ber list = refl
compared_first Der Sequence = refl
compared_first Der Set = (tt, inl (refl, refl))

module _ {F O E : Type 0} (step : F → Bor (List ℕ) → Answered O E → F → Type 0) {m g : F} {p : Bor (List ℕ)} {a : Answered O E} (s : step m p a g)
    {from_error_kind_gives : Bor (List ℕ) → ErrorKind → E → Type 0} {from_gives : BerError → E → Type 0} {j : List ℕ} {vs : List O}
    {w : List ℕ} {f : F} {ss : List (List ℕ)} {before : List ℕ} (calls : Calls step f w vs ss m j) (i : p.now ≡ j) where
  in_any_order : {x : Result (Option (Bor (List ℕ))) (Refused E)} {us : List O} → before ≡ [] → TakesInOrder from_error_kind_gives from_gives before p a vs x us
      → Takes from_error_kind_gives p a vs x us
  in_any_order e (in_order n t) = t
  in_any_order e (out_of_order {r = r} q l d k) = absurd (nothing_descends before (taken p.now r.now) e d)

  any_on : {us : List O} {r : Bor (List ℕ)} → before ≡ [] → TakesInOrder from_error_kind_gives from_gives before p a vs (Ok (Some r)) us
      → (length r.now < length j) × (ss' : List (List ℕ)) × Calls step f w us ss' g r.now
  any_on e t = let n = taken_on step s calls i (in_any_order e t) in (n.2, n.0, n.1)

  -- the list goes on
  pub item_on : (rules : Rules) (list : ListType) → IsCompared rules list ss before → {us : List O} {r : Bor (List ℕ)}
      → TakesInOrder from_error_kind_gives from_gives before p a vs (Ok (Some r)) us
      → (length r.now < length j) × (ss' : List (List ℕ)) × Calls step f w us ss' g r.now × IsCompared rules list ss' (octets_compared rules list (taken j r.now))
  item_on Ber list k t = let n = any_on k t in (n.0, n.1, n.2, refl)
  item_on Der Sequence k t = let n = any_on k t in (n.0, n.1, n.2, refl)
  item_on Der Set k t = let n = in_order_on step s calls k.0 k.1 i t in (n.0, n.1, n.2, (n.3, n.4))

  -- it ends
  pub item_end : (rules : Rules) (list : ListType) → IsCompared rules list ss before → {us : List O}
      → TakesInOrder from_error_kind_gives from_gives before p a vs (Ok None) us → ItemSteps rules list from_error_kind_gives from_gives step w f (Ok us) g
  item_end Ber list k t = taken_end step s calls i (in_any_order k t)
  item_end Der Sequence k t = taken_end step s calls i (in_any_order k t)
  item_end Der Set k t = in_order_end step s calls k.0 k.1 i t

  pub item_refused : (rules : Rules) (list : ListType) → IsCompared rules list ss before → {us : List O} {e : Refused E}
      → TakesInOrder from_error_kind_gives from_gives before p a vs (Err e) us → ItemSteps rules list from_error_kind_gives from_gives step w f (Err e) g
  item_refused Ber list k t = taken_refused step s calls i (in_any_order k t)
  item_refused Der Sequence k t = taken_refused step s calls i (in_any_order k t)
  item_refused Der Set k t = in_order_refused step s calls k.0 k.1 i t

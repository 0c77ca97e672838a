-- What an answer makes of a list, it makes of the calls so far where it is that of one call more.
use Rattle.std.proofs.Common.{◌≡◌, ℕ, ◌<◌, Some, None, List, length, Result, Ok, Err, Bor, refl}
use Rattle.der_base.specs.declared.error.Err.{Err as Refused}
use Rattle.der_base.specs.declared.error.ErrorKind.{ErrorKind}
use Rattle.der_base.specs.Containers.{Answered}
use Rattle.der_base.specs.ListSteps.{Calls, LastCall, ListSteps, at_end, left_over, refused, failed, out_of_memory, stuck, no_room}
use Rattle.der_base.specs.Inner.Taken.{Gave, Takes, one_more, ended, refused as refused_item}
use Rattle.der_values.proofs.LawsLaws.Containers.ListStepsLaws.{gone_on}
use Rattle.der_values.proofs.LawsLaws.Containers.ListStepsLaws.{ended as ended_list}

module _ {F O E : Type 0} (step : F → Bor (List ℕ) → Answered O E → F → Type 0) {m g : F} {p : Bor (List ℕ)} {a : Answered O E} (s : step m p a g) where
  call : {q : Bor (List ℕ)} {r : Answered O E} → Gave p a tt q r tt → step m q r g
  call (e, e') = rw (e, e') s

  module _ {from_error_kind_gives : Bor (List ℕ) → ErrorKind → E → Type 0} {j : List ℕ} {vs : List O} where
    pub last_of : {x : Result (List O) (Refused E)} → LastCall (Gave p a) from_error_kind_gives tt j vs x tt → LastCall step from_error_kind_gives m j vs x g
    last_of (at_end c q l) = at_end (call c) q l
    last_of (left_over c q l k) = left_over (call c) q l k
    last_of (refused c q) = refused (call c) q
    last_of (failed c q) = failed (call c) q
    last_of (out_of_memory c q) = out_of_memory (call c) q
    last_of (stuck c q l k) = stuck (call c) q l k
    last_of (no_room c q l) = no_room (call c) q l

    module _ {w : List ℕ} {f : F} {ss : List (List ℕ)} (calls : Calls step f w vs ss m j) (i : p.now ≡ j) where
      -- the list goes on
      pub taken_on : {us : List O} {r : Bor (List ℕ)} → Takes from_error_kind_gives p a vs (Ok (Some r)) us
          → (ss' : List (List ℕ)) × Calls step f w us ss' g r.now × (length r.now < length j)
      taken_on {r = r} (one_more {v = v} e l) =
          let n = gone_on {p = p} {r = r} {v = v} calls (rw (← e) s) i (rw (← i) l) refl in
          (n.0, n.1, rw (← i) l)

      -- it ends
      pub taken_end : {us : List O} → Takes from_error_kind_gives p a vs (Ok None) us → ListSteps step from_error_kind_gives w f (Ok us) g
      taken_end (ended l) = ended_list calls (last_of (rw (← i) l))

      pub taken_refused : {us : List O} {e : Refused E} → Takes from_error_kind_gives p a vs (Err e) us → ListSteps step from_error_kind_gives w f (Err e) g
      taken_refused (refused_item l) = ended_list calls (last_of (rw (← i) l))

-- One run of octets sent after another.
use Rattle.std.proofs.Common.{◌≡◌, ℕ, ◌+◌, ◌≤◌, List, ◌++◌, length, take, Option, Result, Ok, Err, ap, ◌∙◌, arith, length-append}
use Rattle.std.proofs.Math.Seq.{take-append-add}
use Rattle.std.proofs.KnownBytes.{Appends-trans}
use Rattle.std.proofs.lemmas.List.{take-append-le}
use Rattle.std.proofs.lemmas.Result.{err_from_is_err_and}
use Rattle.std.specs.Result.{IsErrAnd}
use Rattle.std.specs.Io.KnownBytes.{Appends}
use Rattle.der_object.specs.Writing.{WroteFront, Wrote}
use Rattle.der_base.specs.Count.{one_more}
use Rattle.der_object.specs.declared.writer.FaultWriter.{FaultWriter}
use Rattle.der_base.specs.declared.error.GenError.{GenError}

-- a front of the first run is a front of both
pub front_of_first : {a b : Option (List ℕ)} {xs : List ℕ} (ys : List ℕ) → WroteFront a b xs → WroteFront a b (xs ++ ys)
front_of_first {xs = xs} ys f = record {
  count = f.count;
  short = omega (arith, f.short, length-append xs ys);
  front = let h : f.count ≤ length xs = omega (arith, f.short) in rw (take-append-le f.count xs ys) f.front;
}

-- all of the first run, and a front of the second
pub front_of_second : {b c : Option (List ℕ)} {ys : List ℕ} (a : Option (List ℕ)) (xs : List ℕ) → Appends a b xs → WroteFront b c ys → WroteFront a c (xs ++ ys)
front_of_second {b} {c} {ys} a xs all f = record {
  count = length xs + f.count;
  short = omega (arith, f.short, length-append xs ys);
  front = rw (take-append-add xs ys f.count) (Appends-trans a b c xs (take f.count ys) all f.front);
}

-- a call that goes well, and then another
pub wrote_then : {W : Type 0} {contents : W → Option (List ℕ)} {a b c : FaultWriter W} {v : Unit {0}} {r : Result (Unit {0}) GenError} {xs ys : List ℕ}
    → Wrote contents a b (Ok v) xs → Wrote contents b c r ys → Wrote contents a c r (xs ++ ys)
wrote_then {r = Ok u} h k = record {
  all = Appends-trans _ _ _ _ _ h.all k.all;
  clean = k.clean ∙ h.clean;
  front = k.front;
  fault = k.fault;
  io = k.io;
}
wrote_then {r = Err e} h k = record {
  all = k.all;
  clean = k.clean;
  front = front_of_second _ _ h.all k.front;
  fault = k.fault ∙ ap one_more h.clean;
  io = k.io;
}

-- a call that fails, so that the next is not made
pub wrote_stop : {W : Type 0} {contents : W → Option (List ℕ)} {a b : FaultWriter W} {e : GenError} {xs : List ℕ} (ys : List ℕ)
    → Wrote contents a b (Err e) xs → Wrote contents a b (Err e) (xs ++ ys)
wrote_stop ys h = record {
  all = h.all;
  clean = h.clean;
  front = front_of_first ys h.front;
  fault = h.fault;
  io = h.io;
}

-- the exit of a `?`
pub wrote_exit : {W : Type 0} {contents : W → Option (List ℕ)} {a b : FaultWriter W} {e : GenError} {xs : List ℕ} (r : Result (Unit {0}) GenError)
    → IsErrAnd r (λ y. y ≡ e) → Wrote contents a b (Err e) xs → Wrote contents a b r xs
wrote_exit r q h = let p = err_from_is_err_and r q in rw (p.1, p.2) h

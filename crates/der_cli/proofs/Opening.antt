-- Files that are read and decoded, and what is done with them.
use Rattle.std.proofs.Common.{◌≡◌, ◌≢◌, ◌⊎◌, ℕ, Bool, true, false, Err, IfErr, IfOk, IsErr, IsErrAnd, IsTrue, List, MatchOption, None, Ok, Option, Result, Some, ap, codes, inl, inr, option_map, refl, subst}
use Rattle.std.specs.Io.KnownBytes.{Appends}
use Rattle.clap.specs.Words.{Row}
use Rattle.der_input.specs.declared.error.FormError.{FormError}
use Rattle.der_input.specs.declared.error.FormError.TheVariants.{OutOfMemory}
use Rattle.der_input.specs.declared.form.Form.{Form}
use Rattle.der_input.specs.Blocks.{RefusesLines}
use Rattle.der_text.specs.Texts.{octets_of_text}
use Rattle.der_cli.specs.Inputs.{AreUndecoded, IsDecoded, IsReadFrom, IsUndecoded, encrypted, no_base64}
use Rattle.der_cli.specs.Runs.{RunsOctets, file_named, no_octets, octets_written}
use Rattle.der_cli.specs.Taken.{LeavesInput, OpensFile, decoded, undecoded}

-- lines that aren't decoded encode no octets, unless memory runs out
pub lines_fail : {A : Type 0} (r : Result A FormError) (lines : List ℕ) → IfErr r (RefusesLines lines) → IsErrAnd r (λ e. e ≢ OutOfMemory) → AreUndecoded lines
lines_fail (Ok v) lines why some = absurd some
lines_fail (Err e) lines (inl none) some = absurd (some none)
lines_fail (Err e) lines (inr (inl locked)) some = encrypted locked.1
lines_fail (Err e) lines (inr (inr why)) some = no_base64 e why

-- why there are no octets, unless memory runs out
pub or_memory : {A : Type 0} (r : Result A FormError) (Q : FormError → Type 0) (N : Type 0) → IfErr r (λ e. (e ≡ OutOfMemory) ⊎ Q e) → ((e : FormError) → Q e → N)
    → IfErr r (λ e. (e ≡ OutOfMemory) ⊎ N)
or_memory (Ok v) Q N why f = tt
or_memory (Err e) Q N (inl none) f = inl none
or_memory (Err e) Q N (inr why) f = inr (f e why)

-- of an error other than that, the reason is left
pub reason_left : {A : Type 0} (r : Result A FormError) (N : Type 0) → IsErrAnd r (λ e. e ≢ OutOfMemory) → IfErr r (λ e. (e ≡ OutOfMemory) ⊎ N) → N
reason_left (Ok v) N some why = absurd some
reason_left (Err e) N some (inl none) = absurd (some none)
reason_left (Err e) N some (inr n) = n

-- where all is an error, nothing is found
pub found_none : {V E : Type 0} (r : Result (Option V) E) (N : Type 0) (S : V → Type 0) → N → IfOk r (λ found. MatchOption found (Unit {0}) (λ _. ⊥))
    → IfOk r (λ found. MatchOption found N S)
found_none (Ok None) N S n h = n
found_none (Ok (Some v)) N S n h = absurd h
found_none (Err e) N S n h = tt

-- what follows from what is found, and from nothing
pub on_found : {V E : Type 0} (r : Result (Option V) E) (M N : Type 0) (P Q : V → Type 0) → (M → N) → ((v : V) → P v → Q v) → IfOk r (λ found. MatchOption found M P)
    → IfOk r (λ found. MatchOption found N Q)
on_found (Ok None) M N P Q f g h = f h
on_found (Ok (Some v)) M N P Q f g h = g v h
on_found (Err e) M N P Q f g h = tt

-- octets are those that were decoded, and else that failed
pub on_decoded : {V E : Type 0} (d : Result V FormError) (r : Result (Option V) E) (N : Type 0) (S : V → Type 0) → (IsErrAnd d (λ e. e ≢ OutOfMemory) → N) → IfOk d S
    → IfOk r (λ found. MatchOption found (IsErrAnd d (λ e. e ≢ OutOfMemory)) (λ v. d ≡ Ok v)) → IfOk r (λ found. MatchOption found N S)
on_decoded d r N S f s h = on_found r (IsErrAnd d (λ e. e ≢ OutOfMemory)) N (λ v. d ≡ Ok v) S f (λ v same. subst (λ x. IfOk x S) same s) h

-- a file that was read is decoded or not
pub opens : {V E : Type 0} (octets : V → List ℕ) (r : Result (Option V) E) (asked : Option Form) (name i given : List ℕ) (input left : Option (List ℕ)) → given ≡ i
    → LeavesInput name input left → IsReadFrom input name i
    → IfOk r (λ found. MatchOption found (IsUndecoded asked given) (λ v. IsDecoded asked given (octets v)))
    → IfOk r (λ found. OpensFile asked name input left (option_map octets found))
opens octets (Ok None) asked name i given input left same leaves is h = undecoded i leaves is (subst (IsUndecoded asked) same h)
opens octets (Ok (Some v)) asked name i given input left same leaves is h =
    decoded i (octets v) leaves is (subst (λ w. IsDecoded asked w (octets v)) same h)
opens octets (Err e) asked name i given input left same leaves is h = tt

-- the octets of a text that was read are written or not
pub gives_octets : {E X : Type 0} (contents : X → Option (List ℕ)) (before after : X) (r : Result Bool E) (rows : List Row) (name text given : List ℕ) (input : Option (List ℕ))
    → name ≡ file_named (codes "file") rows → given ≡ text → IsReadFrom input name text
    → IfOk r (λ ok. IsTrue ok → (w : List ℕ) × (octets_of_text given ≡ Ok w) × Appends (contents before) (contents after) w)
    → IfOk r (λ ok. ok ≡ false → IsErr (octets_of_text given)) → IfOk r (λ ok. ok ≡ false → after ≡ before)
    → IfOk r (RunsOctets rows input (contents before) (contents after))
gives_octets contents before after (Ok true) rows name text given input named same is written refused none =
    let w = written refl in
    octets_written text w.0 (subst (λ n. IsReadFrom input n text) named is) (subst (λ t. octets_of_text t ≡ Ok w.0) same w.1) w.2
gives_octets contents before after (Ok false) rows name text given input named same is written refused none =
    no_octets text (subst (λ n. IsReadFrom input n text) named is) (subst (λ t. IsErr (octets_of_text t)) same (refused refl)) (ap contents (none refl))
gives_octets contents before after (Err e) rows name text given input named same is written refused none = tt

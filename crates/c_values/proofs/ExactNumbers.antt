-- Numbers of a cursor, whose content octets are tested as by DER: by BER too they are the fewest (X.690 8.3.2).
use Rattle.std.proofs.Common.{◌≡◌, ℕ, List, length, Result, Ok, Err, Bor, refl, sym, ap, subst, ◌∙◌, inl, inr, arith}
use Rattle.std.specs.Prelude.{None, false}
use Rattle.der_base.specs.declared.error.Err.TheVariants.{Error}
use Rattle.der_base.specs.declared.error.Error.{Error as BerError}
use Rattle.der_base.specs.declared.rules.Rules.{Rules}
use Rattle.der_base.specs.declared.rules.Rules.TheVariants.{Ber, Der}
use Rattle.der_base.specs.LeafRefusal.{IsFirstRefusal, integer_tests, range_tests}
use Rattle.der_base.specs.Numbers.{NumberType, number_tests}
use Rattle.der_base.specs.Refusal.{Refusal as Name}
use Rattle.der_base.specs.Tree.{integer}
use Rattle.der_base.proofs.Answers.Answering.{passed_on}
use Rattle.der_base.proofs.Answers.Exactness.{exactly}
use Rattle.der_base.proofs.Leaves.Refusals.{refused_in_front}
use Rattle.der_cursor.specs.declared.cursor.Cursor.{Cursor}
use Rattle.der_cursor.specs.declared.error.ReadError.{ReadError}
use Rattle.der_cursor.specs.Cursors.{IsTagged, ReadsValue, RefusesAt, ValueRefuses, class_wanted, end_of, list_end, list_end_of, number_wanted, octets_left, place_of, rules_of}
use Rattle.der_cursor.specs.Elements.{SpellsElement}
use Rattle.der_cursor.proofs.CursorLaws.{shows_one_at}
use Rattle.der_cursor.proofs.ValueLaws.{HasOneValue, value_shows_one}
use Rattle.der_values.specs.Kinds.{Kind, enumerated_numbers, integers, leaf_tests, numbers}
use Rattle.c_values.specs.declared.cursor.DmCursor.{DmCursor}
use Rattle.c_values.specs.declared.fault.DmFault.{DmFault}
use Rattle.c_values.specs.Cursors.{Continues, ContinuesEnumerated, DecodesFound, Finishes, ReadsField}
use Rattle.c_values.proofs.ExactBits.{finishes_there, left_at}

abbrev octets_of : Bor (List ℕ) → List ℕ
octets_of v = v.now

-- what the octets of an INTEGER are refused for is what the kind refuses them for first
abbrev pub BeginsWithTests : {V : Type 0} → Kind V → Type 0
BeginsWithTests k = (w : List ℕ) (e : Name) → IsFirstRefusal (integer_tests w) e → IsFirstRefusal (k.tests w) e

front : {V : Type 0} (k : Kind V) → BeginsWithTests k → (r : Rules) (w : List ℕ) (e : Name) → IsFirstRefusal (leaf_tests r 2 w) e → IsFirstRefusal (k.tests w) e
front k b Ber w e h = absurd h
front k b Der w e h = b w e h

module _ {T V : Type 0} (value : T → V) (k : Kind V) (one : HasOneValue k) (b : BeginsWithTests k) (t : ℕ) (old : Cursor) where
  refused_too : (e : Name) → RefusesAt old (ValueRefuses octets_of (integers (rules_of old)) t old) e → RefusesAt old (ValueRefuses value k t old) e
  refused_too e (inl (inl a)) = inl (inl a)
  refused_too e (inl (inr (v, s, f))) = inl (inr (v, s, front k b (rules_of old) v.0 e f))
  refused_too e (inr h) = inr h

  pub decoded : (found : Result (Bor (List ℕ)) (ReadError BerError)) (result : Result T (ReadError BerError)) (new : Cursor) → place_of old ≡ 0 → list_end_of old ≡ None
      → ReadsValue octets_of (integers (rules_of old)) t old found new → DecodesFound value k found result → ReadsValue value k t old result (left_at result old new)
  decoded (Err e) result new p l h q = rw q (record {
    value_read = exactly (Err e.reason) (shows_one_at old (value_shows_one value k t one old)) (λ n k m. m) (passed_on _ _ e.reason h.value_read.found refused_too (λ n k. k) (λ m. m));
    place = (h.place.0, refl);
  })
  decoded (Ok w) result new p l h (Ok x, d, q) =
      let (v, n, m, s) = h.value_read.found in
      rw q (record {
        value_read = exactly (Ok (x, new)) (shows_one_at old (value_shows_one value k t one old)) (λ n k m. m)
            (w.now, d.0, d.1, subst (λ u. SpellsElement (rules_of old) _ false _ (octets_left old) (u, octets_left new)) (sym m) s);
        place = h.place;
      })
  decoded (Ok w) result new p l h (Err e, d, q) =
      let (v, n, m, s) = h.value_read.found in
      rw q (record {
        value_read = exactly (Err (Error e)) (shows_one_at old (value_shows_one value k t one old)) (λ n k m. m)
            (inl (inr ((w.now, octets_left new), subst (λ u. SpellsElement (rules_of old) _ false _ (octets_left old) (u, octets_left new)) (sym m) s, d)));
        place = (rw (p, l) refl, refl);
      })

  -- what a call in C reads so
  pub reads_number : {W : Type 0} (Is : T → W → Type 0) (d d' : DmCursor) (found : Result (Bor (List ℕ)) (ReadError BerError)) (result : Result T (ReadError BerError)) (new : Cursor) (v v' : W) (f : DmFault)
      → Continues d old → ReadsValue octets_of (integers (rules_of old)) t old found new → DecodesFound value k found result → Finishes Is d new result d' v v' f
      → ReadsField (ReadsValue value k t) Is d d' v v' f
  reads_number Is d d' found result new v v' f begin h q g =
      let place : place_of old ≡ 0 = omega (arith, begin.end, ap length begin.octets) in
      let outside : list_end_of old ≡ None = ap (λ i. list_end i (end_of old)) begin.inside in
      (old, left_at result old new, result, begin, decoded found result new place outside h q, finishes_there Is d old new result d' v v' f g)

module _ {T V : Type 0} (value : T → V) (k : Kind V) (one : HasOneValue k) (b : BeginsWithTests k) where
  -- a value that is read as an INTEGER under the tag of an ENUMERATED, or the one that the next element has
  under_its_tag : (old tagged new : Cursor) (result : Result T (ReadError BerError)) → IsTagged (class_wanted old.implicit) (number_wanted old.implicit 10) old tagged
      → ReadsValue value k 2 tagged result (left_at result tagged new) → ReadsValue value k 10 old result (left_at result old new)
  under_its_tag old tagged new (Ok x) q h = subst (λ c. ReadsValue value k 2 c (Ok x) new → ReadsValue value k 10 old (Ok x) new) (sym q) (λ r. record { value_read = r.value_read; place = r.place }) h
  under_its_tag old tagged new (Err e) q h =
      subst (λ c. ReadsValue value k 2 c (Err e) c → ReadsValue value k 10 old (Err e) old) (sym q) (λ r. record { value_read = r.value_read; place = (r.place.0, refl) }) h

  pub reads_enumerated : {W : Type 0} (Is : T → W → Type 0) (d d' : DmCursor) (tagged : Cursor) (found : Result (Bor (List ℕ)) (ReadError BerError)) (result : Result T (ReadError BerError)) (new : Cursor)
      (v v' : W) (f : DmFault)
      → ContinuesEnumerated d tagged → ReadsValue octets_of (integers (rules_of tagged)) 2 tagged found new → DecodesFound value k found result → Finishes Is d new result d' v v' f
      → ReadsField (ReadsValue value k 10) Is d d' v v' f
  reads_enumerated Is d d' tagged found result new v v' f (old, begin, is) h q g =
      let at : place_of old ≡ 0 = omega (arith, begin.end, ap length begin.octets) in
      let place : place_of tagged ≡ 0 = ap place_of is ∙ at in
      let out : list_end_of old ≡ None = ap (λ i. list_end i (end_of old)) begin.inside in
      let outside : list_end_of tagged ≡ None = ap list_end_of is ∙ out in
      let read = decoded value k one b 2 tagged found result new place outside h q in
      (old, left_at result old new, result, begin, under_its_tag old tagged new result is read, finishes_there Is d old new result d' v v' f g)

-- the kinds of numbers begin so
pub integer_begins : BeginsWithTests (integers Der)
integer_begins w e h = h

pub number_begins : (n : NumberType) → BeginsWithTests (numbers Der n)
number_begins n w e h = refused_in_front (integer_tests w) (number_tests n (integer w)) e h

pub enumerated_begins : BeginsWithTests (enumerated_numbers Der)
enumerated_begins w e h = refused_in_front (integer_tests w) (range_tests w) e h

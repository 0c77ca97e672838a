-- Bits that a cursor read, with their unused bits tested.
use Rattle.std.proofs.Common.{◌≡◌, ℕ, ◌∷◌, List, Result, Ok, Err, refl, sym, subst, inl, inr}
use Rattle.std.specs.Prelude.{None}
use Rattle.der_base.specs.declared.error.Err.TheVariants.{Error}
use Rattle.der_base.specs.declared.error.Error.{Error as BerError}
use Rattle.der_base.specs.declared.rules.Rules.{Rules}
use Rattle.der_base.specs.LeafRefusal.{IsFirstRefusal, NoneHolds}
use Rattle.der_base.specs.Refusal.{Refusal as Name, refusal}
use Rattle.der_base.proofs.Answers.Answering.{passed_on}
use Rattle.der_base.proofs.Answers.Exactness.{exactly}
use Rattle.der_base.proofs.Leaves.Refusals.{none_of_both, refused_behind, refused_in_front}
use Rattle.der_cursor.specs.declared.cursor.Cursor.{Cursor}
use Rattle.der_cursor.specs.declared.error.ReadError.{ReadError}
use Rattle.der_cursor.specs.Cursors.{ReadsValue, RefusesAt, SpellsValue, ValueRefuses, list_end_of, octets_left, place_of}
use Rattle.der_cursor.proofs.CursorLaws.{shows_one_at}
use Rattle.der_cursor.proofs.KindLaws.{bits_one}
use Rattle.der_cursor.proofs.ValueLaws.{value_shows_one}
use Rattle.der_values.specs.declared.bits.BitString.{BitString}
use Rattle.der_values.specs.Kinds.{bit_strings, leaf_tests}
use Rattle.c_values.specs.declared.cursor.DmCursor.{DmCursor}
use Rattle.c_values.specs.declared.fault.DmFault.{DmFault}
use Rattle.c_values.specs.Cursors.{Finishes, TestsUnusedBits, exact_bit_strings, unused_bits_tests}

abbrev pub value_of : BitString → ℕ × List ℕ
value_of v = (v.unused, v.octets.now)

-- where a cursor is after a read, or where it stays
abbrev pub left_at : {T E : Type 0} → Result T E → Cursor → Cursor → Cursor
left_at (Ok x) old new = new
left_at (Err e) old new = old

module _ (r : Rules) (old : Cursor) where
  refused_too : (e : Name) → RefusesAt old (ValueRefuses value_of (bit_strings r) 3 old) e → RefusesAt old (ValueRefuses value_of (exact_bit_strings r) 3 old) e
  refused_too e (inl (inl a)) = inl (inl a)
  refused_too e (inl (inr (v, s, f))) = inl (inr (v, s, refused_in_front (leaf_tests r 3 v.0) (unused_bits_tests v.0) e f))
  refused_too e (inr b) = inr b

  spelled_too : (b : BitString) (i : List ℕ) → NoneHolds (unused_bits_tests (b.unused ∷ b.octets.now)) → SpellsValue value_of (bit_strings r) 3 old (value_of b, i)
      → SpellsValue value_of (exact_bit_strings r) 3 old (value_of b, i)
  spelled_too b i t (w, n, m, s) = (w, none_of_both (leaf_tests r 3 w) (unused_bits_tests w) n (subst (λ v. NoneHolds (unused_bits_tests v)) (sym m) t), m, s)

  refused_then : (b : BitString) (i : List ℕ) (e : Name) → IsFirstRefusal (unused_bits_tests (b.unused ∷ b.octets.now)) e → SpellsValue value_of (bit_strings r) 3 old (value_of b, i)
      → ValueRefuses value_of (exact_bit_strings r) 3 old e
  refused_then b i e f (w, n, m, s) = inr ((w, i), s, refused_behind (leaf_tests r 3 w) (unused_bits_tests w) e n (subst (λ v. IsFirstRefusal (unused_bits_tests v) e) (sym m) f))

  pub exact_bits : (found result : Result BitString (ReadError BerError)) (new : Cursor) → place_of old ≡ 0 → list_end_of old ≡ None → ReadsValue value_of (bit_strings r) 3 old found new
      → TestsUnusedBits found result → ReadsValue value_of (exact_bit_strings r) 3 old result (left_at result old new)
  exact_bits (Err e) result new p l h t = rw t (record {
    value_read = exactly (Err e.reason) (shows_one_at old (value_shows_one value_of (exact_bit_strings r) 3 (bits_one r) old)) (λ n k m. m)
        (passed_on _ _ e.reason h.value_read.found refused_too (λ n k. k) (λ m. m));
    place = (h.place.0, refl);
  })
  exact_bits (Ok b) (Ok x) new p l h t = rw t.1 (record {
    value_read = exactly (Ok (b, new)) (shows_one_at old (value_shows_one value_of (exact_bit_strings r) 3 (bits_one r) old)) (λ n k m. m) (spelled_too b (octets_left new) t.0 h.value_read.found);
    place = h.place;
  })
  exact_bits (Ok b) (Err e) new p l h (x, f, q) = rw q (record {
    value_read = exactly (Err (Error x)) (shows_one_at old (value_shows_one value_of (exact_bit_strings r) 3 (bits_one r) old)) (λ n k m. m)
        (inl (refused_then b (octets_left new) (refusal x) f h.value_read.found));
    place = (rw (p, l) refl, refl);
  })

-- a call in C stays after a refusal, wherever the cursor is
pub finishes_there : {T V : Type 0} (Is : T → V → Type 0) (d : DmCursor) (old new : Cursor) (found : Result T (ReadError BerError)) (d' : DmCursor) (v v' : V) (f : DmFault)
    → Finishes Is d new found d' v v' f → Finishes Is d (left_at found old new) found d' v v' f
finishes_there Is d old new (Ok x) d' v v' f h = h
finishes_there Is d old new (Err e) d' v v' f h = h

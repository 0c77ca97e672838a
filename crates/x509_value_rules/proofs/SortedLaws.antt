-- Slots of extensions, as a walk fills them.
use Rattle.std.proofs.Common.{◌≡◌, ◌≢◌, ℕ, ◌⊎◌, Bool, List, length, replicate, sym, ap, subst, ◌∙◌, inl, inr}
use Rattle.std.specs.Prelude.{◌↔◌}
use Rattle.std.proofs.lemmas.Bool.{cases_eq}
use Rattle.std.proofs.lemmas.List.{get_or-replicate, length-replicate}
use Rattle.x509.specs.Certificates.{ExtensionValue, extension}
use Rattle.x509.specs.Formats.{spells}
use Rattle.x509.specs.Lists.{BeginsWithNone}
use Rattle.x509.proofs.CertificateLaws.{extension_exact}
use Rattle.x509_value_rules.specs.declared.facts.Fact.{Fact}
use Rattle.der_extensions.specs.declared.known.KnownExtension.{KnownExtension}
use Rattle.x509_value_rules.specs.declared.sorted.Slot.{Slot}
use Rattle.x509_value_rules.specs.declared.sorted.Slot.TheVariants.{Absent, Once, Unsorted}
use Rattle.x509_value_rules.specs.Facts.{Holds, IsShownBy, Shows}
use Rattle.der_extensions.specs.Known.{known_count, known_number, octets_of}
use Rattle.x509_value_rules.specs.Readings.{IsReadingOf}
use Rattle.x509_value_rules.specs.Sorted.{AreSlotsOf, IsAfter, IsSlotOf, Puts, slot_of}
use Rattle.der_extensions.proofs.KnownLaws.{few_extensions, one_extension, one_number}
use Rattle.x509.proofs.WalkLaws.{ahead, nowhere}

-- what extensions with the octets i show, the slot or those that are left show
abbrev pub IsSlotSoFar : List ℕ → List ℕ → KnownExtension → Slot → Type 0
IsSlotSoFar i left k Absent = (f : Fact) → Shows k f i ↔ Shows k f left
IsSlotSoFar i left k (Once c v s) = ((f : Fact) → Shows k f i ↔ (Holds f c v.now ⊎ Shows k f left)) × IsReadingOf s v.now
IsSlotSoFar i left k Unsorted = Unit {0}

pub record SortedSoFar (i left : List ℕ) (slots : List Slot) : Type 0 where
  pub all : length slots ≡ known_count
  pub each : (k : KnownExtension) → IsSlotSoFar i left k (slot_of slots k)

none_yet : (k : KnownExtension) → slot_of (replicate 30 Absent) k ≡ Absent
none_yet k = get_or-replicate {A = Slot} 30 (known_number k) Absent Unsorted (few_extensions k)

pub sorted_none : {i left : List ℕ} → left ≡ i → SortedSoFar i left (replicate 30 Absent)
sorted_none {i = i} {left = left} e = record {
  all = length-replicate {A = Slot} 30 Absent;
  each = λ k. subst (IsSlotSoFar i left k) (sym (none_yet k)) (λ f. (λ s. subst (Shows k f) (sym e) s, λ s. subst (Shows k f) e s));
}

module _ (i left rest : List ℕ) (k : KnownExtension) where
  -- an extension that isn't this one
  passed : (s : Slot) → ((f : Fact) → Shows k f left ↔ Shows k f rest) → IsSlotSoFar i left k s → IsSlotSoFar i rest k s
  passed Absent g h = λ f. (λ s. (g f).0 ((h f).0 s), λ s. (h f).1 ((g f).1 s))
  passed (Once c v t) g h = (λ f. (λ s. on f ((h.0 f).0 s), λ s. (h.0 f).1 (back f s)), h.1)
    where
      on : (f : Fact) → Holds f c v.now ⊎ Shows k f left → Holds f c v.now ⊎ Shows k f rest
      on f (inl p) = inl p
      on f (inr s) = inr ((g f).0 s)

      back : (f : Fact) → Holds f c v.now ⊎ Shows k f rest → Holds f c v.now ⊎ Shows k f left
      back f (inl p) = inl p
      back f (inr s) = inr ((g f).1 s)
  passed Unsorted g h = tt

  -- one that is
  taken : {c : Bool} {w : List ℕ} (s t : Slot) → IsAfter s c w t → ((f : Fact) → Shows k f left ↔ (Holds f c w ⊎ Shows k f rest)) → IsSlotSoFar i left k s → IsSlotSoFar i rest k t
  taken Absent Absent a g h = absurd a
  taken {c = c} Absent (Once d v u) a g h = (
    λ f. (
      λ s. subst (λ z. Holds f z v.now ⊎ Shows k f rest) (sym a.0) (subst (λ z. Holds f c z ⊎ Shows k f rest) (sym a.1) ((g f).0 ((h f).0 s))),
      λ s. (h f).1 ((g f).1 (subst (λ z. Holds f c z ⊎ Shows k f rest) a.1 (subst (λ z. Holds f z v.now ⊎ Shows k f rest) a.0 s))),
    ),
    subst (λ z. IsReadingOf u z) (sym a.1) a.2,
  )
  taken Absent Unsorted a g h = absurd a
  taken (Once _ _ _) t a g h = subst (IsSlotSoFar i rest k) (sym a) tt
  taken Unsorted t a g h = subst (IsSlotSoFar i rest k) (sym a) tt

-- and at the end
shows_none : {left : List ℕ} (k : KnownExtension) (f : Fact) → BeginsWithNone extension left → ¬ Shows k f left
unfolding Shows
shows_none k f n s = nowhere {f = extension} {P = λ z _. IsShownBy k f z} n s

ended : (i left : List ℕ) (k : KnownExtension) (s : Slot) → BeginsWithNone extension left → IsSlotSoFar i left k s → IsSlotOf i k s
ended i left k Absent n h = λ f s. shows_none k f n ((h f).0 s)
ended i left k (Once c v t) n h = (λ f. (λ s. shown f ((h.0 f).0 s), λ p. (h.0 f).1 (inl p)), h.1)
  where
    shown : (f : Fact) → Holds f c v.now ⊎ Shows k f left → Holds f c v.now
    shown f (inl p) = p
    shown f (inr s) = absurd (shows_none k f n s)
ended i left k Unsorted n h = tt

module _ {i left rest : List ℕ} (e : ExtensionValue) (b : spells extension left e rest) {slots : List Slot} (so_far : SortedSoFar i left slots) where
  parts : (k : KnownExtension) (f : Fact) → Shows k f left ↔ (IsShownBy k f e ⊎ Shows k f rest)
  unfolding Shows
  parts k f = ahead {f = extension} {P = λ z _. IsShownBy k f z} extension_exact e b

  not_this : (k : KnownExtension) → e.identifier ≢ octets_of k → (f : Fact) → Shows k f left ↔ Shows k f rest
  not_this k n f = (λ s. on ((parts k f).0 s), λ s. (parts k f).1 (inr s))
    where
      on : IsShownBy k f e ⊎ Shows k f rest → Shows k f rest
      on (inl p) = absurd (n p.0)
      on (inr s) = s

  is_this : (k : KnownExtension) → e.identifier ≡ octets_of k → (f : Fact) → Shows k f left ↔ (Holds f e.critical e.value ⊎ Shows k f rest)
  is_this k q f = (λ s. on ((parts k f).0 s), λ s. (parts k f).1 (back s))
    where
      on : IsShownBy k f e ⊎ Shows k f rest → Holds f e.critical e.value ⊎ Shows k f rest
      on (inl p) = inl p.1
      on (inr s) = inr s

      back : Holds f e.critical e.value ⊎ Shows k f rest → IsShownBy k f e ⊎ Shows k f rest
      back (inl p) = inl (q, p)
      back (inr s) = inr s

  -- an extension that no rule knows
  pub sorted_past : ((k : KnownExtension) → e.identifier ≢ octets_of k) → SortedSoFar i rest slots
  sorted_past n = record { all = so_far.all; each = λ k. passed i left rest k (slot_of slots k) (not_this k (n k)) (so_far.each k) }

  -- one that rules know
  pub sorted_one : (j : KnownExtension) {new : List Slot} → e.identifier ≡ octets_of j → Puts j e.critical e.value slots new → SortedSoFar i rest new
  sorted_one j {new = new} q p = record { all = p.all; each = each }
    where
      each : (k : KnownExtension) → IsSlotSoFar i rest k (slot_of new k)
      each k =
          elim (cases_eq (known_number k) (known_number j)) [
            | inl same ↦ (
                subst (λ z. IsSlotSoFar i rest z (slot_of new z)) (sym (one_number k j same))
                (taken i left rest j (slot_of slots j) (slot_of new j) p.same (is_this j q) (so_far.each j))
                )
            | inr other ↦ (
                subst (IsSlotSoFar i rest k) (sym (p.others k (λ z. other (ap known_number z))))
                (passed i left rest k (slot_of slots k) (not_this k (λ z. other (ap known_number (one_extension k j (sym z ∙ q))))) (so_far.each k))
                )
          ]

pub sorted_all : {i left : List ℕ} {slots : List Slot} → SortedSoFar i left slots → BeginsWithNone extension left → AreSlotsOf i slots
sorted_all {i = i} {left = left} {slots = slots} s n = record { all = s.all; each = λ k. ended i left k (slot_of slots k) n (s.each k) }

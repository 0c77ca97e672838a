-- Names of distribution points, and values that may be absent of which P holds.
use Rattle.std.proofs.Common.{◌≡◌, Option, Some, None, Result, Ok, Err, refl, sym, subst, arith}
use Rattle.std.specs.Option.{option_map}
use Rattle.der_base.specs.declared.error.Error.{Error as BerError}
use Rattle.der_base.specs.declared.header.Class.TheVariants.{ContextSpecific}
use Rattle.der_cursor.specs.declared.cursor.Cursor.{Cursor}
use Rattle.der_cursor.specs.declared.error.ReadError.{ReadError}
use Rattle.der_cursor.specs.Cursors.{octets_left, rules_of}
use Rattle.der_cursor.specs.Elements.{IsNext}
use Rattle.der_cursor.specs.Formats.{Format, Implicit, Limited, Never, Optional, ReadsField, Required}
use Rattle.der_extensions.specs.declared.distribution_points.DistributionPointName.{DistributionPointName as NameEnum}
use Rattle.der_extensions.specs.Extensions.{DistributionPointName, full_name, name_relative_to_issuer, point_name_of}
use Rattle.der_extensions.specs.GeneralNames.{Chosen, GeneralNames, RelativeDistinguishedName}
use Rattle.der_extensions.proofs.NameLaws.{next_of, one_number}

-- the alternative whose tag is next is the name
pub full_name_chosen : {old new : Cursor} {result : Result NameEnum (ReadError BerError)} → IsNext ContextSpecific 0 (octets_left old)
    → ReadsField (Chosen full_name (Required (Implicit 0 GeneralNames))) point_name_of Never old result new → ReadsField DistributionPointName point_name_of Never old result new
unfolding DistributionPointName Chosen
full_name_chosen {old = old} {new = new} {result = Ok x} q h fresh = let r = h fresh in let z = r.found.0 in record {
  found = (subst (λ u. DistributionPointName (rules_of old) (octets_left old) u (octets_left new)) (sym z.1) z.2, r.found.1);
  only = λ u rest. elim u as (λ u. DistributionPointName (rules_of old) (octets_left old) u rest → (point_name_of x ≡ u) × (octets_left new ≡ rest)) [
    | full_name v ↦ λ y. r.only (full_name v) rest (v, refl, y)
    | name_relative_to_issuer v ↦ λ y. absurd (omega (arith, one_number 0 1 (octets_left old) q (next_of (Implicit 1 RelativeDistinguishedName) (rules_of old) (octets_left old) v rest y)))
  ];
}
full_name_chosen {old = old} {new = new} {result = Err e} q h fresh = let r = h fresh in record {
  found = tt;
  only = λ u rest. elim u as (λ u. DistributionPointName (rules_of old) (octets_left old) u rest → ⊥) [
    | full_name v ↦ λ y. r.only (full_name v) rest (v, refl, y)
    | name_relative_to_issuer v ↦ λ y. absurd (omega (arith, one_number 0 1 (octets_left old) q (next_of (Implicit 1 RelativeDistinguishedName) (rules_of old) (octets_left old) v rest y)))
  ];
}

pub relative_name_chosen : {old new : Cursor} {result : Result NameEnum (ReadError BerError)} → ¬ IsNext ContextSpecific 0 (octets_left old)
    → ReadsField (Chosen name_relative_to_issuer (Required (Implicit 1 RelativeDistinguishedName))) point_name_of Never old result new → ReadsField DistributionPointName point_name_of Never old result new
unfolding DistributionPointName Chosen
relative_name_chosen {old = old} {new = new} {result = Ok x} q h fresh = let r = h fresh in let z = r.found.0 in record {
  found = (subst (λ u. DistributionPointName (rules_of old) (octets_left old) u (octets_left new)) (sym z.1) z.2, r.found.1);
  only = λ u rest. elim u as (λ u. DistributionPointName (rules_of old) (octets_left old) u rest → (point_name_of x ≡ u) × (octets_left new ≡ rest)) [
    | full_name v ↦ λ y. absurd (q (next_of (Implicit 0 GeneralNames) (rules_of old) (octets_left old) v rest y))
    | name_relative_to_issuer v ↦ λ y. r.only (name_relative_to_issuer v) rest (v, refl, y)
  ];
}
relative_name_chosen {old = old} {new = new} {result = Err e} q h fresh = let r = h fresh in record {
  found = tt;
  only = λ u rest. elim u as (λ u. DistributionPointName (rules_of old) (octets_left old) u rest → ⊥) [
    | full_name v ↦ λ y. absurd (q (next_of (Implicit 0 GeneralNames) (rules_of old) (octets_left old) v rest y))
    | name_relative_to_issuer v ↦ λ y. r.only (name_relative_to_issuer v) rest (v, refl, y)
  ];
}

-- a value that may be absent, of which P holds
module _ {V : Type 0} (P : V → Type 0) (T : Format V) {X E : Type 0} {view : X → V} {May : E → Type 0} {old : Cursor} where
  pub limited_absent : {new : Cursor} → ReadsField {E = E} (Optional T) (option_map view) May old (Ok None) new → ReadsField {E = E} (Optional (Limited P T)) (option_map view) May old (Ok None) new
  unfolding Optional Required
  limited_absent {new = new} h fresh = let r = h fresh in record {
    found = r.found;
    only = λ v rest. elim v as (λ u. Optional (Limited P T) (rules_of old) (octets_left old) u rest → (None ≡ u) × (octets_left new ≡ rest)) [
      | None ↦ λ z. r.only None rest z
      | Some u ↦ λ z. let y = r.only (Some u) rest (z.0, z.1.0, z.2) in (y.0, y.1)
    ];
  }

  pub limited_there : {new : Cursor} {x : X} → P (view x) → ReadsField {E = E} (Optional T) (option_map view) May old (Ok (Some x)) new
      → ReadsField {E = E} (Optional (Limited P T)) (option_map view) May old (Ok (Some x)) new
  unfolding Optional Required
  limited_there {new = new} {x = x} p h fresh = let r = h fresh in record {
    found = let z = r.found.0 in ((z.0, (z.1, p), z.2), r.found.1);
    only = λ v rest. elim v as (λ u. Optional (Limited P T) (rules_of old) (octets_left old) u rest → (Some (view x) ≡ u) × (octets_left new ≡ rest)) [
      | None ↦ λ z. r.only None rest z
      | Some u ↦ λ z. r.only (Some u) rest (z.0, z.1.0, z.2)
    ];
  }

  pub limited_refused : {Y : Type 0} {whole : Y → Option V} {new after : Cursor} {x : X} {e : E} → ¬ P (view x) → ReadsField {E = E} (Optional T) (option_map view) May old (Ok (Some x)) new
      → ReadsField (Optional (Limited P T)) whole May old (Err e) after
  unfolding Optional Required
  limited_refused {new = new} {x = x} {e = e} p h fresh = let r = h fresh in record {
    found = tt;
    only = λ v rest. elim v as (λ u. Optional (Limited P T) (rules_of old) (octets_left old) u rest → May e) [
      | None ↦ λ z. let q : ◌≡◌ {A = Option V} (Some (view x)) None = (r.only None rest z).0 in absurd cc
      | Some u ↦ λ z. let q : ◌≡◌ {A = Option V} (Some (view x)) (Some u) = (r.only (Some u) rest (z.0, z.1.0, z.2)).0 in let e : view x ≡ u = cc in absurd (p (subst P (sym e) z.1.1))
    ];
  }

  pub limited_unread : {Y : Type 0} {whole : Y → Option V} {new after : Cursor} {e : E} → ReadsField (Optional T) (option_map view) May old (Err e) new
      → ReadsField (Optional (Limited P T)) whole May old (Err e) after
  unfolding Optional Required
  limited_unread {new = new} {e = e} h fresh = let r = h fresh in record {
    found = tt;
    only = λ v rest. elim v as (λ u. Optional (Limited P T) (rules_of old) (octets_left old) u rest → May e) [
      | None ↦ λ z. r.only None rest z
      | Some u ↦ λ z. r.only (Some u) rest (z.0, z.1.0, z.2)
    ];
  }

-- The content of an attribute: its type, and then its value.
use Rattle.std.proofs.Common.{◌≡◌, ◌≢◌, List, [], ℕ, ◌++◌, length, Ok, Err, Bor, refl, sym, ap, ◌∙◌, append-nil}
use Rattle.der_parser.specs.declared.error.Err.{Err as Refused}
use Rattle.der_parser.specs.declared.error.Error.{Error as BerError}
use Rattle.der_parser.specs.declared.ber.BerObject.{BerObject}
use Rattle.der_parser.specs.declared.oid.Oid.{Oid}
use Rattle.der_parser.specs.View.{tree}
use Rattle.der_uses.specs.declared.names.name.Attr.{Attr}
use Rattle.der_uses.specs.Names.Inner.{AnswersWhole}
use Rattle.der_uses.specs.Names.Names.{AnswersSpelled, Attribute, SpellsAttribute, SpellsIdentifier, SpellsParts, SpellsSet, SpellsString}
use Rattle.der_uses.specs.Names.Views.{attribute_of, identifier_of}
use Rattle.der_uses.proofs.NamesLaws.Elements.{element_some}
use Rattle.der_uses.proofs.NamesLaws.Lists.{nil_or_more}

-- the type is refused
pub no_type : (i : List ℕ) (e : Refused BerError) → AnswersSpelled {T = Oid} SpellsIdentifier identifier_of i (Err e) → AnswersWhole {T = Attr} SpellsParts attribute_of i (Err e)
no_type i e t = record { found = tt; only = λ a s. t.only a.0 s.string (s.identifier, s.octets, s.type) }

module _ (i : List ℕ) (behind : Bor (List ℕ)) (x : Oid) (t : AnswersSpelled SpellsIdentifier identifier_of i (Ok (behind, x))) where
  -- what stands behind the type that is spelled
  value_behind : (a : Attribute) (s : SpellsParts i a) → (identifier_of x ≡ a.0) × (behind.now ≡ s.string ++ [])
  value_behind a s =
      let (e, q) = t.only a.0 s.string (s.identifier, s.octets, s.type) in
      (e, q ∙ sym (append-nil s.string))

  pub no_value : (e : Refused BerError) → AnswersSpelled {T = BerObject} SpellsString tree behind.now (Err e) → AnswersWhole {T = Attr} SpellsParts attribute_of i (Err e)
  no_value e v = record { found = tt; only = λ a s. v.only a.1 [] (s.string, (value_behind a s).1, s.value) }

  module _ (rest : Bor (List ℕ)) (o : BerObject) (v : AnswersSpelled SpellsString tree behind.now (Ok (rest, o))) where
    pub octets_left : (e : Refused BerError) → length rest.now ≢ 0 → AnswersWhole {T = Attr} SpellsParts attribute_of i (Err e)
    octets_left e n = record { found = tt; only = λ a s. let q = v.only a.1 [] (s.string, (value_behind a s).1, s.value) in absurd (n (ap length q.1)) }

    pub parts_read : length rest.now ≡ 0 → AnswersWhole SpellsParts attribute_of i (Ok (rest, record { oid = x; value = o }))
    parts_read n =
        let (b, j, type) = t.found in
        let (w, k, value) = v.found in
        let whole : behind.now ≡ w = k ∙ ap (λ r. w ++ r) (nil_or_more rest.now n) ∙ append-nil w in
        record {
          found = record { identifier = b; string = w; octets = j ∙ ap (λ r. b ++ r) whole; type = type; value = value };
          only = λ a s.
              let p = value_behind a s in
              let q = v.only a.1 [] (s.string, p.1, s.value) in
              ap (λ y. (y, tree o)) p.0 ∙ ap (λ y. (a.0, y)) q.0;
        }

-- an attribute and a set are some octets
pub attribute_some : (b : List ℕ) (a : Attribute) → SpellsAttribute b a → b ≢ []
attribute_some b a (w, e, s) = element_some b w 16 e

pub set_some : (b : List ℕ) (l : List Attribute) → SpellsSet b l → b ≢ []
set_some b l (w, e, s) = element_some b w 17 e

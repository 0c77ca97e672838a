-- Lines of a text of one's own, and its entries.
use Rattle.std.proofs.Common.{◌≡◌, ℕ, zero, suc, ◌+◌, ◌<◌, ◌^◌, ◌||◌, not, Bool, true, false, cond, List, [], ◌∷◌, length, take, drop, map, get_or, Option, Some, None, Result, Ok, Err, refl, sym, ap, ◌∙◌, arith}
use Rattle.std.specs.Prelude.{find, position, nat_lt, ◌==◌}
use Rattle.std.specs.Option.{option_map}
use Rattle.std.specs.List.{after_first, list_any, position_or_len, prefix_len}
use Rattle.std.specs.Str.{chars, trim, trim_end, trim_start}
use Rattle.std.proofs.lemmas.Bool.{false≢true}
use Rattle.std.proofs.lemmas.Bool.Decides.{nat_tests}
use Rattle.std.proofs.lemmas.List.{drop_all}
use Rattle.der_base.specs.declared.error.OidParseError.{OidParseError}
use Rattle.der_base.specs.OidArcs.{dotted_arcs, octets_if_arcs}
use Rattle.der_base.specs.Oids.{octets_of}
use Rattle.der_base.specs.TreeEquality.{same_octets}
use Rattle.oid_names.specs.declared.own.Entry.{Entry}
use Rattle.oid_names.specs.OwnNames.{Named, entry_in, entry_of, name_in, named}

-- without a name there is no entry
no_name : (r : Result (List ℕ) OidParseError) → named [] r ≡ None
no_name (Ok octets) = refl
no_name (Err e) = refl

nothing_trimmed : trim [] ≡ []
unfolding trim_start trim_end chars
nothing_trimmed = refl

pub no_space : (content : List ℕ) → position_or_len (λ c. c == 0x20) content ≡ length content → entry_of content ≡ None
no_space content e =
    let r = octets_if_arcs (dotted_arcs (take (position_or_len (λ c. c == 0x20) content) content)) in
    ap (λ rest. named (trim rest) r) (ap (λ n. drop (n + 1) content) e ∙ drop_all (length content + 1) content (omega arith)) ∙ ap (λ name. named name r) nothing_trimmed ∙ no_name r

-- the first entry that passes, as callers see it
chosen : (p : Named → Bool) (e : Entry) (es : List Entry) → find p (map entry_in es) ≡ option_map entry_in (find (λ x. p (entry_in x)) es) → (b : Bool) → p (entry_in e) ≡ b
    → cond (p (entry_in e)) (Some (entry_in e)) (find p (map entry_in es)) ≡ option_map entry_in (cond (p (entry_in e)) (Some e) (find (λ x. p (entry_in x)) es))
chosen p e es others true h =
    ap (λ c. cond c (Some (entry_in e)) (find p (map entry_in es))) h ∙ sym (ap (λ c. option_map entry_in (cond c (Some e) (find (λ x. p (entry_in x)) es))) h)
chosen p e es others false h =
    ap (λ c. cond c (Some (entry_in e)) (find p (map entry_in es))) h ∙ others ∙ sym (ap (λ c. option_map entry_in (cond c (Some e) (find (λ x. p (entry_in x)) es))) h)

found : (p : Named → Bool) (es : List Entry) → find p (map entry_in es) ≡ option_map entry_in (find (λ e. p (entry_in e)) es)
found p [] = refl
found p (e ∷ es) = chosen p e es (found p es) (p (entry_in e)) refl

second : (r : Option Entry) → option_map (λ e. e.name.now) r ≡ option_map (λ e. e.1) (option_map entry_in r)
second None = refl
second (Some e) = refl

pub name_found : (es : List Entry) (w : List ℕ) (r : Option Entry) → r ≡ find (λ e. same_octets (octets_of e.identifier) w) es
    → option_map (λ e. e.name.now) r ≡ name_in (map entry_in es) w
name_found es w r e =
    second r ∙ ap (option_map (λ x. x.1)) (ap (option_map entry_in) e ∙ sym (found (λ x. same_octets x.0 w) es))

-- tests of what items show
pub any_map : {A : Type 0} (p : List ℕ → Bool) (view : A → List ℕ) (xs : List A) → list_any p (map view xs) ≡ list_any (λ x. p (view x)) xs
any_map p view [] = refl
any_map p view (x ∷ xs) = ap (λ b. p (view x) || b) (any_map p view xs)

-- the first item that passes, after some that don't
or_false : (a b : Bool) → (a || b) ≡ false → (a ≡ false) × (b ≡ false)
or_false true b h = absurd (false≢true (sym h))
or_false false b h = (refl, h)

one_more : (i : ℕ) → 1 + i ≡ suc i
one_more i = omega arith

pub first_passes : (p : List ℕ → Bool) (xs : List (List ℕ)) (i : ℕ) (d : List ℕ) → i < length xs → list_any p (take i xs) ≡ false → p (get_or xs i d) ≡ true
    → position_or_len p xs ≡ i
first_passes p [] i d small before here = absurd (omega arith)
first_passes p (x ∷ xs) zero d small before here = ap (λ b. cond (not b) (1 + prefix_len (λ y. not (p y)) xs) 0) here
first_passes p (x ∷ xs) (suc i) d small before here =
    let parts = or_false (p x) (list_any p (take i xs)) before in
    ap (λ b. cond (not b) (1 + prefix_len (λ y. not (p y)) xs) 0) parts.0 ∙ ap (λ n. 1 + n) (first_passes p xs i d (omega arith) parts.1 here) ∙ one_more i

chosen_position : (n m i : ℕ) → n ≡ i → i < m → cond (nat_lt n m) (Some n) None ≡ Some i
chosen_position n m i e small =
    let t : nat_lt n m ≡ true = grind (arith, nat_tests) in
    ap (λ b. cond b (Some n) None) t ∙ ap Some e

pub position_is : (p : List ℕ → Bool) (xs : List (List ℕ)) (i : ℕ) (d : List ℕ) → i < length xs → list_any p (take i xs) ≡ false → p (get_or xs i d) ≡ true
    → position p xs ≡ Some i
position_is p xs i d small before here = chosen_position (position_or_len p xs) (length xs) i (first_passes p xs i d small before here) small

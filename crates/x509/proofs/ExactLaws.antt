-- A reader of an input, to its end: what is found is all there is.
use Rattle.std.proofs.Common.{◌≡◌, List, [], ℕ, length, Result, Ok, Err, ap, subst, ◌∙◌}
use Rattle.std.specs.Prelude.{MatchResult}
use Rattle.der_base.specs.declared.rules.Rules.TheVariants.{Der}
use Rattle.der_cursor.specs.declared.cursor.Cursor.{Cursor}
use Rattle.der_cursor.specs.Cursors.{StartsAt, end_of, is_inside}
use Rattle.x509.specs.Formats.{Format, refuses, spells, start}
use Rattle.x509.specs.Readers.{ReadsExactly, ReadsToEnd, ReadsWhole, spot_of}
use Rattle.x509.proofs.FormatLaws.{IsExact, shows_one}

pub spot_is : (i : List ℕ) (c : Cursor) → StartsAt Der i c → spot_of c ≡ start i
spot_is i c s =
    ap (λ x. record { octets = x; end = end_of c; inside = is_inside c }) s.0
    ∙ ap (λ x. record { octets = i; end = x; inside = is_inside c }) s.1
    ∙ ap (λ x. record { octets = i; end = length i; inside = x }) s.2

module _ {X E T V : Type 0} (fault : X → E) (view : T → V) (f : Format E V) (exact : IsExact f) where
  abbrev IsFound : List ℕ → Result T X → Type 0
  IsFound i result = MatchResult result (λ x. spells f i (view x) []) (λ e. refuses f (start i) (fault e))

  only_value : (i : List ℕ) (result : Result T X) → IsFound i result → (v : V) → spells f i v [] → MatchResult result (λ x. view x ≡ v) (λ e. ⊥)
  only_value i (Ok x) h v s = ((shows_one f exact).one_value i (view x) v [] [] h s).0
  only_value i (Err e) h v s = (shows_one f exact).not_both (start i) v [] (fault e) s h

  only_fault : (i : List ℕ) (result : Result T X) → IsFound i result → (e : E) → refuses f (start i) e → MatchResult result (λ x. ⊥) (λ x. fault x ≡ e)
  only_fault i (Ok x) h e r = (shows_one f exact).not_both (start i) (view x) [] e h r
  only_fault i (Err x) h e r = (shows_one f exact).one_fault (start i) (fault x) e h r

  pub reads_exactly : (i : List ℕ) (result : Result T X) → MatchResult result (λ x. spells f i (view x) []) (λ e. refuses f (start i) (fault e)) → ReadsExactly fault view f i result
  reads_exactly i result h = record { found = h; only = only_value i result h; refuses = only_fault i result h }

  -- a format of a whole input, which is read from its start
  module _ (ended : (i : List ℕ) (v : V) (rest : List ℕ) → spells f i v rest → rest ≡ []) where
    found_at : (i : List ℕ) (c : Cursor) (result : Result T X) → StartsAt Der i c → ReadsWhole fault view f c result → IsFound i result
    found_at i c (Ok x) s r =
        let t = subst (λ z. spells f z (view x) r.0) s.0 r.1 in
        subst (λ z. spells f i (view x) z) (ended i (view x) r.0 t) t
    found_at i c (Err e) s r = subst (λ z. refuses f z (fault e)) (spot_is i c s) r

    pub read_exactly : (i : List ℕ) (c : Cursor) (result : Result T X) → StartsAt Der i c → ReadsToEnd fault view f c result → ReadsExactly fault view f i result
    read_exactly i c result s a = reads_exactly i result (found_at i c result s (a.reads_whole (s.3, s.4)))

-- What is read of the arguments.
use Rattle.std.proofs.Common.{◌≡◌, ◌∙◌, ◌∷◌, ℕ, Bool, true, false, List, Option, Some, None, Ok, Err, Result, IfSome, MatchOption, ap, codes, option_map, refl, subst, sym}
use Rattle.std.specs.Prelude.{unwrap_or}
use Rattle.std.specs.Borrow.{Bor}
use Rattle.std.specs.Option.{option_map_or}
use Rattle.std.specs.Result.{result_ok}
use Rattle.std.specs.Str.{bytes_eq}
use Rattle.std.specs.Str.Parse.{ParsesBool, ParsesUnsigned}
use Rattle.std.proofs.lemmas.Bool.{false_from_ne_true}
use Rattle.std.proofs.lemmas.Slice.Eq.{bytes_eq-Decides}
use Rattle.clap.specs.Words.{ReadsOne, Row}
use Rattle.der_input.specs.declared.form.Form.{Form}
use Rattle.der_print.specs.declared.style.Style.{Style}
use Rattle.der_actions.specs.declared.options.Action.{Action}
use Rattle.der_actions.specs.declared.options.Options.{Options}
use Rattle.der_cli.specs.Arguments.{Asks, IsNumberIn, IsOffsetIn, NamesForm, form_word}
use Rattle.der_cli.specs.Runs.{IsAsked}

-- a flag is the word `true`
pub flag_is : (E : Type 0) (word : Option (List ℕ)) (r : Option Bool) → (word ≡ None → r ≡ None) → ((t : List ℕ) → word ≡ Some t → ReadsOne {E = E} ParsesBool t r)
    → unwrap_or r false ≡ option_map_or (λ w. bytes_eq w (codes "true")) word false
flag_is E None r none value = ap (λ x. unwrap_or x false) (none refl)
flag_is E (Some t) (Some true) none value = ap (λ w. bytes_eq w (codes "true")) (sym (value t refl))
flag_is E (Some t) (Some false) none value = ap (λ w. bytes_eq w (codes "true")) (sym (value t refl))
flag_is E (Some t) None none value =
    let failed = value t refl in
    sym (false_from_ne_true (bytes_eq t (codes "true")) (λ e. failed.1.0 ((bytes_eq-Decides t (codes "true")).0 e)))

-- a number is read of a word of digits
pub number_is : (E : Type 0) (G : List ℕ → Result ℕ E → Type 0) (word : Option (List ℕ)) (r : Option ℕ) → ((t : List ℕ) (x : Result ℕ E) → G t x → ParsesUnsigned 64 10 t x)
    → (word ≡ None → r ≡ None) → ((t : List ℕ) → word ≡ Some t → ReadsOne G t r) → MatchOption word (r ≡ None) (λ w. IsNumberIn w r)
number_is E G None r only none value = none refl
number_is E G (Some t) (Some n) only none value = only t (Ok n) (value t refl)
number_is E G (Some t) None only none value =
    let failed = value t refl in
    only t (Err failed.0) failed.1

-- an offset is what follows the sign
pub offset_is : (E : Type 0) (word digits : List ℕ) (p : Result ℕ E) → word ≡ 64 ∷ digits → ParsesUnsigned 64 10 digits p → IsOffsetIn word (result_ok p)
offset_is E word digits (Ok n) e h = (digits, e, h)
offset_is E word digits (Err x) e h = λ others same. subst (λ d. IsNumberIn d None) (behind (sym e ∙ same)) h
  where
    behind : {a b : List ℕ} → 64 ∷ a ≡ 64 ∷ b → a ≡ b
    behind same = cc

-- a form is known by its word
pub form_is : (word : List ℕ) (r : Option Form) → ((f : Form) → word ≡ form_word f → r ≡ Some f) → IfSome r (λ f. word ≡ form_word f) → NamesForm (Some word) r
form_is word (Some f) found only = ap Some only
form_is word None found only = λ f same.
    let named : word ≡ form_word f = cc in
    let none : None ≡ Some f = found f named in
    cc

-- a word is given, since without one there is a value
pub word_given : {N : Type 0} (word : Option (Bor (List ℕ))) (found : Option (List ℕ)) (r : Option N) (d : N) → option_map (λ s. s.now) word ≡ found → (word ≡ None → r ≡ Some d)
    → r ≡ None → (w : List ℕ) × (found ≡ Some w)
word_given None found r d same unsaid none =
    let some : r ≡ Some d = unsaid refl in
    cc
word_given (Some s) found r d same unsaid none = (s.now, sym same)

given_stays : (p q : Option ℕ) → ((n : ℕ) → p ≡ Some n → q ≡ p) → IfSome p (λ n. q ≡ Some n)
given_stays None q stays = tt
given_stays (Some n) q stays = stays n refl

-- options are those that are asked for, but for the type, the table and the time
pub is_asked : (a : Action) (rows : List Row) (terminal : Style) (asked r o : Options) → Asks a rows terminal asked → r ≡ record asked { present = r.present }
    → ((n : ℕ) → asked.present ≡ Some n → r ≡ asked) → o ≡ record r { naming = o.naming; own_names = o.own_names } → IsAsked a rows terminal o
is_asked a rows terminal asked r o asks same given other =
    let present : o.present ≡ r.present = ap (λ (x : Options). x.present) other in
    record {
      asked = asked;
      asks = asks;
      others =
          other ∙ ap (λ (x : Options). record x { naming = o.naming; own_names = o.own_names }) same
          ∙ ap (λ (p : Option ℕ). record asked { naming = o.naming; own_names = o.own_names; present = p }) (sym present);
      present = given_stays asked.present o.present (λ n e. present ∙ ap (λ (x : Options). x.present) (given n e));
    }

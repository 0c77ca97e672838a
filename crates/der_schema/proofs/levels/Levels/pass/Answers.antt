use Rattle.std.proofs.Common.{◌≡◌, ℕ, ◌+◌, ◌<◌, ◌≤◌, true, Option, Some, None, List, [], ◌∷◌, ◌++◌, length, set, take}
use Rattle.std.proofs.Common.{refl, sym, ◌∙◌, ap, arith, append_assoc}
use Rattle.std.specs.List.{slice_get}
use Rattle.std.specs.Option.{is_some}
use Rattle.std.proofs.lemmas.List.{take_more_set, take-take, length-set, length-take-le, get_or-take}
use Rattle.std.proofs.lemmas.Option.{slice_get-get_or, slice_get_within, get_or_from_slice_get}
use Rattle.der_schema.specs.declared.level.Level.{Level}
use Rattle.der_schema.specs.declared.levels.Levels.{Levels}
use Rattle.der_schema.specs.Levels.{levels_of}
use Rattle.der_schema.specs.Meaning.{all_types}
use Rattle.der_schema.specs.Steps.{encoding_of}
use Rattle.der_schema.proofs.Passed.{pass_name, pass_opened, pass_whole}
use Rattle.der_schema.proofs.levels.Levels.pass.Goals as goal

-- the level that is there
there : (o : Option Level) → is_some o ≡ true → (l : Level) × (o ≡ Some l)
there (Some l) h = (l, refl)
there None h = absurd (cc)

-- what is among the first places is in its place
in_place : (n : ℕ) (xs : List Level) (k : ℕ) (l : Level) → n ≤ length xs → slice_get (take n xs) k ≡ Some l
    → slice_get xs k ≡ Some l
in_place n xs k l le get =
    let before : k < n = omega (arith, slice_get_within (take n xs) k l get, length-take-le n xs le) in
    let within : k < length xs = omega (arith, before, le) in
    slice_get-get_or xs k l within
    ∙ ap Some (sym (get_or-take n xs k l before) ∙ get_or_from_slice_get (take n xs) k l l get)

-- two places are written, and what is behind them is left out
two_set : (xs : List Level) (k n : ℕ) (a b : Level) → k + 1 < length xs → k ≤ n
    → take (k + 2) (set (set xs k a) (k + 1) b) ≡ take k (take n xs) ++ a ∷ b ∷ []
two_set xs k n a b within le =
    let ys = set xs k a in
    let fits : k + 1 < length ys = omega (arith, within, length-set xs k a) in
    let e : k + 2 ≡ k + 1 + 1 = omega arith in
    ap (λ (m : ℕ). take m (set ys (k + 1) b)) e ∙ take_more_set ys (k + 1) b fits
    ∙ ap (λ (l : List Level). l ++ b ∷ []) (take_more_set xs k a (omega (arith, within)))
    ∙ append_assoc (take k xs) (a ∷ []) (b ∷ [])
    ∙ ap (λ (l : List Level). l ++ a ∷ b ∷ []) (sym (take-take k n xs le))

-- the level of an element, and that it is in its place
record At (ls : Levels) (k : ℕ) : Type 0 where
  level : Level
  get : slice_get (levels_of ls) k ≡ Some level
  place : slice_get ls.cells.levels k ≡ Some level
  before : k < ls.len

at : (ls : Levels) (k : ℕ) (o : Option Level) → o ≡ slice_get (levels_of ls) k → is_some o ≡ true → At ls k
at ls k o e some =
    let l = there o some in
    let le : ls.len ≤ length ls.cells.levels = omega (arith, ls.bounded, ls.sized) in
    let get : slice_get (levels_of ls) k ≡ Some l.0 = sym e ∙ l.1 in
    record {
      level = l.0;
      get = get;
      place = in_place ls.len ls.cells.levels k l.0 le get;
      before = omega (arith, slice_get_within (levels_of ls) k l.0 get, length-take-le ls.len ls.cells.levels le);
    }

pub returns-clause-opened : goal.returns-clause-opened
returns-clause-opened c shallow =
    let levels = c.args.self.now in
    let k = c.args.element.now.depth in
    let here = at levels k c.level_at.result c.level_at.ensures c.if-is_none.ensures in
    let st = c.pass-step.result in
    pass_opened (all_types c.args.known.now.types.now) (levels_of levels) _ k here.level
    (encoding_of c.args.known.now c.args.element.now) st here.get (c.pass-step.ensures.step here.level here.place)
    (ap (take (k + 2)) c.pass-step.ensures.cells
    ∙ two_set levels.cells.levels k levels.len st.after st.inside (omega (arith, levels.sized, shallow))
    (omega (arith, here.before)))

pub returns-clause-whole : goal.returns-clause-whole
returns-clause-whole c shallow =
    let levels = c.args.self.now in
    let k = c.args.element.now.depth in
    let here = at levels k c.level_at.result c.level_at.ensures c.if-is_none.ensures in
    c.is_whole_inside-self.ensures
    ∙ pass_whole (all_types c.args.known.now.types.now) (levels_of levels) k here.level
    (encoding_of c.args.known.now c.args.element.now) levels.whole here.get

pub returns-clause-name : goal.returns-clause-name
returns-clause-name c shallow =
    let levels = c.args.self.now in
    let k = c.args.element.now.depth in
    let here = at levels k c.level_at.result c.level_at.ensures c.if-is_none.ensures in
    pass_name (all_types c.args.known.now.types.now) (levels_of levels) k here.level
    (encoding_of c.args.known.now c.args.element.now) c.pass-step.result here.get
    (c.pass-step.ensures.step here.level here.place)

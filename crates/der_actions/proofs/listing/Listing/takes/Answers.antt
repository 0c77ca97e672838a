use Rattle.std.proofs.Common.{[], ◌∷◌, ◌++◌, ◌∙◌, IsTrue, ap, subst, sym}
use Rattle.std.specs.Prelude.{◌↔◌, ◌||◌}
use Rattle.der_elements.specs.Walked.{visited_of}
use Rattle.der_actions.specs.Places.{FollowsPath, IsAsked, around_after, is_listed}
use Rattle.der_actions.proofs.Choosing.{chosen_more}
use Rattle.der_actions.proofs.listing.Listing.takes.Goals as goal

pub returns : goal.returns
returns c =
    λ s i o vs us h index named.
    let v = visited_of c.args.element.now in
    let self = c.args.self.now in
    let asked = c.in_ok-asked.asked in
    let taken = c.is_listed-taken.result in
    let keeps = c.in_ok-follow.ensures.keeps in
    let path = c.in_ok-follow.ensures.follows vs (subst (λ p. FollowsPath p self.trail vs) (sym h.place) h.trail) index in
    let place = keeps.0 ∙ h.place in
    let around = c.around_after-self.ensures ∙ ap (λ a. around_after a asked v.depth) keeps.2 in
    chosen_more s i o self _ vs us v asked taken h keeps.0 keeps.1 around
    (subst (λ p. FollowsPath p c.follow.new.self.trail (vs ++ v ∷ [])) place path)
    (subst (λ p. IsTrue asked ↔ IsAsked s i p vs v) place (c.in_ok-asked.ensures s i vs path named))
    (c.is_listed-taken.ensures ∙ ap (λ a. is_listed a c.follow.new.self.depth v.depth) around ∙ ap (λ most. is_listed (around_after self.around asked v.depth) most v.depth) keeps.1)
    (c.either-self.ensures ∙ ap (λ b. b || taken) keeps.3)

-- The laws, as the definitions state them.
use Rattle.std.proofs.Common.{◌≢◌, ℕ, ◌≤◌, List, [], length, refl, sym, subst, ◌∙◌}
use Rattle.der_base.specs.Laws.{AreGroups, HaveOneBerRefusal, HaveOneDerRefusal, OctetsAreShortest, LengthsAreShortest, IntegersAreShortest, MinimalIsShortest, GroupsAreShortest}
use Rattle.der_base.specs.LeafRefusal.{ber_tests, der_tests}
use Rattle.der_base.specs.Octets.{octets, groups}
use Rattle.der_base.proofs.AllByRecursion.{each_from_all, all_from_each}
use Rattle.der_base.proofs.Octets.Identifiers.{number_octets}
use Rattle.der_base.proofs.Leaves.Refusals.{first_refusal_once}
use Rattle.der_base.proofs.Octets.MinimalIntegers.{minimal_fewest, minimal_one, fewest_minimal, some_of_minimal}
use Rattle.der_base.proofs.Octets.Shortest.{IsOctet, octets_are, octets_fewest, number_same, shortest_length_are}
use Rattle.der_base.proofs.Octets.Shortest.{shortest_length_spells, shortest_length_fewest, shortest_length_one}
use Rattle.der_base.proofs.Octets.Shortest.{shortest_integer_are, shortest_integer_some, integer_shortest}
use Rattle.der_base.proofs.Octets.Shortest.{shortest_integer_fewest, shortest_integer_one, groups_are, groups_spell}
use Rattle.der_base.proofs.Octets.Shortest.{groups_fewest, groups_one}

pub one_ber_refusal : HaveOneBerRefusal
one_ber_refusal p t w e e' h g = first_refusal_once (ber_tests p t w) e e' h g

pub one_der_refusal : HaveOneDerRefusal
one_der_refusal p t w e e' h g = first_refusal_once (der_tests p t w) e e' h.1 g.1

pub octets_shortest : OctetsAreShortest
octets_shortest n = record {
  is_one = (all_from_each IsOctet (octets n) (octets_are n), number_octets n);
  fewest = λ w (are, e). subst (λ k. length (octets k) ≤ length w) e (octets_fewest w (each_from_all IsOctet w are));
  only = λ w (are, e) l. number_same w (octets n) l (each_from_all IsOctet w are) (octets_are n) (e ∙ sym (number_octets n));
}

pub lengths_shortest : LengthsAreShortest
lengths_shortest n h = record {
  is_one = (all_from_each IsOctet _ (shortest_length_are n h), shortest_length_spells n h);
  fewest = λ s (are, e). shortest_length_fewest s n e (each_from_all IsOctet s are);
  only = λ s (are, e) l. shortest_length_one s n e (each_from_all IsOctet s are) l;
}

pub integers_shortest : IntegersAreShortest
integers_shortest n = record {
  is_one = (all_from_each IsOctet _ (shortest_integer_are n), shortest_integer_some n, integer_shortest n);
  fewest = λ w (are, some, e). shortest_integer_fewest w n (each_from_all IsOctet w are) some e;
  only = λ w (are, some, e) l. shortest_integer_one w n (each_from_all IsOctet w are) e l;
}

pub minimal_shortest : MinimalIsShortest
minimal_shortest w are = (
  (λ m. record {
    is_one = (are, some_of_minimal w m, refl);
    fewest = λ v (also, some, e). minimal_fewest w v (each_from_all IsOctet w are) (each_from_all IsOctet v also) m some e;
    only = λ v (also, some, e) l. minimal_one w v (each_from_all IsOctet w are) (each_from_all IsOctet v also) m e l;
  }),
  (λ s. fewest_minimal w (each_from_all IsOctet w are) s.is_one.1 (λ v also some e. s.fewest v (all_from_each IsOctet v also, some, e))),
)

groups_some : (bs : List ℕ) → AreGroups bs → bs ≢ []
groups_some bs h e = subst AreGroups e h

pub groups_shortest : GroupsAreShortest
groups_shortest n = record {
  is_one = (groups_are n, groups_spell n);
  fewest = λ bs (h, e). subst (λ k. length (groups k) ≤ length bs) e (groups_fewest bs (groups_some bs h));
  only = λ bs (h, e) l. groups_one bs n h e l;
}

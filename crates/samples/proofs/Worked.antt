-- The worked samples, by computed tests.
use Rattle.std.proofs.Common.{◌≡◌, ℕ, ◌↔◌, List, [], ◌∷◌, sym, refl, subst, inl, inr}
use lib.Count.{ones, ones_in}
use Rattle.theory.specs.declared.wish.Wish.{Wish}
use Rattle.theory.specs.declared.wish.Wish.TheVariants.{Clear, Fine, Word, Least}
use Rattle.theory.specs.Keys.{homes, Standard}
use Rattle.theory.specs.Tallies.{tally}
use Rattle.theory.proofs.Twin.{twin_fact}
use Rattle.finding.specs.Walks.{keys_from, all_keys}
use Rattle.finding.specs.Listing.{In}
use Rattle.finding.proofs.Standard.{keys_listed}
use Rattle.samples.specs.Samples.{Left, layers, factors, Ap, Aq, pq, Apr, first, second, third, other, OneAndThree, OneAndOne, NoTwoAndOne, SampleFact}
use Rattle.samples.proofs.Tested.{passed, meets, all_meet, sound_by, twins_by, passing, in_passing, passing_in}

-- the standard keys are those that the walk gives
standard_by : (w s n1 n2 : ℕ) (keys : List (List ℕ)) → all_keys w s n1 n2 ≡ keys → (key : List ℕ) → Standard (w ∷ s ∷ []) (homes (n1 ∷ n2 ∷ [])) key ↔ In key keys
standard_by w s n1 n2 keys e key =
    let m = (keys_listed w s n1 n2).members key in
    (λ k. subst (In key) e (m.1 k), λ h. m.0 (subst (In key) (sym e) h))

abbrev keys : List (List ℕ)
keys = first ∷ second ∷ third ∷ []

three : (key : List ℕ) → Standard layers factors key ↔ In key keys
unfolding keys_from
three = standard_by 2 1 1 3 keys refl

-- the standard keys that pass the test of the wishes are left
left_by : (wishes : List Wish) {left : List (List ℕ)} → passing (λ key. all_meet layers key wishes) keys ≡ left → Left layers factors wishes left
left_by wishes e key = (
  λ k. subst (In key) e (in_passing (λ key. all_meet layers key wishes) key keys ((three key).0 k.0) k.1),
  λ h. let r = passing_in (λ key. all_meet layers key wishes) key keys (subst (In key) (sym e) h) in ((three key).1 r.0, r.1),
)

one_and_three : OneAndThree
unfolding tally ones ones_in
one_and_three = record {
  standard = three;
  defining = refl;
  counts = refl;
  sub = (refl, refl);
  whole = (refl, refl);
  clear = left_by (Clear Ap ∷ []) refl;
  both_clear = left_by (Clear Ap ∷ Clear Aq ∷ []) refl;
  fine = left_by (Fine pq ∷ []) refl;
  word = left_by (Word Apr ∷ []) refl;
  sound = sound_by layers factors other refl refl;
  twin = ((three third).1 (inr (inr (inl refl))), twins_by layers 4 other third refl);
}

one_and_one : OneAndOne
unfolding keys_from ones ones_in
one_and_one = record {
  standard = standard_by 1 1 1 1 ((1 ∷ 2 ∷ []) ∷ []) refl;
  unresolved = refl;
  least = passed (meets (1 ∷ 1 ∷ []) (1 ∷ 2 ∷ []) (Least 10)) refl;
}

-- a sound key would have a standard twin, and there is no standard key
no_two_and_one : NoTwoAndOne
unfolding keys_from
no_two_and_one key k = let t = twin_fact (1 ∷ 1 ∷ []) (homes (2 ∷ 1 ∷ [])) key k in (standard_by 1 1 2 1 [] refl t.0).0 t.1

pub sample_fact : SampleFact
sample_fact = record { one_and_three = one_and_three; one_and_one = one_and_one; two_and_one = no_two_and_one }

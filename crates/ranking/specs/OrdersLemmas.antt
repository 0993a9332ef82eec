-- Orders made of orders, and what follows from the law of order alone. The lemmas stand in specs/ since the laws of impls
-- cite them.
use Rattle.std.specs.Prelude.{◌≡◌, ◌≢◌, false, refl}
use Rattle.std.specs.declared.cmp.Ordering.{Ordering}
use Rattle.std.specs.declared.cmp.Ordering.TheVariants.{Less, Equal, Greater}
use Rattle.std.specs.Ordering.{ordering_reverse, is_gt}
use Rattle.std.specs.Cmp.{IsTotalOrder}
use Rattle.std.proofs.Common.{ap, subst, true≢false}
use Rattle.std.proofs.lemmas.Cmp.{nat_cmp_total, tied_itself, upto}
use Rattle.ranking.specs.declared.verdict.Verdict.{Verdict}
use Rattle.ranking.specs.declared.verdict.Verdict.TheVariants.{Better, Level, Worse}
use Rattle.ranking.specs.Verdicts.{swapped, HoldsUp, first_decisive, verdict_of, fewer}
use Rattle.ranking.specs.Orders.{Order}
use Rattle.ranking.specs.Aberrations.{fewest}
use Rattle.ranking.specs.Weights.{worthier}
use Rattle.ranking.specs.Piles.{in_turn}

-- an order seen through a function
pub through : {S T : Type 0} {ranks : S → S → Verdict} (f : T → S) → Order ranks → Order (λ x y. ranks (f x) (f y))
through f o = record {
  self_level = λ x. o.self_level (f x);
  exchange = λ x y. o.exchange (f x) (f y);
  transitive = λ x y z. o.transitive (f x) (f y) (f z);
}

-- what ranked better ranks worse
pub reversed : {S : Type 0} {ranks : S → S → Verdict} → Order ranks → Order (λ x y. ranks y x)
reversed o = record {
  self_level = o.self_level;
  exchange = λ x y. o.exchange y x;
  transitive = λ x y z h k. o.transitive z y x k h;
}

-- ---- where less is better

reversed_swaps : (r : Ordering) → verdict_of (ordering_reverse r) ≡ swapped (verdict_of r)
reversed_swaps Less = refl
reversed_swaps Equal = refl
reversed_swaps Greater = refl

not_greater : (r : Ordering) → HoldsUp (verdict_of r) → is_gt r ≡ false
not_greater Less up = refl
not_greater Equal up = refl
not_greater Greater up = absurd up

holds_up : (r : Ordering) → is_gt r ≡ false → HoldsUp (verdict_of r)
holds_up Less h = tt
holds_up Equal h = tt
holds_up Greater h = absurd (true≢false h)

-- of what a total order compares the lesser is better
pub of_total : {S : Type 0} {cmp : S → S → Ordering} → IsTotalOrder cmp → Order (λ x y. verdict_of (cmp x y))
of_total {S} {cmp} o = record {
  self_level = λ x. ap verdict_of (tied_itself o x);
  exchange = λ x y. rw (o.antisymm y x) (reversed_swaps (cmp x y));
  transitive = λ x y z h k. holds_up (cmp x z) (upto o x y z (not_greater (cmp x y) h) (not_greater (cmp y z) k));
}

-- of two numbers the smaller is better
pub fewer_order : Order fewer
fewer_order = of_total nat_cmp_total

-- ---- one order after another

level_first : (a b : Verdict) → a ≡ Level → b ≡ Level → first_decisive a b ≡ Level
level_first a b p q = rw (p, q)

swap_first : (a b : Verdict) → first_decisive (swapped a) (swapped b) ≡ swapped (first_decisive a b)
swap_first Better b = refl
swap_first Level b = refl
swap_first Worse b = refl

-- what is not worse by a, or where a is level by p, is not worse by a
first_up : (a p : Verdict) → HoldsUp (first_decisive a p) → HoldsUp a
first_up Better p up = tt
first_up Level p up = tt
first_up Worse p up = up

-- nor by p, where a exchanged is not worse either
next_up : (a p : Verdict) → HoldsUp (first_decisive a p) → HoldsUp (swapped a) → HoldsUp p
next_up Better p up back = absurd back
next_up Level p up back = up
next_up Worse p up back = absurd up

-- What is not worse, in one order after another. The verdicts on x and y, y and z, x and z are a, b and c in the first
-- order, and p, q and r in the second.
joined : (a b c p q r : Verdict) →
    (HoldsUp a → HoldsUp b → HoldsUp c) →
    (HoldsUp b → HoldsUp (swapped c) → HoldsUp (swapped a)) →
    (HoldsUp (swapped c) → HoldsUp a → HoldsUp (swapped b)) →
    (HoldsUp p → HoldsUp q → HoldsUp r) →
    HoldsUp (first_decisive a p) → HoldsUp (first_decisive b q) → HoldsUp (first_decisive c r)
joined a b Better p q r xyz yzx zxy second h k = tt
joined a b Level p q r xyz yzx zxy second h k = second (next_up a p h (yzx (first_up b q k) tt)) (next_up b q k (zxy tt (first_up a p h)))
joined a b Worse p q r xyz yzx zxy second h k = xyz (first_up a p h) (first_up b q k)

-- better, and then not worse, is better: a, b and c as above
strictly : (a b c : Verdict) → (HoldsUp b → HoldsUp (swapped c) → HoldsUp (swapped a)) → a ≡ Better → HoldsUp b → c ≡ Better
strictly a b Better yzx e h = refl
strictly a b Level yzx e h = absurd (subst (λ v. HoldsUp (swapped v)) e (yzx h tt))
strictly a b Worse yzx e h = absurd (subst (λ v. HoldsUp (swapped v)) e (yzx h tt))

-- what is not better is not worse once the two are exchanged
turned : (a : Verdict) → (a ≢ Better) → HoldsUp (swapped a)
turned Better h = h refl
turned Level h = tt
turned Worse h = tt

-- ---- what a search needs
module _ {S : Type 0} {ranks : S → S → Verdict} (o : Order ranks) where
  -- what is better than y is better than all that y is not worse than
  pub better_than : (x y z : S) → ranks x y ≡ Better → HoldsUp (ranks y z) → ranks x z ≡ Better
  better_than x y z = strictly (ranks x y) (ranks y z) (ranks x z) (rw (← o.exchange x z, ← o.exchange x y) (o.transitive y z x))

  -- where y is not better than x, x is not worse than y
  pub unbeaten : (x y : S) → (ranks y x ≢ Better) → HoldsUp (ranks x y)
  unbeaten x y h = rw (o.exchange y x) (turned (ranks y x) h)

  -- nothing is worse than itself
  pub itself : (x : S) → HoldsUp (ranks x x)
  itself x = rw (o.self_level x) tt

-- ---- one order after another
module _ {S : Type 0} {first second : S → S → Verdict} (f : Order first) (s : Order second) where
  -- the first order decides, and the second where it says level
  pub piled : Order (λ x y. first_decisive (first x y) (second x y))
  piled = record {
    self_level = λ x. level_first (first x x) (second x x) (f.self_level x) (s.self_level x);
    exchange = λ x y. rw (f.exchange x y, s.exchange x y) (swap_first (first x y) (second x y));
    transitive = λ x y z. joined (first x y) (first y z) (first x z) (second x y) (second y z) (second x z) (f.transitive x y z)
        (rw (← f.exchange x z, ← f.exchange x y) (f.transitive y z x))
        (rw (← f.exchange x z, ← f.exchange y z) (f.transitive z x y))
        (s.transitive x y z);
  }

-- the order of a pile
pub in_turn_order : {S T : Type 0} {first : S → S → Verdict} {second : T → T → Verdict} → Order first → Order second → Order (in_turn first second)
in_turn_order f s = piled (through (λ x. x.0) f) (through (λ x. x.1) s)

-- the order of aberration
pub fewest_order : Order fewest
fewest_order =
    piled (through (λ x. x.a3) fewer_order)
    (piled (through (λ x. x.a4) fewer_order)
    (piled (through (λ x. x.a5) fewer_order) (through (λ x. x.a6) fewer_order)))

-- the order of a weight
pub worthier_order : Order worthier
worthier_order = piled (through (λ x. x.sum) (reversed fewer_order)) (through (λ x. x.squares) fewer_order)

-- Wishes with two factors exchanged, as the code makes and looks for them.
use Rattle.std.proofs.Common.{◌≡◌, ℕ, zero, suc, ◌+◌, ◌-◌, ◌*◌, ◌/◌, ◌%◌, ◌^◌, ◌<◌, ◌≤◌, Bool, true, false, cond, ltb, min, max, ◌≢◌, ◌⊎◌, List, get_or, Some, All, Decides, sym, refl, ap, ◌∙◌, subst, ap₂, lt_of_lt_of_le, arith, pow_mono, inl, inr}
use Rattle.std.specs.Int.{bit_at}
use Rattle.std.proofs.lemmas.Nat.Bits.{bit_at_lowest, bit_at-suc, bit_at-lt, bit_at_or, bit_at_xor, bit_at-pow_same, bit_at-pow_other, same_from_bits}
use native.Mathlib.Decide.{dec_lt}
use lib.Bits.{bit_xor, bit_or}
use Rattle.std.specs.List.{list_all}
use Rattle.std.proofs.lemmas.Bool.Decides.{Decides-by_and}
use Rattle.std.proofs.lemmas.List.Elements.{All-contains, Contains-from_at, Contains-get_or, at_from_Contains}
use Rattle.std.proofs.lemmas.Nat.{one_shl}
use Rattle.std.proofs.lemmas.Bool.{false≢true, cases_lt, cases_eq, cases_order, lt-ltb, le-ltb}
use Rattle.theory.specs.declared.wish.Wish.{Wish}
use Rattle.theory.specs.declared.wish.Wish.TheVariants.{Clear, Apart, Fine, Word, Least}
use Rattle.theory.specs.Wishes.{Low, Formed}
use Rattle.theory.proofs.Homes.{length_homes, home_whole, home_sub}
use Rattle.opening.specs.declared.Shape.{Shape}
use Rattle.opening.specs.Shapes.{homes_of, factors_of, home_of}
use Rattle.opening.proofs.Homes.{home_named, same_layer}
use Rattle.theory.specs.Strata.{stratum_named}
use Rattle.exchange.specs.Exchanges.{effect_turned, apart_in_order, wish_turned, wish_over, wish_exchanged, Blind}
use Rattle.exchange.specs.Outdoing.{Exchangeable}
use Rattle.wishes.specs.Lists.{stands}
use Rattle.wishes.specs.Exchanging.{IsExchanged}
use Rattle.wishes.proofs.Listed.{stands_has}

-- ---- one effect, by its bits

-- what holds of the upper bits holds of all, with the lowest bit as it is
raise : (i e : ℕ) → IsExchanged i (suc i) (e / 2) (effect_turned i (e / 2)) → IsExchanged (suc i) (suc (suc i)) e (effect_turned (suc i) e)
raise i e low = record { first = above i ∙ low.first ∙ sym (bit_at-suc e (suc i)); second = above (suc i) ∙ low.second ∙ sym (bit_at-suc e i); others = others }
  where
    above : (k : ℕ) → bit_at (effect_turned (suc i) e) (suc k) ≡ bit_at (effect_turned i (e / 2)) k
    above k = let half : effect_turned (suc i) e / 2 ≡ effect_turned i (e / 2) = omega arith in bit_at-suc (effect_turned (suc i) e) k ∙ ap (λ (x : ℕ). bit_at x k) half

    others : (k : ℕ) → k ≢ suc i → k ≢ suc (suc i) → bit_at (effect_turned (suc i) e) k ≡ bit_at e k
    others zero n m = omega (arith, bit_at_lowest (effect_turned (suc i) e), bit_at_lowest e)
    others (suc k) n m = above k ∙ low.others k (λ h. n (ap suc h)) (λ h. m (ap suc h)) ∙ sym (bit_at-suc e k)

-- two neighbours exchanged
turned_bits : (i e : ℕ) → IsExchanged i (suc i) e (effect_turned i e)
turned_bits zero e = record {
  first = omega (arith, bit_at_lowest (effect_turned zero e), bit_at-suc e 0, bit_at_lowest (e / 2));
  second = omega (arith, bit_at-suc (effect_turned zero e) 0, bit_at_lowest (effect_turned zero e / 2), bit_at_lowest e);
  others = others;
}
  where
    rest : effect_turned zero e / 2 / 2 ≡ e / 2 / 2
    rest = omega arith

    others : (k : ℕ) → k ≢ 0 → k ≢ 1 → bit_at (effect_turned zero e) k ≡ bit_at e k
    others zero n m = absurd (n refl)
    others (suc zero) n m = absurd (m refl)
    others (suc (suc k)) n m =
        bit_at-suc (effect_turned zero e) (suc k) ∙ bit_at-suc (effect_turned zero e / 2) k ∙ ap (λ (x : ℕ). bit_at x k) rest
        ∙ sym (bit_at-suc e (suc k) ∙ bit_at-suc (e / 2) k)
turned_bits (suc i) e = raise i e (turned_bits i (e / 2))

-- two factors exchanged, neighbour by neighbour
abbrev effect_over : ℕ → ℕ → ℕ → ℕ
effect_over zero i e = effect_turned i e
effect_over (suc between) i e = effect_turned i (effect_over between (suc i) (effect_turned i e))

over_bits : (between i j e : ℕ) → j ≡ suc (between + i) → IsExchanged i j e (effect_over between i e)
over_bits zero i j e is = subst (λ (j : ℕ). IsExchanged i j e (effect_turned i e)) (omega arith) (turned_bits i e)
over_bits (suc between) i j e is =
    join e (effect_turned i e) (effect_over between (suc i) (effect_turned i e)) (effect_over (suc between) i e) (turned_bits i e)
    (over_bits between (suc i) j (effect_turned i e) (omega arith)) (turned_bits i (effect_over between (suc i) (effect_turned i e)))
  where
    join : (e a m l : ℕ) → IsExchanged i (suc i) e a → IsExchanged (suc i) j a m → IsExchanged i (suc i) m l → IsExchanged i j e l
    join e a m l x y z =
        let out : j ≢ i = omega arith in
        let far : j ≢ suc i = omega arith in
        let near : i ≢ suc i = omega arith in
        let here : i ≢ j = omega arith in
        record {
          first = z.first ∙ y.first ∙ x.others j out far;
          second = z.others j out far ∙ y.second ∙ x.second;
          others = λ k n m. go k n m (cases_eq k (suc i));
        }
      where
        go : (k : ℕ) → k ≢ i → k ≢ j → (k ≡ suc i) ⊎ (k ≢ suc i) → bit_at l k ≡ bit_at e k
        go k n q (inl h) =
            let near : i ≢ suc i = omega arith in
            let here : i ≢ j = omega arith in
            ap (bit_at l) h ∙ z.second ∙ y.others i near here ∙ x.first ∙ ap (bit_at e) (sym h)
        go k n q (inr h) = z.others k n h ∙ y.others k h q ∙ x.others k n h

-- the two bits the other way round, where they differ, as the code makes them
pub bits_differ : (i j e : ℕ) → i < j → j < 10 → bit_at e i ≢ bit_at e j → IsExchanged i j e (bit_xor e (bit_or ((1 * 2 ^ i) % 65536) ((1 * 2 ^ j) % 65536)))
bits_differ i j e order within differ =
    rw (one_shl i 16 (omega arith), one_shl j 16 within') (record {
      first = omega (arith, bits i, bit_at-pow_same i, bit_at-pow_other j i (omega arith), bit_at-lt e i, bit_at-lt e j);
      second = omega (arith, bits j, bit_at-pow_same j, bit_at-pow_other i j (omega arith), bit_at-lt e i, bit_at-lt e j);
      others = λ k n m. omega (arith, bits k, bit_at-pow_other i k n, bit_at-pow_other j k m, bit_at-lt e k);
    })
  where
    within' : j < 16
    within' = omega arith

    bits : (k : ℕ) → bit_at (bit_xor e (bit_or (2 ^ i) (2 ^ j))) k ≡ (bit_at e k + max (bit_at (2 ^ i) k) (bit_at (2 ^ j) k)) % 2
    bits k = bit_at_xor e (bit_or (2 ^ i) (2 ^ j)) k ∙ ap (λ (x : ℕ). (bit_at e k + x) % 2) (bit_at_or (2 ^ i) (2 ^ j) k)

-- the bits tell the effect
one_exchanged : (i j e x y : ℕ) → IsExchanged i j e x → IsExchanged i j e y → x ≡ y
one_exchanged i j e x y a b = same_from_bits x y (λ k. go k (cases_eq k i) (cases_eq k j))
  where
    go : (k : ℕ) → (k ≡ i) ⊎ (k ≢ i) → (k ≡ j) ⊎ (k ≢ j) → bit_at x k ≡ bit_at y k
    go k (inl h) c = ap (bit_at x) h ∙ a.first ∙ sym b.first ∙ ap (bit_at y) (sym h)
    go k (inr n) (inl h) = ap (bit_at x) h ∙ a.second ∙ sym b.second ∙ ap (bit_at y) (sym h)
    go k (inr n) (inr m) = a.others k n m ∙ sym (b.others k n m)

-- ---- one wish

-- a wish of some factors is one of more
pub formed_more : {m n : ℕ} → m ≤ n → (wish : Wish) → Formed m wish → Formed n wish
formed_more {m} {n} h wish = go wish
  where
    wider : (e : ℕ) → e < 2 ^ m → e < 2 ^ n
    wider e l = lt_of_lt_of_le l (pow_mono h)

    low_more : (e : ℕ) → Low m e → Low n e
    low_more e l = (wider e l.0, l.1, l.2)

    go : (wish : Wish) → Formed m wish → Formed n wish
    go (Clear e) k = (wider e k.0, k.1)
    go (Apart e f) k = (k.0, low_more e k.1, low_more f k.2)
    go (Fine e) k = low_more e k
    go (Word e) k = (wider e k.0, k.1)
    go (Least r) k = k

-- ---- a wish, effect by effect
in_any_order : (e f : ℕ) → apart_in_order e f ≡ apart_in_order f e
in_any_order e f = go (cases_order e f)
  where
    go : (e ≡ f) ⊎ ((e < f) ⊎ (f < e)) → apart_in_order e f ≡ apart_in_order f e
    go (inl same) = rw same refl
    go (inr (inl l)) = rw (lt-ltb e f l, le-ltb f e (omega arith)) refl
    go (inr (inr l)) = rw (le-ltb e f (omega arith), lt-ltb f e l) refl

-- the wish with each effect as the function has it
abbrev mapped : (ℕ → ℕ) → Wish → Wish
mapped on (Clear e) = Clear (on e)
mapped on (Apart e f) = apart_in_order (on e) (on f)
mapped on (Fine e) = Fine (on e)
mapped on (Word e) = Word (on e)
mapped on (Least r) = Least r

mapped_twice : (on by : ℕ → ℕ) (wish : Wish) → mapped on (mapped by wish) ≡ mapped (λ e. on (by e)) wish
mapped_twice on by (Clear e) = refl
mapped_twice on by (Apart e f) = go (ltb (by e) (by f))
  where
    go : (b : Bool) → mapped on (cond b (Apart (by e) (by f)) (Apart (by f) (by e))) ≡ apart_in_order (on (by e)) (on (by f))
    go true = refl
    go false = in_any_order (on (by f)) (on (by e))
mapped_twice on by (Fine e) = refl
mapped_twice on by (Word e) = refl
mapped_twice on by (Least r) = refl

turned_mapped : (i : ℕ) (wish : Wish) → wish_turned i wish ≡ mapped (effect_turned i) wish
turned_mapped i (Clear e) = refl
turned_mapped i (Apart e f) = refl
turned_mapped i (Fine e) = refl
turned_mapped i (Word e) = refl
turned_mapped i (Least r) = refl

over_mapped : (between i : ℕ) (wish : Wish) → wish_over between i wish ≡ mapped (effect_over between i) wish
over_mapped zero i wish = turned_mapped i wish
over_mapped (suc between) i wish =
    ap (λ (x : Wish). wish_turned i (wish_over between (suc i) x)) (turned_mapped i wish)
    ∙ ap (wish_turned i) (over_mapped between (suc i) (mapped (effect_turned i) wish) ∙ mapped_twice (effect_over between (suc i)) (effect_turned i) wish)
    ∙ turned_mapped i (mapped (λ e. effect_over between (suc i) (effect_turned i e)) wish)
    ∙ mapped_twice (effect_turned i) (λ e. effect_over between (suc i) (effect_turned i e)) wish

-- ---- a wish with two factors exchanged, as the code makes it
module _ (i j : ℕ) (order : i < j) where
  abbrev effect_exchanged : ℕ → ℕ
  effect_exchanged e = effect_over (j - suc i) i e

  pub exchanged_is : (e x : ℕ) → IsExchanged i j e x → x ≡ effect_exchanged e
  exchanged_is e x is = one_exchanged i j e x (effect_exchanged e) is (over_bits (j - suc i) i j e (omega arith))

  pub clear_exchanged : (e x : ℕ) → IsExchanged i j e x → Clear x ≡ wish_exchanged i j (Clear e)
  clear_exchanged e x is = ap Clear (exchanged_is e x is) ∙ sym (over_mapped (j - suc i) i (Clear e))

  pub apart_exchanged : (e f x y : ℕ) → IsExchanged i j e x → IsExchanged i j f y → Apart (min x y) (max x y) ≡ wish_exchanged i j (Apart e f)
  apart_exchanged e f x y is are =
      go (cases_lt x y) ∙ ap₂ apart_in_order (exchanged_is e x is) (exchanged_is f y are) ∙ sym (over_mapped (j - suc i) i (Apart e f))
    where
      go : (x < y) ⊎ (y ≤ x) → Apart (min x y) (max x y) ≡ apart_in_order x y
      go (inl l) = let least : min x y ≡ x = omega arith in let most : max x y ≡ y = omega arith in rw (lt-ltb x y l, least, most) refl
      go (inr l) = let least : min x y ≡ y = omega arith in let most : max x y ≡ x = omega arith in rw (le-ltb x y l, least, most) refl

  pub fine_exchanged : (e x : ℕ) → IsExchanged i j e x → Fine x ≡ wish_exchanged i j (Fine e)
  fine_exchanged e x is = ap Fine (exchanged_is e x is) ∙ sym (over_mapped (j - suc i) i (Fine e))

  pub word_exchanged : (e x : ℕ) → IsExchanged i j e x → Word x ≡ wish_exchanged i j (Word e)
  word_exchanged e x is = ap Word (exchanged_is e x is) ∙ sym (over_mapped (j - suc i) i (Word e))

  pub least_exchanged : (r : ℕ) → Least r ≡ wish_exchanged i j (Least r)
  least_exchanged r = sym (over_mapped (j - suc i) i (Least r))

-- what `grind` needs of a wish with two factors exchanged
pub ruleset exchanges = (clear_exchanged, apart_exchanged, fine_exchanged, word_exchanged, least_exchanged)

-- ---- two factors

-- the layers of factors are those of their neighbours all along
along : (ts : List ℕ) (i d : ℕ) → ((k : ℕ) → i ≤ k → k < d + i → get_or ts k 0 ≡ get_or ts (suc k) 0) → get_or ts i 0 ≡ get_or ts (d + i) 0
along ts i zero same = ap (λ (k : ℕ). get_or ts k 0) (omega arith)
along ts i (suc d) same = along ts i d (λ k l m. same k l (omega arith)) ∙ same (d + i) (omega arith) (omega arith) ∙ ap (λ (k : ℕ). get_or ts k 0) (omega arith)

module _ (shape : Shape) (wishes : List Wish) (i j : ℕ) where
  -- both are factors of one layer, the first before the second
  abbrev Alike : Type 0
  Alike = (i < j) × (j < factors_of shape) × (home_of shape i ≡ home_of shape j)

  alike_from : Exchangeable (homes_of shape) wishes i j → Alike
  alike_from may =
      let order = may.order in
      let within : j < factors_of shape = omega (arith, length_homes shape.n1 shape.n2, may.within) in
      let layer : get_or (homes_of shape) i 0 ≡ get_or (homes_of shape) j 0 =
      along (homes_of shape) i (j - i) (λ k l m. may.alike k l (omega arith)) ∙ ap (λ (k : ℕ). get_or (homes_of shape) k 0) (omega arith) in
      (order, within, home_named shape i (omega arith) ∙ ap (λ (l : ℕ). Some (stratum_named l)) layer ∙ sym (home_named shape j within))

  -- both are whole-plot or both subplot factors, and so are those between them
  between : Alike → (k : ℕ) → i ≤ k → k < j → get_or (homes_of shape) k 0 ≡ get_or (homes_of shape) (suc k) 0
  between (order, within, homes) k l m = go (dec_lt j shape.n1) (dec_lt i shape.n1)
    where
      same : get_or (homes_of shape) i 0 ≡ get_or (homes_of shape) j 0
      same = same_layer shape i j (omega arith) within homes

      whole : (x : ℕ) → x < shape.n1 → get_or (homes_of shape) x 0 ≡ 1
      whole x h = home_whole shape.n1 shape.n2 x h

      sub : (x : ℕ) → shape.n1 ≤ x → x < factors_of shape → get_or (homes_of shape) x 0 ≡ 2
      sub x h g = home_sub shape.n1 shape.n2 x h g

      go : Dec (j < shape.n1) → Dec (i < shape.n1) → get_or (homes_of shape) k 0 ≡ get_or (homes_of shape) (suc k) 0
      go (yes h) q = whole k (omega arith) ∙ sym (whole (suc k) (omega arith))
      go (no h) (yes g) = absurd (omega (arith, same, whole i g, sub j (omega arith) within))
      go (no h) (no g) = sub k (omega arith) (omega arith) ∙ sym (sub (suc k) (omega arith) (omega arith))

  -- a wish with the two exchanged stands
  abbrev pub kept : Wish → Bool
  kept wish = stands wishes (wish_exchanged i j wish)

  kept_blind : Decides (list_all kept wishes) (Blind i j wishes)
  kept_blind = (
    λ t wish has. (stands_has wishes (wish_exchanged i j wish)).0 (All-contains (λ x. kept x ≡ true) wishes wish (each.0 t) (Contains-from_at wishes wish has)),
    λ blind. each.1 (λ k d h. (stands_has wishes (wish_exchanged i j (get_or wishes k d))).1 (blind (get_or wishes k d) (at_from_Contains wishes (get_or wishes k d) (Contains-get_or wishes k d h)))),
  )
    where
      each : Decides (list_all kept wishes) (All (λ x. kept x ≡ true) wishes)
      each = Decides-by_and kept (λ x. kept x ≡ true) (list_all kept) (λ x. (λ t. t, λ t. t)) refl (λ _ _. refl) wishes

  -- ---- the test, as the code makes it
  pub exchange_decided : (r : Bool) → Alike → r ≡ list_all kept wishes → Decides r (Exchangeable (homes_of shape) wishes i j)
  exchange_decided r alike is = (
    λ t. record { order = alike.0; within = omega (arith, length_homes shape.n1 shape.n2, alike.1); alike = between alike; blind = kept_blind.0 (sym is ∙ t) },
    λ may. is ∙ kept_blind.1 may.blind,
  )

  pub exchange_refused : (Alike → ⊥) → Decides false (Exchangeable (homes_of shape) wishes i j)
  exchange_refused unlike = (λ t. absurd (false≢true t), λ may. absurd (unlike (alike_from may)))

-- Effects with two neighbouring factors turned round: lengths and aliases.
use Rattle.std.proofs.Common.{◌≡◌, ℕ, zero, suc, ◌+◌, ◌*◌, ◌/◌, ◌%◌, ◌^◌, ◌<◌, List, [], ◌∷◌, length, sym, refl, ap, ◌∙◌, ap₂, pow-suc, arith}
use lib.Bits.{bit_xor, xor_assoc, xor_comm}
use lib.Count.{ones, ones_step}
use Rattle.theory.specs.Words.{alias}
use Rattle.exchange.specs.Exchanges.{turned, effect_turned}

-- ---- the lowest two bits of a turned effect, and what stands above
first_bit : (e : ℕ) → effect_turned zero e % 2 ≡ e / 2 % 2
first_bit e = omega arith

second_bit : (e : ℕ) → effect_turned zero e / 2 % 2 ≡ e % 2
second_bit e = omega arith

rest : (e : ℕ) → effect_turned zero e / 2 / 2 ≡ e / 2 / 2
rest e = omega arith

pair_mod : (x e : ℕ) → (x * 2 + e % 2) % 2 ≡ e % 2
pair_mod x e = omega arith

pair_div : (x e : ℕ) → (x * 2 + e % 2) / 2 ≡ x
pair_div x e = omega arith

-- ---- turned twice, it is the same again
pub length_turned : (i : ℕ) (cs : List ℕ) → length (turned i cs) ≡ length cs
length_turned zero [] = refl
length_turned (suc i) [] = refl
length_turned zero (c ∷ []) = refl
length_turned zero (c ∷ d ∷ cs) = refl
length_turned (suc i) (c ∷ cs) = ap suc (length_turned i cs)

pub effect_twice : (i e : ℕ) → effect_turned i (effect_turned i e) ≡ e
effect_twice zero e = omega (arith, first_bit e, second_bit e, rest e)
effect_twice (suc i) e =
    ap₂ (λ (x y : ℕ). effect_turned i x * 2 + y) (pair_div (effect_turned i (e / 2)) e) (pair_mod (effect_turned i (e / 2)) e)
    ∙ omega (arith, effect_twice i (e / 2))

-- ---- length, bound and alias
pub ones_turned : (i e : ℕ) → ones (effect_turned i e) ≡ ones e
ones_turned zero e =
    let a = ones_step (effect_turned zero e) in
    let b = ones_step (effect_turned zero e / 2) in
    let x : ones (effect_turned zero e / 2 / 2) ≡ ones (e / 2 / 2) = ap ones (rest e) in
    omega (arith, ones_step e, ones_step (e / 2), first_bit e, second_bit e)
ones_turned (suc i) e =
    let a = ones_step (effect_turned (suc i) e) in
    let x : ones (effect_turned (suc i) e / 2) ≡ ones (effect_turned i (e / 2)) = ap ones (pair_div (effect_turned i (e / 2)) e) in
    omega (arith, ones_step e, ones_turned i (e / 2), pair_mod (effect_turned i (e / 2)) e)

pub turned_below : (i n e : ℕ) → suc i < n → e < 2 ^ n → effect_turned i e < 2 ^ n
turned_below i zero e l h = absurd (omega arith)
turned_below zero (suc zero) e l h = absurd (omega arith)
turned_below zero (suc (suc n)) e l h =
    let a : e / 2 < 2 ^ suc n = omega (arith, pow-suc 2 (suc n)) in
    let b : e / 2 / 2 < 2 ^ n = omega (arith, pow-suc 2 n) in
    let c : e / 2 / 2 * 2 + e % 2 < 2 ^ suc n = omega (arith, pow-suc 2 n) in
    omega (arith, pow-suc 2 (suc n))
turned_below (suc i) (suc n) e l h =
    let low = turned_below i n (e / 2) (omega arith) (omega (arith, pow-suc 2 n)) in
    omega (arith, pow-suc 2 n)

pub mean_stays : (i : ℕ) → effect_turned i 0 ≡ 0
mean_stays zero = refl
mean_stays (suc i) = let below = mean_stays i in omega arith

other_order : (a b x : ℕ) → bit_xor a (bit_xor b x) ≡ bit_xor b (bit_xor a x)
other_order a b x = sym (xor_assoc a b x) ∙ ap (λ (y : ℕ). bit_xor y x) (xor_comm a b) ∙ xor_assoc b a x

pub alias_turned : (i : ℕ) (cs : List ℕ) (e : ℕ) → suc i < length cs → alias (turned i cs) (effect_turned i e) ≡ alias cs e
alias_turned zero [] e h = refl
alias_turned (suc i) [] e h = refl
alias_turned zero (c ∷ []) e h = absurd (omega arith)
alias_turned zero (c ∷ d ∷ cs) e h =
    ap₂ (λ (x y : ℕ). bit_xor (x * d) y) (first_bit e) (ap₂ (λ (x y : ℕ). bit_xor (x * c) (alias cs y)) (second_bit e) (rest e))
    ∙ other_order (e / 2 % 2 * d) (e % 2 * c) (alias cs (e / 2 / 2))
alias_turned (suc i) (c ∷ cs) e h =
    ap₂ (λ (x y : ℕ). bit_xor (x * c) (alias (turned i cs) y)) (pair_mod (effect_turned i (e / 2)) e) (pair_div (effect_turned i (e / 2)) e)
    ∙ ap (bit_xor (e % 2 * c)) (alias_turned i cs (e / 2) (omega arith))

-- the alias of an effect of the turned key
pub alias_back : (i : ℕ) (cs : List ℕ) (e : ℕ) → suc i < length cs → alias (turned i cs) e ≡ alias cs (effect_turned i e)
alias_back i cs e h = ap (alias (turned i cs)) (sym (effect_twice i e)) ∙ alias_turned i cs (effect_turned i e) h

-- What a turned effect is, by the two bits that change places.
use Rattle.std.proofs.Common.{◌≡◌, ℕ, zero, suc, ◌+◌, ◌/◌, ◌%◌, ◌^◌, sym, ap, ◌∙◌, add_comm, pow-suc, div-one, add-one, arith, shr-shr}
use Rattle.exchange.specs.Exchanges.{effect_turned}

half : (e i : ℕ) → e / 2 / 2 ^ i % 2 ≡ e / 2 ^ suc i % 2
half e i = ap (λ (x : ℕ). x % 2) (shr-shr e 1 i ∙ ap (λ (n : ℕ). e / 2 ^ n) (add_comm 1 i ∙ add-one i))

-- it has both factors or neither: it stays
pub stays_as_it_is : (i e : ℕ) → e / 2 ^ i % 2 ≡ e / 2 ^ suc i % 2 → effect_turned i e ≡ e
stays_as_it_is zero e h = omega (arith, div-one e)
stays_as_it_is (suc i) e h =
    let low = stays_as_it_is i (e / 2) (half e i ∙ h ∙ sym (half e (suc i))) in omega arith

-- it has the first alone, and then the second alone
pub goes_up : (i e : ℕ) → e / 2 ^ i % 2 ≡ 1 → e / 2 ^ suc i % 2 ≡ 0 → effect_turned i e ≡ e + 2 ^ i
goes_up zero e h k = omega (arith, div-one e)
goes_up (suc i) e h k =
    let low = goes_up i (e / 2) (half e i ∙ h) (half e (suc i) ∙ k) in omega (arith, pow-suc 2 i)

-- it has the second alone, and then the first alone
pub goes_down : (i e : ℕ) → e / 2 ^ i % 2 ≡ 0 → e / 2 ^ suc i % 2 ≡ 1 → effect_turned i e + 2 ^ i ≡ e
goes_down zero e h k = omega (arith, div-one e)
goes_down (suc i) e h k =
    let low = goes_down i (e / 2) (half e i ∙ h) (half e (suc i) ∙ k) in omega (arith, pow-suc 2 i)

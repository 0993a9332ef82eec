-- A number that was printed is read back. Assumes nothing.
use Rattle.std.proofs.Common.{◌≡◌, ℕ, zero, suc, ◌+◌, ◌-◌, ◌*◌, ◌/◌, ◌%◌, ◌^◌, ◌<◌, ◌≤◌, Bool, true, false, cond, List, [], ◌∷◌, ◌++◌, length, get_or, Some, None, decimal, option_and_then, refl, ap, ◌∙◌, arith}
use Rattle.std.proofs.lemmas.Fmt.{decimal_digit, decimal_by_steps, decimal_nonempty, length-decimal-le, first_decimal}
use Rattle.sheet.specs.Numbers.{is_digit, digits_on, NumbersStand}
use Rattle.sheet.proofs.Digit.{digit_yes, sized}

-- one digit more at the end
digits_push : (m : ℕ) (ds : List ℕ) (c : ℕ) → is_digit c ≡ true → digits_on m (ds ++ c ∷ []) ≡ option_and_then (λ v. Some (v * 10 + (c - 48))) (digits_on m ds)
digits_push m [] c h = rw h
digits_push m (d ∷ ds) c h = go (is_digit d) (digits_push (m * 10 + (d - 48)) ds c h)
  where
    go : (b : Bool) → digits_on (m * 10 + (d - 48)) (ds ++ c ∷ []) ≡ option_and_then (λ v. Some (v * 10 + (c - 48))) (digits_on (m * 10 + (d - 48)) ds)
        → cond b (digits_on (m * 10 + (d - 48)) (ds ++ c ∷ [])) None ≡ option_and_then (λ v. Some (v * 10 + (c - 48))) (cond b (digits_on (m * 10 + (d - 48)) ds) None)
    go true so = so
    go false so = refl

one_digit : (n : ℕ) → n < 10 → digits_on 0 ((48 + n) ∷ []) ≡ Some n
one_digit n l =
    let digit : is_digit (48 + n) ≡ true = digit_yes (48 + n) (omega arith) (omega arith) in
    let is : 0 * 10 + (48 + n - 48) ≡ n = omega arith in
    ap (λ (b : Bool). cond b (Some (0 * 10 + (48 + n - 48))) None) digit ∙ ap Some is

more_digits : (n : ℕ) (ds : List ℕ) → 10 ≤ n → digits_on 0 ds ≡ Some (n / 10) → digits_on 0 (ds ++ (48 + n % 10) ∷ []) ≡ Some n
more_digits n ds l so =
    let digit : is_digit (48 + n % 10) ≡ true = digit_yes (48 + n % 10) (omega arith) (omega arith) in
    let is : n / 10 * 10 + (48 + n % 10 - 48) ≡ n = omega arith in
    digits_push 0 ds (48 + n % 10) digit ∙ ap (option_and_then (λ v. Some (v * 10 + (48 + n % 10 - 48)))) so ∙ ap Some is

-- no needless zero stands in front
front : (n : ℕ) → n < 2 ^ 64 → get_or (decimal n) 0 0 ≡ 48 → length (decimal n) ≤ 1
front zero l e = omega (arith, ap length (decimal_digit 0 (omega arith)))
front (suc n) l e = absurd (omega (arith, first_decimal (suc n) (omega arith) l))

pub numbers_fact : NumbersStand
numbers_fact n small =
    let l : n < 2 ^ 64 = omega arith in
    sized (decimal n) (decimal_nonempty n l) (length-decimal-le 4 n (omega arith) (omega arith) l) (front n l)
    ∙ decimal_by_steps (λ m ds. digits_on 0 ds ≡ Some m) one_digit more_digits n l

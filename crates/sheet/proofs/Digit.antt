-- A number read digit by digit. Assumes nothing.
use Rattle.std.proofs.Common.{◌≡◌, ℕ, ◌+◌, ◌-◌, ◌*◌, ◌^◌, ◌<◌, ◌≤◌, true, false, cond, List, length, get_or, drop, Some, None, sym, ◌∙◌, pow-suc, add-one, arith}
use Rattle.std.proofs.lemmas.List.{at_drop_more, at_drop_all}
use Rattle.std.proofs.lemmas.Bool.Decides.{nat_tests}
use Rattle.sheet.specs.Numbers.{is_digit, digits_on, well_sized, number_of}

-- which bytes are digits
pub digit_yes : (c : ℕ) → 48 ≤ c → c ≤ 57 → is_digit c ≡ true
digit_yes c l h = grind (arith, nat_tests)

pub digit_low : (c : ℕ) → c < 48 → is_digit c ≡ false
digit_low c l = grind (arith, nat_tests)

pub digit_high : (c : ℕ) → 57 < c → is_digit c ≡ false
digit_high c l = grind (arith, nat_tests)

-- what one byte makes of the number so far
digits_more : (n : ℕ) (bs : List ℕ) (i : ℕ) → i < length bs → is_digit (get_or bs i 0) ≡ true → digits_on n (drop i bs) ≡ digits_on (n * 10 + (get_or bs i 0 - 48)) (drop (i + 1) bs)
digits_more n bs i h e =
    let step : digits_on n (drop i bs) ≡ cond (is_digit (get_or bs i 0)) (digits_on (n * 10 + (get_or bs i 0 - 48)) (drop (i + 1) bs)) None = at_drop_more (digits_on n) bs i 0 h in
    step ∙ rw e

pub digits_stop : (n : ℕ) (bs : List ℕ) (i : ℕ) → i < length bs → is_digit (get_or bs i 0) ≡ false → digits_on n (drop i bs) ≡ None
digits_stop n bs i h e =
    let step : digits_on n (drop i bs) ≡ cond (is_digit (get_or bs i 0)) (digits_on (n * 10 + (get_or bs i 0 - 48)) (drop (i + 1) bs)) None = at_drop_more (digits_on n) bs i 0 h in
    step ∙ rw e

pub digits_end : (n : ℕ) (bs : List ℕ) (i : ℕ) → length bs ≤ i → digits_on n (drop i bs) ≡ Some n
digits_end n bs i h = at_drop_all (digits_on n) bs i h

-- one digit more keeps a number below the next power of ten
grows : (n i d : ℕ) → n < 10 ^ i → d < 10 → n * 10 + d < 10 ^ (i + 1)
grows n i d l h = rw (add-one, pow-suc) (omega arith)

-- where the size is right, the digits tell
pub sized : (bs : List ℕ) → 0 < length bs → length bs ≤ 4 → (get_or bs 0 0 ≡ 48 → length bs ≤ 1) → number_of bs ≡ digits_on 0 bs
sized bs a b z = let e : well_sized bs ≡ true = grind (arith, nat_tests) in rw e

-- one turn of the loop
pub turn : (bs : List ℕ) (i n d : ℕ) → i < length bs → 48 ≤ get_or bs i 0 → get_or bs i 0 ≤ 57 → d ≡ get_or bs i 0 - 48 → digits_on n (drop i bs) ≡ digits_on 0 bs → n < 10 ^ i → (digits_on (n * 10 + d) (drop (i + 1) bs) ≡ digits_on 0 bs) × (n * 10 + d < 10 ^ (i + 1))
turn bs i n d h low high is so small =
    (rw is (sym (digits_more n bs i h (digit_yes _ low high)) ∙ so), grows n i d small (omega arith))

-- The rows of a layout, and how long they are at most.
use Rattle.std.proofs.Common.{◌≡◌, ℕ, suc, ◌+◌, ◌*◌, ◌^◌, ◌<◌, ◌≤◌, List, [], ◌∷◌, ◌++◌, map, length, get_or, decimal, ap, ◌∙◌, lt_of_lt_of_le, mul-le-mul_right, mul-le-mul_left, mul-suc, arith, length-append, pow_mono, pow-add}
use Rattle.std.specs.List.{range_with_len, flat_map}
use Rattle.std.proofs.lemmas.List.FromFn.{length-map-range_with_len, map-range_with_len_more}
use Rattle.std.proofs.lemmas.Fmt.{length-decimal-le}
use Rattle.theory.specs.Words.{sign}
use Rattle.theory.specs.Signs.{sign_in, run_number}
use Rattle.theory.proofs.Words.{alias_at}
use Rattle.text.proofs.Laws.{length_texts}
use Rattle.key.specs.declared.Key.{Key}
use Rattle.key.specs.Layouts.{sign_code, place_text}
use Rattle.key.specs.Questions.{columns_of, row_of}
use Rattle.key.proofs.Soundness.{length_columns}

-- the signs of the first i factors
abbrev pub signs_to : List ℕ → ℕ → ℕ → List ℕ
signs_to cs u i = map (λ f. sign_code (sign_in cs (2 ^ f) u)) (range_with_len 0 i)

pub length_signs_to : (cs : List ℕ) (u i : ℕ) → length (signs_to cs u i) ≡ i
length_signs_to cs u i = length-map-range_with_len (λ f. sign_code (sign_in cs (2 ^ f) u)) 0 i

-- one more sign, which is that of the factor's column
pub signs_more : (cs : List ℕ) (u i : ℕ) → signs_to cs u (i + 1) ≡ signs_to cs u i ++ sign_code (sign (get_or cs i 0) u) ∷ []
signs_more cs u i =
    map-range_with_len_more (λ f. sign_code (sign_in cs (2 ^ f) u)) 0 i i (omega arith) ∙ ap (λ (v : ℕ). signs_to cs u i ++ sign_code (sign v u) ∷ []) (alias_at cs i)

-- ---- lengths

pub two_digits : (n : ℕ) → n < 16 → length (decimal (n + 1)) ≤ 2
two_digits n h = length-decimal-le 2 (n + 1) (omega arith) (omega arith) (omega arith)

sixteen : (j n : ℕ) → j ≤ 4 → n < 2 ^ j → n < 16
sixteen j n few h = lt_of_lt_of_le h (pow_mono {j = 4} few)

-- there are 16 whole plots at most, and 16 subplots in each
pub few_plots : (key : Key) (p t : ℕ) → p < 2 ^ key.shape.w → t < 2 ^ key.shape.s → (p < 16) × (t < 16)
few_plots key p t hp ht = (sixteen key.shape.w p (omega arith) hp, sixteen key.shape.s t (omega arith) ht)

pub place_le : (p t : ℕ) → p < 16 → t < 16 → length (place_text p t) ≤ 6
place_le p t hp ht = omega (arith, length-append {A = ℕ}, two_digits p hp, two_digits t ht)

-- the row of a subplot, and the rows of a whole plot
pub row_le : (key : Key) (p t : ℕ) → p < 2 ^ key.shape.w → t < 2 ^ key.shape.s → length (row_of key p t) ≤ 17
row_le key p t hp ht =
    let few = few_plots key p t hp ht in
    let place = place_le p t few.0 few.1 in
    let cs = columns_of key in
    omega (arith, length-append {A = ℕ}, place, length_signs_to cs (run_number (key.shape.w ∷ []) p t) (length cs), length_columns key)

pub plot_le : (key : Key) (p n : ℕ) → p < 2 ^ key.shape.w → n ≤ 2 ^ key.shape.s → length (flat_map (row_of key p) (range_with_len 0 n)) ≤ 17 * n
plot_le key p n hp hn = length_texts (row_of key p) 17 n (λ t l. row_le key p t hp (omega arith))

-- ---- runs

-- the subplots of q plots are 32 at most
pub plots_le : (w s q : ℕ) → q ≤ 2 ^ w → s + w ≤ 5 → q * 2 ^ s ≤ 32
plots_le w s q h few =
    let all : q * 2 ^ s ≤ 2 ^ w * 2 ^ s = mul-le-mul_right (2 ^ s) h in
    let small : 2 ^ (w + s) ≤ 32 = pow_mono {j = 5} (omega arith) in
    omega (arith, all, pow-add 2 w s, small)

pub run_lt : (w s p t : ℕ) → p < 2 ^ w → t < 2 ^ s → s + w ≤ 5 → p + 2 ^ w * t < 32
run_lt w s p t hp ht few =
    let all : 2 ^ w * suc t ≤ 2 ^ w * 2 ^ s = mul-le-mul_left (2 ^ w) ht in
    let small : 2 ^ (w + s) ≤ 32 = pow_mono {j = 5} (omega arith) in
    omega (arith, all, mul-suc (2 ^ w) t, pow-add 2 w s, small)

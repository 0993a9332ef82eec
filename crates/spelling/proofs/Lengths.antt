-- How long the pieces of an answer are at most.
use Rattle.std.proofs.Common.{ℕ, ◌^◌, ◌<◌, ◌*◌, ◌≤◌, Bool, true, false, cond, eqb, List, [], length, get_or, codes, decimal, arith, length-append}
use Rattle.std.specs.List.{range_with_len, flat_map}
use Rattle.text.proofs.Laws.{length_texts}
use Rattle.std.proofs.lemmas.Fmt.{length-decimal-le}
use Rattle.sheet.proofs.Spell.{sixteen_letters}
use Rattle.spelling.specs.Spelled.{column_text, effect_text}

-- a machine word has at most twenty digits, a byte at most three
pub twenty_digits : (n : ℕ) → n < 2 ^ 64 → length (decimal n) ≤ 20
twenty_digits n h = length-decimal-le 20 n (omega arith) (omega arith) (omega arith)

pub three_digits : (n : ℕ) → n < 256 → length (decimal n) ≤ 3
three_digits n h = length-decimal-le 3 n (omega arith) (omega arith) (omega arith)

-- a space, unless it is the first
pub space_le : (first : Bool) → length (cond first [] (codes " ")) ≤ 1
space_le true = omega arith
space_le false = omega arith

-- a factor's letter and its column; an effect
pub column_le : (n1 factor column : ℕ) → column < 256 → length (column_text n1 factor column) ≤ 6
column_le n1 factor column h = omega (arith, length-append {A = ℕ}, three_digits column h)

pub effect_le : (n1 place effect : ℕ) → length (effect_text n1 place effect) ≤ 17
effect_le n1 place effect = omega (arith, length-append {A = ℕ}, space_le (eqb place 0), sixteen_letters n1 effect)

-- the columns of the first n factors
pub columns_le : (n1 : ℕ) (cs : List ℕ) (n : ℕ) → ((i : ℕ) → i < n → get_or cs i 0 < 256) → length (flat_map (λ i. column_text n1 i (get_or cs i 0)) (range_with_len 0 n)) ≤ 6 * n
columns_le n1 cs n h = length_texts (λ i. column_text n1 i (get_or cs i 0)) 6 n (λ i l. column_le n1 i (get_or cs i 0) (h i l))

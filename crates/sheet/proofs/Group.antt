-- A letter group read letter by letter. Assumes nothing.
use Rattle.std.proofs.Common.{◌≡◌, ℕ, ◌+◌, ◌*◌, ◌%◌, ◌^◌, ◌<◌, ◌≤◌, cond, leb, List, length, get_or, drop, Some, None, Option, option_and_then, sym, ap, ◌∙◌, mod-eq_of_lt, one-mul, pow-suc, add-one, arith, pow_mono, le-leb}
use lib.Bits.{bit_or, or_shifted_r}
use lib.Pow.{pow-lt}
use Rattle.std.proofs.lemmas.List.{at_drop_more}
use Rattle.std.proofs.lemmas.Bool.Decides.{nat_tests}
use Rattle.sheet.specs.declared.letters.Alphabet.{Alphabet}
use Rattle.sheet.specs.Letters.{factor, join_on}

-- every lettered factor has a bit
pub factor_below : (a : Alphabet) (c i : ℕ) → factor a c ≡ Some i → i < 16
factor_below a c i e = grind (arith, nat_tests)

-- a bit above all those of m
or_above : (m i : ℕ) → m < 2 ^ i → bit_or m (2 ^ i) ≡ m + 2 ^ i
or_above m i h = let e = or_shifted_r 1 i m h in omega (arith, ap (bit_or m) (one-mul (2 ^ i)), one-mul (2 ^ i))

join_more : (f : ℕ → Option ℕ) (next e : ℕ) (bs : List ℕ) (k i : ℕ) → k < length bs → f (get_or bs k 0) ≡ Some i → next ≤ i → join_on f next e (drop k bs) ≡ join_on f (i + 1) (e + 2 ^ i) (drop (k + 1) bs)
join_more f next e bs k i h is up =
    let step : join_on f next e (drop k bs) ≡ option_and_then (λ i. cond (leb next i) (join_on f (i + 1) (e + 2 ^ i) (drop (k + 1) bs)) None) (f (get_or bs k 0)) = at_drop_more (join_on f next e) bs k 0 h in
    step ∙ rw (is, le-leb next i up)

below_next : (m i : ℕ) → m < 2 ^ i → m + 2 ^ i < 2 ^ (i + 1)
below_next m i h = rw (add-one, pow-suc) (omega arith)

-- one turn of the loop
pub turn : (f : ℕ → Option ℕ) (next m : ℕ) (bs : List ℕ) (k i : ℕ) → k < length bs → f (get_or bs k 0) ≡ Some i → next ≤ i → i < 16 → join_on f next m (drop k bs) ≡ join_on f 0 0 bs → m < 2 ^ next
    → (join_on f (i + 1) (bit_or m (1 * 2 ^ i % 65536)) (drop (k + 1) bs) ≡ join_on f 0 0 bs) × (bit_or m (1 * 2 ^ i % 65536) < 2 ^ (i + 1)) × (i + 1 ≤ 16)
turn f next m bs k i h is up low so small =
    let wide = pow-lt {i = i} {j = 16} low in
    let bit : 1 * 2 ^ i % 65536 ≡ 2 ^ i = ap (λ n. n % 65536) (one-mul (2 ^ i)) ∙ mod-eq_of_lt wide in
    let under : m < 2 ^ i = omega (arith, pow_mono up) in
    let or : bit_or m (1 * 2 ^ i % 65536) ≡ m + 2 ^ i = ap (bit_or m) bit ∙ or_above m i under in
    (rw or (sym (join_more f next m bs k i h is up) ∙ so), rw or (below_next m i under), omega arith)

-- With one subplot unit factor, every defining word has an even number of subplot factors.
use Rattle.std.proofs.Common.{◌≡◌, ℕ, zero, suc, ◌+◌, ◌-◌, ◌*◌, ◌/◌, ◌%◌, ◌^◌, ◌<◌, ◌≤◌, List, [], ◌∷◌, length, get_or, take, drop, sym, refl, ap, ◌∙◌, subst, ap₂, div-lt_iff_lt-mul, one-mul, pow-suc, zero-mul, add-one, arith, take-append-drop, pow_pos, pow-add}
use native.Mathlib.Decide.{dec_lt}
use native.Mathlib.Nat.{zero-div, div-eq_of_lt, div-eq-sub-div}
use lib.Bits.{bit_xor, xor_shr}
use lib.Count.{ones, ones_step, ones-le}
use lib.ListN.{get_or-eq_default}
use Rattle.std.proofs.lemmas.List.{get_or-take, get_or-drop, length-take-le, length-drop}
use Rattle.theory.specs.Words.{alias}
use Rattle.theory.specs.Plots.{SoundKey}
use Rattle.theory.specs.Laws.{Defining, EvenFact}
use Rattle.theory.proofs.Linear.{alias_append}
use Rattle.theory.proofs.Sounds.{alias_lt}

-- the exclusive or of two bits
xor_bits : (a b : ℕ) → a < 2 → b < 2 → bit_xor a b ≡ (a + b) % 2
xor_bits zero zero p q = refl
xor_bits zero (suc zero) p q = refl
xor_bits (suc zero) zero p q = refl
xor_bits (suc zero) (suc zero) p q = refl
xor_bits zero (suc (suc b)) p q = absurd (omega arith)
xor_bits (suc zero) (suc (suc b)) p q = absurd (omega arith)
xor_bits (suc (suc a)) b p q = absurd (omega arith)

-- a bit times a column whose top is 1
top_times : (w d c : ℕ) → d < 2 → c / 2 ^ w ≡ 1 → d * c / 2 ^ w ≡ d
top_times w zero c p is = ap (λ (x : ℕ). x / 2 ^ w) (zero-mul c) ∙ zero-div (2 ^ w)
top_times w (suc zero) c p is = ap (λ (x : ℕ). x / 2 ^ w) (one-mul c) ∙ is
top_times w (suc (suc d)) c p is = absurd (omega arith)

-- where every column has the one S, an alias has it as often as the effect has factors
sub_parity : (w : ℕ) (ds : List ℕ) (x : ℕ) → ((i : ℕ) → i < length ds → get_or ds i 0 / 2 ^ w ≡ 1) → x < 2 ^ length ds → alias ds x / 2 ^ w ≡ ones x % 2
sub_parity w [] x tops l = zero-div (2 ^ w) ∙ omega (arith, ones-le 0 x l)
sub_parity w (d ∷ ds) x tops l =
    let small : x / 2 < 2 ^ length ds = omega (arith, pow-suc 2 (length ds)) in
    let rest = sub_parity w ds (x / 2) (λ i h. tops (suc i) (omega arith)) small in
    xor_shr (x % 2 * d) (alias ds (x / 2)) w
    ∙ ap₂ bit_xor (top_times w (x % 2) d (omega arith) (tops 0 (omega arith))) rest
    ∙ xor_bits (x % 2) (ones (x / 2) % 2) (omega arith) (omega arith)
    ∙ omega (arith, ones_step x)

module _ (w n1 n2 : ℕ) (cs : List ℕ) (key : SoundKey w 1 n1 n2 cs) where
  -- whole-plot columns have no S
  low : (i : ℕ) → get_or (take n1 cs) i 0 < 2 ^ w
  low i = go (dec_lt i n1)
    where
      go : Dec (i < n1) → get_or (take n1 cs) i 0 < 2 ^ w
      go (yes l) = subst (λ (c : ℕ). c < 2 ^ w) (sym (get_or-take n1 cs i 0 l)) (key.whole i l).1
      go (no n) = subst (λ (c : ℕ). c < 2 ^ w) (sym (get_or-eq_default (take n1 cs) 0 (omega (arith, length-take-le n1 cs (omega (arith, key.size)))))) (pow_pos w)

  -- subplot columns have it
  top : (i : ℕ) → i < length (drop n1 cs) → get_or (drop n1 cs) i 0 / 2 ^ w ≡ 1
  top i l =
      let inn : n1 + i < n1 + n2 = omega (arith, length-drop n1 cs, key.size) in
      ap (λ (c : ℕ). c / 2 ^ w) (get_or-drop n1 cs i 0) ∙ one (get_or cs (n1 + i) 0) (key.sub (n1 + i) (omega arith) inn) (subst (λ (k : ℕ). get_or cs (n1 + i) 0 < 2 ^ k) (add-one w) (key.words (n1 + i) inn))
    where
      one : (c : ℕ) → 2 ^ w ≤ c → c < 2 ^ suc w → c / 2 ^ w ≡ 1
      one c a b =
          let rest : c - 2 ^ w < 2 ^ w = omega (arith, pow-suc 2 w) in
          div-eq-sub-div (pow_pos w) a ∙ ap (λ (x : ℕ). x + 1) (div-eq_of_lt rest)

  pub even_words : (e : ℕ) → Defining cs e → ones (e / 2 ^ n1) % 2 ≡ 0
  even_words e def =
      let front : length (take n1 cs) ≡ n1 = length-take-le n1 cs (omega (arith, key.size)) in
      let back : length (drop n1 cs) ≡ n2 = length-drop n1 cs ∙ omega (arith, key.size) in
      let split : alias cs e ≡ bit_xor (alias (take n1 cs) e) (alias (drop n1 cs) (e / 2 ^ n1)) =
      ap (λ (xs : List ℕ). alias xs e) (sym (take-append-drop n1 cs)) ∙ alias_append (take n1 cs) (drop n1 cs) e ∙ ap (λ (n : ℕ). bit_xor (alias (take n1 cs) e) (alias (drop n1 cs) (e / 2 ^ n))) front in
      let whole : e < 2 ^ length (drop n1 cs) * 2 ^ n1 =
      subst (λ (k : ℕ). e < k) (ap (λ (k : ℕ). 2 ^ k) (omega (arith, back, key.size)) ∙ pow-add 2 (length (drop n1 cs)) n1) def.0 in
      let small : e / 2 ^ n1 < 2 ^ length (drop n1 cs) = (div-lt_iff_lt-mul (pow_pos n1)).1 whole in
      sym (sub_parity w (drop n1 cs) (e / 2 ^ n1) top small)
      ∙ sym (ap (λ (x : ℕ). bit_xor x (alias (drop n1 cs) (e / 2 ^ n1) / 2 ^ w)) (div-eq_of_lt (alias_lt w (take n1 cs) low e)))
      ∙ sym (xor_shr (alias (take n1 cs) e) (alias (drop n1 cs) (e / 2 ^ n1)) w)
      ∙ ap (λ (x : ℕ). x / 2 ^ w) (sym split ∙ def.2)
      ∙ zero-div (2 ^ w)

pub even_fact : EvenFact
even_fact w n1 n2 cs key e def = even_words w n1 n2 cs key e def

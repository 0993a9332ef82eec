-- When a wish is formed, by tests; and wishes of the first factors.
use Rattle.std.proofs.Common.{◌≡◌, ℕ, zero, suc, ◌*◌, ◌/◌, ◌%◌, ◌^◌, ◌<◌, ◌≤◌, Bool, ◌&&◌, eqb, ltb, leb, List, [], ◌∷◌, length, take, Decides, sym, ap, ◌∙◌, subst, lt_of_lt_of_le, pow-suc, arith, length-take, pow_mono}
use native.Mathlib.Nat.{min-eq_left}
use lib.Bits.{bit_xor}
use lib.Count.{ones}
use Rattle.std.proofs.lemmas.Bool.{leb-true, le-leb, and_parts, and_from}
use Rattle.std.proofs.lemmas.Bool.Decides.{Decides-and, Decides-eqb, Decides-ltb}
use Rattle.theory.specs.declared.wish.Wish.TheVariants.{Clear, Apart, Fine, Word, Least}
use Rattle.theory.specs.Words.{alias, stratum}
use Rattle.theory.specs.Wishes.{Low, low, FormedFact, FrontFact}
use Rattle.theory.proofs.Words.{alias_0}

-- ---- formed, by tests
decides_leb : (a b : ℕ) → Decides (leb a b) (a ≤ b)
decides_leb a b = (leb-true a b, le-leb a b)

decides_three : {P Q R : Type 0} (x y z : Bool) → Decides x P → Decides y Q → Decides z R → Decides (x && (y && z)) (P × Q × R)
decides_three x y z p q r = (
  λ t.
      let first = and_parts x (y && z) t in
      let rest = and_parts y z first.1 in
      (p.0 first.0, q.0 rest.0, r.0 rest.1),
  λ (a, b, c). and_from x (y && z) (p.1 a) (and_from y z (q.1 b) (r.1 c)),
)

decides_low : (n e : ℕ) → Decides (low n e) (Low n e)
decides_low n e =
    decides_three (ltb e (2 ^ n)) (leb 1 (ones e)) (leb (ones e) 2) (Decides-ltb e (2 ^ n)) (decides_leb 1 (ones e)) (decides_leb (ones e) 2)

pub formed_fact : FormedFact
formed_fact n (Clear e) = Decides-and (ltb e (2 ^ n)) (eqb (ones e) 2) (Decides-ltb e (2 ^ n)) (Decides-eqb (ones e) 2)
formed_fact n (Apart e f) = decides_three (ltb e f) (low n e) (low n f) (Decides-ltb e f) (decides_low n e) (decides_low n f)
formed_fact n (Fine e) = decides_low n e
formed_fact n (Word e) = Decides-and (ltb e (2 ^ n)) (leb 3 (ones e)) (Decides-ltb e (2 ^ n)) (decides_leb 3 (ones e))
formed_fact n (Least r) = Decides-and (leb 3 r) (leb r 10) (decides_leb 3 r) (decides_leb r 10)

-- ---- the first m columns

-- an effect of the first m factors has its alias from their columns
pub alias_take : (m : ℕ) (cs : List ℕ) (e : ℕ) → e < 2 ^ m → alias (take m cs) e ≡ alias cs e
alias_take zero cs e h = let z : 0 ≡ e = omega arith in subst (λ (x : ℕ). alias (take zero cs) x ≡ alias cs x) z (sym (alias_0 cs))
alias_take (suc m) [] e h = alias_0 []
alias_take (suc m) (c ∷ cs) e h = ap (λ (x : ℕ). bit_xor (e % 2 * c) x) (alias_take m cs (e / 2) (omega (arith, pow-suc 2 m)))

front_effect : (m : ℕ) (cs : List ℕ) (f : ℕ) → m ≤ length cs → f < 2 ^ length (take m cs) → f < 2 ^ m
front_effect m cs f h l = subst (λ (n : ℕ). f < 2 ^ n) (length-take m cs ∙ min-eq_left h) l

pub front_fact : FrontFact
front_fact ws m cs (Clear e) h k met = λ f l a.
    let u = front_effect m cs f h l in
    met f (lt_of_lt_of_le u (pow_mono h)) (sym (alias_take m cs f u) ∙ a ∙ alias_take m cs e k.0)
front_fact ws m cs (Apart e f) h k met = λ a. met (sym (alias_take m cs e k.1.0) ∙ a ∙ alias_take m cs f k.2.0)
front_fact ws m cs (Fine e) h k met = ap (stratum ws) (alias_take m cs e k.0) ∙ met
front_fact ws m cs (Word e) h k met = alias_take m cs e k.0 ∙ met
front_fact ws m cs (Least r) h k met = λ f l n a.
    let u = front_effect m cs f h l in
    met f (lt_of_lt_of_le u (pow_mono h)) n (sym (alias_take m cs f u) ∙ a)

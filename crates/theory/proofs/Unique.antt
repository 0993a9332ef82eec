-- Two standard keys of the same strata are one key.
use Rattle.std.proofs.Common.{◌≡◌, ℕ, ◌+◌, ◌*◌, ◌/◌, ◌^◌, ◌⊎◌, List, ◌∷◌, length, sym, refl, ap, ◌∙◌, subst, ap₂, subst₂, inl, inr, arith}
use native.Mathlib.Nat.{suc_inj}
use lib.Bits.{xor_self, xor_shr}
use Rattle.theory.specs.Words.{alias}
use Rattle.theory.specs.Keys.{Open, Next, here, above, Reads, done, stays, opens}
use Rattle.theory.proofs.Words.{◌⊕◌, same, parts, meet, up_div, alias_1, alias_even, alias_odd}
use Rattle.theory.proofs.Opens.{Same, same_0, same_sym, open_up, next_apart, next_open}

abbrev pub Alike : List ℕ → List ℕ → ℕ → ℕ → Type 0
Alike ws os c d = (x : ℕ) → Open ws os x → Same ws (x ⊕ c) (x ⊕ d)

open_one : (ws os : List ℕ) (c d : ℕ) → Open ws os c → Alike ws os c d → c ≡ d
open_one ws os c d o h = same c d ((same_0 ws (h c o)).0 (xor_self c))

-- the parts above the lowest layer agree where the first is open
tops : (w a : ℕ) (ws os : List ℕ) (c d : ℕ) → Open ws os (c / 2 ^ w) → Alike (w ∷ ws) (a ∷ os) c d → c / 2 ^ w ≡ d / 2 ^ w
tops w a ws os c d o h =
    let x : ℕ = c / 2 ^ w * 2 ^ w in
    let z : (x ⊕ c) / 2 ^ w ≡ 0 = xor_shr x c w ∙ ap (λ (y : ℕ). y ⊕ c / 2 ^ w) (up_div w (c / 2 ^ w)) ∙ xor_self (c / 2 ^ w) in
    let t : (x ⊕ d) / 2 ^ w ≡ 0 = (same_0 ws (h x (open_up w a ws os (c / 2 ^ w) o)).1).0 z in
    same (c / 2 ^ w) (d / 2 ^ w) (ap (λ (y : ℕ). y ⊕ d / 2 ^ w) (sym (up_div w (c / 2 ^ w))) ∙ sym (xor_shr x d w) ∙ t)

flip : (ws os : List ℕ) (c d : ℕ) → Alike ws os c d → Alike ws os d c
flip ws os c d h x o = same_sym ws (x ⊕ c) (x ⊕ d) (h x o)

above_alike : (w a : ℕ) (ws os : List ℕ) (c d : ℕ) → Alike (w ∷ ws) (a ∷ os) c d → Alike ws os (c / 2 ^ w) (d / 2 ^ w)
above_alike w a ws os c d h x o =
    let k = (h (x * 2 ^ w) (open_up w a ws os x o)).1 in
    simp (xor_shr, up_div) at k

next_one : {ws os ps qs : List ℕ} {c d : ℕ} → Next ws os c ps → Next ws os d qs → Alike ws os c d → (c ≡ d) × (ps ≡ qs)
next_one (here {w} {a} {ws} {os} {c} l e o) (here {c = d} l' e' o') h = (parts w c d (e ∙ sym e') (tops w a ws os c d o h), refl)
next_one (here {w} {a} {ws} {os} {c} l e o) (above {c = d} e' n) h = absurd (next_apart n (subst (Open ws os) (tops w a ws os c d o h) o))
next_one (above {w} {a} {ws} {os} {c = c} e n) (here {c = d} l e' o) h =
    absurd (next_apart n (subst (Open ws os) (tops w a ws os d c o (flip (w ∷ ws) (a ∷ os) c d h)) o))
next_one (above {w} {a} {ws} {os} {c = c} e n) (above {c = d} e' n') h =
    let k = next_one n n' (above_alike w a ws os c d h) in
    (parts w c d (e ∙ sym e') k.0, ap (λ (p : List ℕ). a ∷ p) k.1)

abbrev pub AlikeKeys : List ℕ → List ℕ → List ℕ → List ℕ → Type 0
AlikeKeys ws os cs ds = (x f : ℕ) → Open ws os x → Same ws (x ⊕ alias cs f) (x ⊕ alias ds f)

heads : (ws os cs ds : List ℕ) (c d : ℕ) → AlikeKeys ws os (c ∷ cs) (d ∷ ds) → Alike ws os c d
heads ws os cs ds c d h x o = subst₂ (λ (u v : ℕ). Same ws (x ⊕ u) (x ⊕ v)) (alias_1 c cs) (alias_1 d ds) (h x 1 o)

stay_tails : (ws os cs ds : List ℕ) (c d : ℕ) → AlikeKeys ws os (c ∷ cs) (d ∷ ds) → AlikeKeys ws os cs ds
stay_tails ws os cs ds c d h x f o =
    subst₂ (λ (u v : ℕ). Same ws (x ⊕ u) (x ⊕ v)) (alias_even c cs f) (alias_even d ds f) (h x (f * 2) o)

-- x + c + the alias of an odd effect
odd : (x c : ℕ) (cs : List ℕ) (f : ℕ) → (x ⊕ c) ⊕ alias (c ∷ cs) (f * 2 + 1) ≡ x ⊕ alias cs f
odd x c cs f = ap (λ (y : ℕ). (x ⊕ c) ⊕ y) (alias_odd c cs f) ∙ meet x (alias cs f) c

open_tails : (ws os ps cs ds : List ℕ) (c d : ℕ) → c ≡ d → Next ws os c ps → AlikeKeys ws os (c ∷ cs) (d ∷ ds) → AlikeKeys ws ps cs ds
open_tails ws os ps cs ds c d e n h x f o = go (next_open n x o)
  where
    go : Open ws os x ⊎ Open ws os (x ⊕ c) → Same ws (x ⊕ alias cs f) (x ⊕ alias ds f)
    go (inl k) = stay_tails ws os cs ds c d h x f k
    go (inr k) =
        subst₂ (λ (u v : ℕ). Same ws u v) (odd x c cs f) (ap (λ (y : ℕ). (x ⊕ y) ⊕ alias (d ∷ ds) (f * 2 + 1)) e ∙ odd x d ds f)
        (h (x ⊕ c) (f * 2 + 1) k)

pub unique : (ws : List ℕ) {os cs ds : List ℕ} → Reads ws os cs → Reads ws os ds → length cs ≡ length ds → AlikeKeys ws os cs ds → cs ≡ ds
unique ws done done e h = refl
unique ws done (stays o r) e h = absurd (omega arith)
unique ws done (opens n r) e h = absurd (omega arith)
unique ws (stays o r) done e h = absurd (omega arith)
unique ws (opens n r) done e h = absurd (omega arith)
unique ws (stays {os} {cs} {c} o r) (stays {cs = ds} {c = d} o' r') e h =
    ap₂ (λ (x : ℕ) (xs : List ℕ). x ∷ xs) (open_one ws os c d o (heads ws os cs ds c d h))
    (unique ws r r' (suc_inj e) (stay_tails ws os cs ds c d h))
unique ws (stays {os} {cs} {c} o r) (opens {cs = ds} {c = d} n r') e h =
    absurd (next_apart n (subst (Open ws os) (open_one ws os c d o (heads ws os cs ds c d h)) o))
unique ws (opens {os} {ps} {cs} {c} n r) (stays {cs = ds} {c = d} o r') e h =
    absurd (next_apart n (subst (Open ws os) (open_one ws os d c o (flip ws os c d (heads ws os cs ds c d h))) o))
unique ws (opens {os} {ps} {cs} {c} n r) (opens {ps = qs} {cs = ds} {c = d} n' r') e h =
    let k = next_one n n' (heads ws os cs ds c d h) in
    ap₂ (λ (x : ℕ) (xs : List ℕ). x ∷ xs) k.0
    (unique ws r (subst (λ (q : List ℕ). Reads ws q ds) (sym k.1) r') (suc_inj e) (open_tails ws os ps cs ds c d k.0 n h))

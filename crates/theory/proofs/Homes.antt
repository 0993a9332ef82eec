-- The layer of each factor, where there are two layers.
use Rattle.std.proofs.Common.{◌≡◌, ℕ, zero, suc, ◌+◌, ◌-◌, ◌<◌, ◌≤◌, List, [], ◌∷◌, length, get_or, refl, ap, ◌∙◌, arith}
use lib.ListN.{get_or-eq_default}
use Rattle.theory.specs.Keys.{homes, homes_from}

length_from : (n l : ℕ) (ns : List ℕ) → length (homes_from l (n ∷ ns)) ≡ n + length (homes_from (suc l) ns)
length_from zero l ns = omega arith
length_from (suc n) l ns = omega (arith, length_from n l ns)

pub length_homes : (n1 n2 : ℕ) → length (homes (n1 ∷ n2 ∷ [])) ≡ n1 + n2
length_homes n1 n2 = length_from n1 1 (n2 ∷ []) ∙ omega (arith, length_from n2 2 [])

-- the first n factors are of layer l, and the next are of the layers after it
front : (n l i : ℕ) (ns : List ℕ) → i < n → get_or (homes_from l (n ∷ ns)) i 0 ≡ l
front zero l i ns h = absurd (omega arith)
front (suc n) l zero ns h = refl
front (suc n) l (suc i) ns h = front n l i ns (omega arith)

next : (n l i d : ℕ) (ns : List ℕ) → i ≡ n + d → get_or (homes_from l (n ∷ ns)) i 0 ≡ get_or (homes_from (suc l) ns) d 0
next zero l i d ns e = ap (λ (x : ℕ). get_or (homes_from (suc l) ns) x 0) (omega arith)
next (suc n) l zero d ns e = absurd (omega arith)
next (suc n) l (suc i) d ns e = next n l i d ns (omega arith)

pub home_whole : (n1 n2 i : ℕ) → i < n1 → get_or (homes (n1 ∷ n2 ∷ [])) i 0 ≡ 1
home_whole n1 n2 i h = front n1 1 i (n2 ∷ []) h

pub home_sub : (n1 n2 i : ℕ) → n1 ≤ i → i < n1 + n2 → get_or (homes (n1 ∷ n2 ∷ [])) i 0 ≡ 2
home_sub n1 n2 i g h = next n1 1 i (i - n1) (n2 ∷ []) (omega arith) ∙ front n2 2 (i - n1) [] (omega arith)

pub home_none : (n1 n2 i : ℕ) → n1 + n2 ≤ i → get_or (homes (n1 ∷ n2 ∷ [])) i 0 ≡ 0
home_none n1 n2 i h = get_or-eq_default (homes (n1 ∷ n2 ∷ [])) 0 (omega (arith, length_homes n1 n2))

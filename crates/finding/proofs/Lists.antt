-- Members of lists, and lists in dictionary order.
use Rattle.std.proofs.Common.{◌≡◌, ℕ, zero, suc, ◌<◌, ◌⊎◌, List, [], ◌∷◌, ◌++◌, Some, None, Option, refl, subst, inl, inr, arith}
use native.Mathlib.Decide.{ℕ_discrete}
use Rattle.finding.specs.declared.begun.Opened.{Opened}
use Rattle.finding.specs.Walks.{upto, go_on}
use Rattle.finding.specs.Listing.{In, Before, Rising}

pub in_left : {X : Type 0} (x : X) (xs ys : List X) → In x xs → In x (xs ++ ys)
in_left x [] ys h = absurd h
in_left x (z ∷ xs) ys (inl e) = inl e
in_left x (z ∷ xs) ys (inr h) = inr (in_left x xs ys h)

pub in_right : {X : Type 0} (x : X) (xs ys : List X) → In x ys → In x (xs ++ ys)
in_right x [] ys h = h
in_right x (z ∷ xs) ys h = inr (in_right x xs ys h)

pub in_either : {X : Type 0} (x : X) (xs ys : List X) → In x (xs ++ ys) → In x xs ⊎ In x ys
in_either x [] ys h = inr h
in_either x (z ∷ xs) ys (inl e) = inl (inl e)
in_either {X} x (z ∷ xs) ys (inr h) = go (in_either x xs ys h)
  where
    go : In x xs ⊎ In x ys → In x (z ∷ xs) ⊎ In x ys
    go (inl k) = inl (inr k)
    go (inr k) = inr k

pub no_members : {X : Type 0} (xs : List X) → ((x : X) → In x xs → ⊥) → xs ≡ []
no_members [] h = refl
no_members (x ∷ xs) h = absurd (h x (inl refl))

pub in_upto : (f : ℕ → List (List ℕ)) (x : List ℕ) (n : ℕ) → In x (upto f n) → (c : ℕ) × (c < n) × In x (f c)
in_upto f x zero h = absurd h
in_upto f x (suc n) h = go (λ k. in_upto f x n k) (in_either x (upto f n) (f n) h)
  where
    go : (In x (upto f n) → (c : ℕ) × (c < n) × In x (f c)) → In x (upto f n) ⊎ In x (f n) → (c : ℕ) × (c < suc n) × In x (f c)
    go below (inl k) = let r = below k in (r.0, let l = r.1 in omega arith, r.2)
    go below (inr k) = (n, omega arith, k)

pub upto_in : (f : ℕ → List (List ℕ)) (x : List ℕ) (n c : ℕ) → c < n → In x (f c) → In x (upto f n)
upto_in f x zero c l h = absurd (omega arith)
upto_in f x (suc n) c l h = go (λ k. upto_in f x n c k h) (ℕ_discrete c n)
  where
    go : (c < n → In x (upto f n)) → Dec (c ≡ n) → In x (upto f (suc n))
    go below (yes e) = in_right x (upto f n) (f n) (subst (λ (z : ℕ). In x (f z)) e h)
    go below (no ne) = in_left x (upto f n) (f n) (below (omega arith))

pub in_go_on : (o : Option Opened) (f : Opened → List (List ℕ)) (x : List ℕ) → In x (go_on o f) → (p : Opened) × (o ≡ Some p) × In x (f p)
in_go_on None f x h = absurd h
in_go_on (Some p) f x h = (p, refl, h)

-- ---- dictionary order
pub before_irreflexive : (cs : List ℕ) → Before cs cs → ⊥
before_irreflexive [] h = h
before_irreflexive (c ∷ cs) (inl l) = omega arith
before_irreflexive (c ∷ cs) (inr h) = before_irreflexive cs h.1

pub before_asymmetric : (cs ds : List ℕ) → Before cs ds → Before ds cs → ⊥
before_asymmetric [] ds h k = h
before_asymmetric (c ∷ cs) [] h k = h
before_asymmetric (c ∷ cs) (d ∷ ds) (inl l) (inl m) = omega arith
before_asymmetric (c ∷ cs) (d ∷ ds) (inl l) (inr k) = let e = k.0 in omega arith
before_asymmetric (c ∷ cs) (d ∷ ds) (inr h) (inl m) = let e = h.0 in omega arith
before_asymmetric (c ∷ cs) (d ∷ ds) (inr h) (inr k) = before_asymmetric cs ds h.1 k.1

pub before_front : (us : List ℕ) (c d : ℕ) (cs ds : List ℕ) → c < d → Before (us ++ c ∷ cs) (us ++ d ∷ ds)
before_front [] c d cs ds l = inl l
before_front (u ∷ us) c d cs ds l = inr (refl, before_front us c d cs ds l)

pub rising_append : (xs ys : List (List ℕ)) → Rising xs → Rising ys → ((x y : List ℕ) → In x xs → In y ys → Before x y) → Rising (xs ++ ys)
rising_append [] ys p q h = q
rising_append (x ∷ xs) ys p q h = (
  λ l m. go l (in_either l xs ys m),
  rising_append xs ys p.1 q (λ a b i j. h a b (inr i) j),
)
  where
    go : (l : List ℕ) → In l xs ⊎ In l ys → Before x l
    go l (inl i) = p.0 l i
    go l (inr j) = h x l (inl refl) j

pub rising_upto : (f : ℕ → List (List ℕ)) → ((c : ℕ) → Rising (f c)) → ((c d : ℕ) (x y : List ℕ) → c < d → In x (f c) → In y (f d) → Before x y)
    → (n : ℕ) → Rising (upto f n)
rising_upto f each apart zero = tt
rising_upto f each apart (suc n) =
    rising_append (upto f n) (f n) (rising_upto f each apart n) (each n)
    (λ x y i j. let r = in_upto f x n i in apart r.0 n x y r.1 r.2 j)

-- What `added` says where there is room, and texts for each number. Assumes nothing.
use Rattle.std.proofs.Common.{◌≡◌, ℕ, zero, suc, ◌+◌, ◌*◌, ◌<◌, ◌≤◌, List, [], ◌∷◌, ◌++◌, fold, length, sym, ap, ◌∙◌, subst, map-id, add-one, append_assoc, append-nil, arith, length-append, le-leb}
use Rattle.std.specs.List.{range_with_len, flat_map}
use Rattle.std.proofs.lemmas.List.{flat_map_more}
use Rattle.std.proofs.lemmas.List.FromFn.{map-range_with_len_more}
use Rattle.text.specs.Texts.{added}

-- what fits is added
pub added_fits : (room : ℕ) (t s : List ℕ) → length t + length s ≤ room → added room t s ≡ t ++ s
unfolding added
added_fits room t s h = rw (le-leb (length t + length s) room h)

-- ---- pieces, one after another

-- the pieces ps after the text s
abbrev pub joined : List ℕ → List (List ℕ) → List ℕ
joined s ps = fold (λ t p. t ++ p) s ps

-- how long the pieces ps are together
abbrev pub total : List (List ℕ) → ℕ
total [] = 0
total (p ∷ ps) = length p + total ps

added_after : (room : ℕ) (t s : List ℕ) (ps : List (List ℕ)) → length t + length s + total ps ≤ room → fold (added room) (t ++ s) ps ≡ t ++ joined s ps
added_after room t s [] h = λ _. t ++ s
added_after room t s (p ∷ ps) h =
    let long = length-append t s in
    ap (λ x. fold (added room) x ps) (added_fits room (t ++ s) p (omega arith) ∙ append_assoc t s p) ∙ added_after room t (s ++ p) ps (omega (arith, length-append s p))

-- pieces that fit together are added one after another
pub added_all : (room : ℕ) (t : List ℕ) (ps : List (List ℕ)) → length t + total ps ≤ room → fold (added room) t ps ≡ t ++ joined [] ps
added_all room t ps h = ap (λ x. fold (added room) x ps) (sym (append-nil t)) ∙ added_after room t [] ps (omega arith)

-- ---- a text for each number

numbers_more : (n : ℕ) → range_with_len 0 (n + 1) ≡ range_with_len 0 n ++ n ∷ []
numbers_more n =
    sym (map-id (range_with_len 0 (n + 1))) ∙ map-range_with_len_more (λ x. x) 0 n n (omega arith) ∙ ap (λ (xs : List ℕ). xs ++ n ∷ []) (map-id (range_with_len 0 n))

module _ (f : ℕ → List ℕ) where
  -- the text of the next number
  pub texts_more : (t : List ℕ) (n : ℕ) → (t ++ flat_map f (range_with_len 0 n)) ++ f n ≡ t ++ flat_map f (range_with_len 0 (n + 1))
  texts_more t n = flat_map_more f t (range_with_len 0 n) n ∙ ap (λ (xs : List ℕ). t ++ flat_map f xs) (sym (numbers_more n))

  -- they are no longer than as many of the longest
  pub length_texts : (k n : ℕ) → ((i : ℕ) → i < n → length (f i) ≤ k) → length (flat_map f (range_with_len 0 n)) ≤ k * n
  length_texts k zero h = omega arith
  length_texts k (suc n) h =
      let before = length_texts k n (λ i l. h i (omega arith)) in
      let more = length-append (flat_map f (range_with_len 0 n)) (f n) in
      subst (λ (m : ℕ). length (flat_map f (range_with_len 0 m)) ≤ k * m) (add-one n) (omega (arith, ap length (texts_more [] n), h n (omega arith)))

-- The effects of one alias, as they are gathered.
use Rattle.std.proofs.Common.{◌≡◌, ℕ, suc, ◌+◌, ◌-◌, ◌^◌, ◌<◌, Bool, cond, List, [], ◌∷◌, ◌++◌, length, filter, sym, ap, ◌∙◌, arith, pow_mono}
use Rattle.std.specs.List.{range_with_len}
use Rattle.std.proofs.lemmas.Bool.{eq-eqb, ne_eqb}
use Rattle.theory.specs.Chains.{with_alias}
use Rattle.theory.proofs.Classes.{has_alias, class_size, kept_yes, kept_no, length_kept}
use Rattle.theory.proofs.Counts.{count_mono}
use Rattle.opening.specs.Shapes.{layers_of, homes_of, units_of, factors_of, size_of_chain}
use Rattle.key.specs.declared.Key.{Key}
use Rattle.key.specs.Questions.{columns_of, word_of}
use Rattle.key.proofs.Soundness.{length_columns}

module _ (key : Key) (v : ℕ) where
  -- the effects below i with the alias
  abbrev pub kept : ℕ → List ℕ
  kept i = filter (has_alias (columns_of key) v) (range_with_len 0 i)

  -- effect i has the alias, or another
  pub kept_in : (i : ℕ) → word_of key i ≡ v → kept (i + 1) ≡ kept i ++ i ∷ []
  kept_in i is = kept_yes (has_alias (columns_of key) v) i (eq-eqb (word_of key i) v is)

  pub kept_out : (i : ℕ) → (word_of key i ≡ v → ⊥) → kept (i + 1) ≡ kept i
  kept_out i not = kept_no (has_alias (columns_of key) v) i (ne_eqb (word_of key i) v not)

  -- those below the last are all
  pub kept_all : kept (2 ^ factors_of key.shape) ≡ with_alias (columns_of key) v
  kept_all = ap (λ (n : ℕ). kept (2 ^ n)) (sym (length_columns key))

  module _ (word : v < 2 ^ units_of key.shape) where
    pub size : length (with_alias (columns_of key) v) ≡ size_of_chain key.shape
    size =
        length_kept (has_alias (columns_of key) v) (2 ^ length (columns_of key))
        ∙ class_size (layers_of key.shape) (homes_of key.shape) (columns_of key) key.sound v word
        ∙ ap (λ (n : ℕ). 2 ^ (n - units_of key.shape)) (length_columns key)

    -- there is room for one more in 32 places
    pub kept_room : (i : ℕ) → i < 2 ^ factors_of key.shape → word_of key i ≡ v → length (kept i) < 32
    kept_room i low is =
        let p : ℕ → Bool = has_alias (columns_of key) v in
        let one : ◌≡◌ {A = ℕ} (cond (p i) 1 0) 1 = ap {B = ℕ} (λ (b : Bool). cond b 1 0) (eq-eqb (word_of key i) v is) in
        let spare = key.shape.spare in
        omega (arith, length_kept p i, one, count_mono p (suc i) (2 ^ factors_of key.shape) low, ap length kept_all, length_kept p (2 ^ factors_of key.shape), size, pow_mono {i = factors_of key.shape - units_of key.shape} {j = 5} (omega arith))

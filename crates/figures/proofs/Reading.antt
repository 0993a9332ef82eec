-- What the numbers in a table of counts say.
use Rattle.std.proofs.Common.{◌≡◌, ℕ, ◌^◌, ◌<◌, ◌≤◌, ◌&&◌, eqb, ◌⊎◌, List, [], length, get_or, ap, ◌∙◌, inl, inr, arith, pow_mono}
use lib.Count.{ones, ones-le}
use Rattle.std.proofs.lemmas.Bool.{cases_eq, eqb-true, and_parts}
use Rattle.theory.specs.Words.{alias}
use Rattle.theory.specs.Tallies.{members}
use Rattle.theory.proofs.Defining.{count_some}
use Rattle.theory.proofs.Sounds.{alias_word}
use Rattle.theory.proofs.Tables.{members_le}
use Rattle.opening.specs.Shapes.{layers_of}
use Rattle.figures.specs.Counted.{columns_in}
use Rattle.figures.specs.Rows.{row_of}
use Rattle.figures.specs.declared.counts.Counts.{Counts}
use Rattle.figures.proofs.Rooms.{word_small}
use Rattle.figures.proofs.Rows.{at_row, at_table}

module _ (counts : Counts) where
  abbrev cs : List ℕ
  cs = columns_in counts

  pub row_at : (v : ℕ) → v < 32 → get_or counts.table v [] ≡ row_of cs v
  row_at v h = ap (λ (rows : List (List ℕ)). get_or rows v []) counts.counted ∙ at_table cs v h

  pub count_at : (v j : ℕ) → v < 32 → j < 11 → get_or (get_or counts.table v []) j 0 ≡ members cs j v
  count_at v j h k = ap (λ (row : List ℕ). get_or row j 0) (row_at v h) ∙ at_row cs v j k

  pub members_small : (j v : ℕ) → members cs j v ≤ 1024
  members_small j v = omega (arith, members_le cs j v, pow_mono {i = length cs} {j = 10} (omega (arith, counts.few)))

  -- no effect has more than ten factors, and no alias passes 31
  pub members_none : (j v : ℕ) → (32 ≤ v) ⊎ (11 ≤ j) → members cs j v ≡ 0
  members_none j v beyond = go (cases_eq (members cs j v) 0)
    where
      none : (e : ℕ) → e < 2 ^ length cs → ones e ≡ j → alias cs e ≡ v → (32 ≤ v) ⊎ (11 ≤ j) → ⊥
      none e h long at (inl l) = omega (arith, word_small counts.shape (alias cs e) (alias_word (layers_of counts.shape) cs counts.words e))
      none e h long at (inr l) = omega (arith, ones-le (length cs) e h, counts.few)

      go : (members cs j v ≡ 0) ⊎ (members cs j v ≡ 0 → ⊥) → members cs j v ≡ 0
      go (inl z) = z
      go (inr some) =
          let k = count_some (λ e. eqb (ones e) j && eqb (alias cs e) v) (2 ^ length cs) some in
          let both = and_parts (eqb (ones k.0) j) (eqb (alias cs k.0) v) k.2 in
          absurd (none k.0 k.1 (eqb-true (ones k.0) j both.0) (eqb-true (alias cs k.0) v both.1) beyond)

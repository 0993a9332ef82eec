-- Counts with one column more: the numbers, and sums over words.
use Rattle.std.proofs.Common.{◌≡◌, ℕ, zero, suc, ◌+◌, ◌-◌, ◌*◌, ◌^◌, ◌<◌, ◌≤◌, ◌≢◌, Bool, true, false, cond, eqb, List, [], length, get_or, set, sym, ap, ◌∙◌, ap₂, mul-le-mul, add-one, arith, length-set, get_or-set_other, get_or-set_same, below_more}
use lib.Bits.{bit_xor, xor_lt}
use Rattle.std.proofs.lemmas.List.{length_push}
use Rattle.std.proofs.lemmas.Bool.{eq-eqb, ne_eqb}
use Rattle.theory.specs.Keys.{Words}
use Rattle.theory.specs.Tallies.{members, sum_to}
use Rattle.theory.proofs.Sounds.{words_push}
use Rattle.theory.proofs.Sums.{sum_le, sum_mono, term_le}
use Rattle.theory.proofs.Tables.{members_push, members_push_0, pairs_le}
use Rattle.opening.specs.Shapes.{layers_of, units_of}
use Rattle.figures.specs.Counted.{columns_in, unmixed, unmixed_square}
use Rattle.figures.specs.Extended.{all_columns}
use Rattle.figures.specs.Rows.{row_of}
use Rattle.figures.specs.declared.counts.extension.Extension.{Extension}
use Rattle.figures.proofs.Rooms.{room_few, room_word, word_small}
use Rattle.figures.proofs.Rows.{at_row, length_row, row_is}
use Rattle.figures.proofs.Reading.{count_at, members_small}

-- ---- one word more, of a chain with no main effect or with one
unmixed_yes : (cs : List ℕ) (v p : ℕ) → members cs 1 v ≡ 0 → p ≡ members cs 2 v → (unmixed cs v ≡ p) × (unmixed_square cs v ≡ p * p)
unmixed_yes cs v p none is = (
  ap (λ (b : Bool). cond b (members cs 2 v) 0) (eq-eqb (members cs 1 v) 0 none) ∙ sym is,
  ap (λ (b : Bool). cond b (members cs 2 v * members cs 2 v) 0) (eq-eqb (members cs 1 v) 0 none) ∙ ap (λ (x : ℕ). x * x) (sym is),
)

unmixed_no : (cs : List ℕ) (v : ℕ) → members cs 1 v ≢ 0 → (unmixed cs v ≡ 0) × (unmixed_square cs v ≡ 0)
unmixed_no cs v some = (
  ap (λ (b : Bool). cond b (members cs 2 v) 0) (ne_eqb (members cs 1 v) 0 some),
  ap (λ (b : Bool). cond b (members cs 2 v * members cs 2 v) 0) (ne_eqb (members cs 1 v) 0 some),
)

module _ (e : Extension) where
  abbrev more : List ℕ
  more = all_columns e

  abbrev units : ℕ
  units = units_of e.counts.now.shape

  pub other_word : (v : ℕ) → v < 32 → bit_xor v e.column < 32
  other_word v h = xor_lt 5 v e.column h (word_small e.counts.now.shape e.column (room_word e.counts.now e.column e.room))

  -- the effects of length j, and those one shorter with the column
  pub members_more : (j v : ℕ) → j ≢ 0 → members (columns_in e.counts.now) j v + members (columns_in e.counts.now) (j - 1) (bit_xor v e.column) ≡ members more j v
  members_more zero v some = absurd (some (omega arith))
  members_more (suc j) v some =
      let one : suc j - 1 ≡ j = omega arith in
      ap (λ (i : ℕ). members (columns_in e.counts.now) (suc j) v + members (columns_in e.counts.now) i (bit_xor v e.column)) one
      ∙ sym (members_push (columns_in e.counts.now) e.column j v)

  pub members_mean : (v : ℕ) → members (columns_in e.counts.now) 0 v ≡ members more 0 v
  members_mean v = sym (members_push_0 (columns_in e.counts.now) e.column v)

  -- ---- a row of the counts, one length after another

  -- below `end` it has the effects with the new factor, from there on it has not
  abbrev pub Extended : ℕ → ℕ → List ℕ → Type 0
  Extended word end row =
      (length row ≡ 11)
      × ((j : ℕ) → j < end → get_or row j 0 ≡ members more j word)
      × ((j : ℕ) → end ≤ j → j < 11 → get_or row j 0 ≡ members (columns_in e.counts.now) j word)

  -- no effect with the new factor has length 0
  pub extended_from : (word : ℕ) (row : List ℕ) → row ≡ row_of (columns_in e.counts.now) word → Extended word 1 row
  extended_from word row is = (ap length is ∙ length_row (columns_in e.counts.now) word, λ j h. first j (omega arith), λ j l h. old j h)
    where
      old : (j : ℕ) → j < 11 → get_or row j 0 ≡ members (columns_in e.counts.now) j word
      old j h = ap (λ (xs : List ℕ). get_or xs j 0) is ∙ at_row (columns_in e.counts.now) word j h

      first : (j : ℕ) → j ≡ 0 → get_or row j 0 ≡ members more j word
      first j z = old j (omega arith) ∙ ap (λ (i : ℕ). members (columns_in e.counts.now) i word) z ∙ members_mean word ∙ ap (λ (i : ℕ). members more i word) (sym z)

  module _ (word end : ℕ) (row : List ℕ) (w : word < 32) (l : 1 ≤ end) (h : end < 11) (so : Extended word end row) where
    -- the effects that are one shorter, to which the new factor is added
    abbrev pub shorter : ℕ
    shorter = get_or (get_or e.counts.now.table (bit_xor word e.column) []) (end - 1) 0

    shorter_is : shorter ≡ members (columns_in e.counts.now) (end - 1) (bit_xor word e.column)
    shorter_is = count_at e.counts.now (bit_xor word e.column) (end - 1) (other_word word w) (omega arith)

    pub extended_small : get_or row end 0 + shorter ≤ 2048
    extended_small =
        let longer : get_or row end 0 ≡ members (columns_in e.counts.now) end word = so.2 end (omega arith) h in
        omega (arith, longer, shorter_is, members_small e.counts.now end word, members_small e.counts.now (end - 1) (bit_xor word e.column))

    pub extended_more : Extended word (end + 1) (set row end (get_or row end 0 + shorter))
    extended_more = (
      simp length-set so.0,
      below_more _ _ (λ j k. let ne : j ≢ end = omega arith in rw get_or-set_other (so.1 j k)) (let lt : end < length row = omega arith in rw get_or-set_same sum),
      λ j k m. let ne : j ≢ end = omega arith in rw get_or-set_other (so.2 j (omega arith) m),
    )
      where
        sum : get_or row end 0 + shorter ≡ members more end word
        sum = ap₂ (λ (x y : ℕ). x + y) (so.2 end (omega arith) h) shorter_is ∙ members_more end word (omega arith)

  pub extended_to : (word : ℕ) (row : List ℕ) → Extended word 11 row → row ≡ row_of more word
  extended_to word row so = row_is row more word so.0 so.1

  pub words_more : Words (layers_of e.counts.now.shape) more
  words_more = words_push (layers_of e.counts.now.shape) (columns_in e.counts.now) e.column e.counts.now.words (room_word e.counts.now e.column e.room)

  all_pairs : sum_to (members more 2) (2 ^ units) ≤ 45
  all_pairs =
      pairs_le (layers_of e.counts.now.shape) more words_more
      (omega (arith, length_push (columns_in e.counts.now) e.column, room_few e.counts.now e.column e.room))

  unmixed_le : (v : ℕ) → unmixed more v ≤ members more 2 v
  unmixed_le v = at (eqb (members more 1 v) 0)
    where
      at : (b : Bool) → cond b (members more 2 v) 0 ≤ members more 2 v
      at true = omega arith
      at false = omega arith

  unmixed_small : (v : ℕ) → v ≤ 2 ^ units → sum_to (unmixed more) v ≤ 45
  unmixed_small v h = omega (arith, all_pairs, sum_le (unmixed more) (members more 2) v unmixed_le, sum_mono (members more 2) v (2 ^ units) h)

  -- the sums over the words from `from` on and below `word`
  abbrev pub Summed : ℕ → ℕ → ℕ → ℕ → Type 0
  Summed from word sum squares =
      (sum_to (unmixed more) from + sum ≡ sum_to (unmixed more) word)
      × (sum_to (unmixed_square more) from + squares ≡ sum_to (unmixed_square more) word)
      × (squares ≤ 45 * sum)

  module _ (from word next sum squares : ℕ) (h : word < 2 ^ units) (one : next ≡ word + 1) (so : Summed from word sum squares) where
    sum_more : (f : ℕ → ℕ) → sum_to f next ≡ sum_to f word + f word
    sum_more f = ap (sum_to f) (one ∙ add-one word)

    -- a chain with no main effect counts, and the sums stay small
    pub summed_yes : (p : ℕ) → members more 1 word ≡ 0 → p ≡ members more 2 word → (sum + p ≤ 45) × (p * p ≤ 45 * p) × Summed from next (sum + p) (squares + p * p)
    summed_yes p none is =
        let yes' = unmixed_yes more word p none is in
        let small : p ≤ 45 = omega (arith, all_pairs, term_le (members more 2) word (2 ^ units) h) in
        let square : p * p ≤ 45 * p = mul-le-mul small (omega arith) in
        let all = unmixed_small next (omega arith) in
        let more' = sum_more (unmixed more) in (
          omega (arith, so.0, yes'.0),
          square,
          (omega (arith, so.0, yes'.0), omega (arith, so.1, yes'.1, sum_more (unmixed_square more)), omega (arith, so.2)),
        )

    -- one with a main effect does not
    pub summed_no : members more 1 word ≢ 0 → Summed from next sum squares
    summed_no some =
        let no' = unmixed_no more word some in
        (omega (arith, so.0, no'.0, sum_more (unmixed more)), omega (arith, so.1, no'.1, sum_more (unmixed_square more)), so.2)

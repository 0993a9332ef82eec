-- What the rows of a table of counts have.
use Rattle.std.proofs.Common.{◌≡◌, ℕ, ◌<◌, List, [], length, get_or, set, replicate, refl, arith}
use lib.Count.{ones}
use Rattle.std.proofs.lemmas.List.FromFn.{get_or-map-range_with_len, length-map-range_with_len, fill_by_all}
use Rattle.theory.specs.Tallies.{members}
use Rattle.figures.specs.Rows.{row_of, table_of}

pub at_row : (cs : List ℕ) (v j : ℕ) → j < 11 → get_or (row_of cs v) j 0 ≡ members cs j v
unfolding row_of
at_row cs v j h = get_or-map-range_with_len (λ i. members cs i v) 0 11 j j 0 h (omega arith)

pub at_table : (cs : List ℕ) (v : ℕ) → v < 32 → get_or (table_of cs) v [] ≡ row_of cs v
unfolding table_of
at_table cs v h = get_or-map-range_with_len (row_of cs) 0 32 v v [] h (omega arith)

pub length_row : (cs : List ℕ) (v : ℕ) → length (row_of cs v) ≡ 11
unfolding row_of
length_row cs v = length-map-range_with_len (λ i. members cs i v) 0 11

pub length_table : (cs : List ℕ) → length (table_of cs) ≡ 32
unfolding table_of
length_table cs = length-map-range_with_len (row_of cs) 0 32

-- under no column there is the mean alone
pub mean_table : set (replicate 32 (replicate 11 0)) 0 (set (replicate 11 0) 0 1) ≡ table_of []
unfolding table_of row_of ones
mean_table = refl

pub row_is : (row cs : List ℕ) (v : ℕ) → length row ≡ 11 → ((j : ℕ) → j < 11 → get_or row j 0 ≡ members cs j v) → row ≡ row_of cs v
unfolding row_of
row_is row cs v long at = fill_by_all (λ j. members cs j v) row 11 0 long at

pub table_is : (rows : List (List ℕ)) (cs : List ℕ) → length rows ≡ 32 → ((v : ℕ) → v < 32 → get_or rows v [] ≡ row_of cs v) → rows ≡ table_of cs
unfolding table_of
table_is rows cs long at = fill_by_all (row_of cs) rows 32 [] long at

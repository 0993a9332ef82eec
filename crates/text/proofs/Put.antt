-- One text after another in a buffer. Assumes nothing.
use Rattle.std.proofs.Common.{◌≡◌, ℕ, ◌+◌, ◌/◌, ◌%◌, ◌^◌, ◌<◌, ◌≤◌, List, [], ◌∷◌, ◌++◌, length, take, drop, set, decimal, sym, refl, ap, ◌∙◌, ⊎_elim, append_assoc, add-one, arith, length-append, length-drop, le-leb}
use borrow.Author.Tests.{lt-leb}
use borrow.Rule.Slice.PartMut.{put_mid}
use Rattle.std.proofs.lemmas.List.{take_at, drop_at, drop-drop, set_split, length-take-le}
use Rattle.std.proofs.lemmas.Fmt.{decimal_digit, decimal_step, length-decimal-le}
use Rattle.std.proofs.str.Laws.{order}
use Rattle.text.specs.Texts.{put, written, ended}

module _ (d : List ℕ) (at : ℕ) (s : List ℕ) (h : at + length s ≤ length d) where
  long : length (take at d ++ s) ≡ at + length s
  long = length-append (take at d) s ∙ ap (λ n. n + length s) (length-take-le at d (omega arith))

  parts : put d at s ≡ (take at d ++ s) ++ drop (at + length s) d
  parts = sym (append_assoc (take at d) s (drop (at + length s) d))

  pub length_put : length (put d at s) ≡ length d
  length_put = ap length parts ∙ length-append (take at d ++ s) (drop (at + length s) d) ∙ omega (arith, long, length-drop (at + length s) d)

  front : take (at + length s) (put d at s) ≡ take at d ++ s
  front = ap (take (at + length s)) parts ∙ take_at (take at d ++ s) _ _ long

  back : drop (at + length s) (put d at s) ≡ drop (at + length s) d
  back = ap (drop (at + length s)) parts ∙ drop_at (take at d ++ s) _ _ long

  pub put_put : (t : List ℕ) → put (put d at s) (at + length s) t ≡ put d at (s ++ t)
  put_put t =
      let end = at + length s in
      let rest = drop (end + length t) d in
      let tail : drop (end + length t) (put d at s) ≡ rest = sym (drop-drop (length t) end (put d at s)) ∙ ap (drop (length t)) back ∙ drop-drop (length t) end d in
      let sum : at + length (s ++ t) ≡ end + length t = ap (λ n. at + n) (length-append s t) ∙ omega arith in
      ap (λ l. l ++ (t ++ drop (end + length t) (put d at s))) front
      ∙ ap (λ l. (take at d ++ s) ++ (t ++ l)) tail
      ∙ append_assoc (take at d) s (t ++ rest)
      ∙ ap (λ l. take at d ++ l) (sym (append_assoc s t rest))
      ∙ ap (λ n. take at d ++ ((s ++ t) ++ drop n d)) (sym sum)

  -- a text that fits is written, and ends where its length says
  pub written_fits : written d at s ≡ put d at s
  written_fits = rw (le-leb (at + length s) (length d) h)

  pub ended_fits : ended d at s ≡ at + length s
  ended_fits = rw (le-leb (at + length s) (length d) h)

module _ (d : List ℕ) (at : ℕ) (s : List ℕ) (h : length d < at + length s) where
  -- a text that does not fit is not written
  pub written_not : written d at s ≡ d
  written_not = rw (lt-leb (at + length s) (length d) h)

  pub ended_not : ended d at s ≡ at
  ended_not = rw (lt-leb (at + length s) (length d) h)

-- a buffer stays as long as it was
pub length_written : (d : List ℕ) (at : ℕ) (s : List ℕ) → length (written d at s) ≡ length d
length_written d at s =
    ⊎_elim (λ l. ap length (written_not d at s l)) (λ l. ap length (written_fits d at s l) ∙ length_put d at s l) (order (length d) (at + length s))

-- a text that begins within the buffer ends within it
pub ended_within : (d : List ℕ) (at : ℕ) (s : List ℕ) → at ≤ length d → ended d at s ≤ length d
ended_within d at s h =
    ⊎_elim (λ l. omega (arith, ended_not d at s l)) (λ l. omega (arith, ended_fits d at s l)) (order (length d) (at + length s))

-- one byte
pub put_byte : (d : List ℕ) (at x : ℕ) → at < length d → set d at x ≡ put d at (x ∷ [])
put_byte d at x h = set_split d at x h ∙ ap (λ n. take at d ++ (x ∷ drop n d)) (sym (add-one at))

-- one byte after a text
pub put_push : (d : List ℕ) (at : ℕ) (s : List ℕ) (x : ℕ) → at + length s < length d → set (put d at s) (at + length s) x ≡ put d at (s ++ (x ∷ []))
put_push d at s x h =
    let small : at + length s ≤ length d = omega arith in
    put_byte (put d at s) (at + length s) x (rw (length_put d at s small) h) ∙ put_put d at s small (x ∷ [])

-- a copy into a part of the buffer
pub put_part : (d : List ℕ) (at : ℕ) (s : List ℕ) (k : ℕ) (ys : List ℕ) → ys ≡ s → k ≡ length s → put_mid at k d ys ≡ put d at s
put_part d at s k ys e n =
    ap (λ l. take at d ++ (l ++ drop k (drop at d))) e
    ∙ ap (λ l. take at d ++ (s ++ l)) (drop-drop k at d ∙ ap (λ m. drop (at + m) d) n)

-- a number of two digits or more has one more than its front
pub length_more : (n : ℕ) → 10 ≤ n → n < 2 ^ 64 → length (decimal n) ≡ length (decimal (n / 10)) + 1
length_more n h small = ap length (decimal_step n h small) ∙ length-append (decimal (n / 10)) ((48 + n % 10) ∷ [])

-- its last digit after its front
pub put_digit : (d : List ℕ) (at n : ℕ) (out : List ℕ) (end : ℕ) → 10 ≤ n → n < 2 ^ 64 → at + length (decimal n) ≤ length d → out ≡ put d at (decimal (n / 10)) → end ≡ at + length (decimal (n / 10)) → set out end (48 + n % 10) ≡ put d at (decimal n)
put_digit d at n out end h small room is ends =
    let more = length_more n h small in
    let at-end : at + length (decimal (n / 10)) < length d = omega arith in
    ap (λ l. set l end (48 + n % 10)) is
    ∙ ap (λ k. set (put d at (decimal (n / 10))) k (48 + n % 10)) ends
    ∙ put_push d at (decimal (n / 10)) (48 + n % 10) at-end
    ∙ ap (put d at) (sym (decimal_step n h small))

pub put_one_digit : (d : List ℕ) (at n : ℕ) → n < 10 → at + length (decimal n) ≤ length d → set d at (48 + n) ≡ put d at (decimal n)
put_one_digit d at n h room =
    let one = ap length (decimal_digit n h) in
    put_byte d at (48 + n) (omega arith) ∙ ap (put d at) (sym (decimal_digit n h))

-- what was written at the start of a buffer that has room for it
module _ (d s out : List ℕ) (end : ℕ) (room : length s ≤ length d) (is : out ≡ written d 0 s) (ends : end ≡ ended d 0 s) where
  at_end : end ≡ length s
  at_end = ends ∙ ended_fits d 0 s (omega arith) ∙ omega arith

  all : out ≡ s ++ drop (0 + length s) d
  all = is ∙ written_fits d 0 s (omega arith)

  pub front_is : take end out ≡ s
  front_is = (λ j. take (at_end j) (all j)) ∙ take_at s (drop (0 + length s) d) (length s) refl

  pub front_long : end ≡ length (take end out)
  front_long = at_end ∙ sym (ap length front_is)

-- every number fits in twenty places
pub twenty : (n : ℕ) → n < 2 ^ 64 → length (decimal n) ≤ 20
twenty n small = length-decimal-le 20 n (omega arith) (omega arith) small

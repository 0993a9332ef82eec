-- Lists of wishes: what a list has, a wish more, a wish less.
use Rattle.std.proofs.Common.{◌≡◌, ℕ, suc, ◌+◌, ◌<◌, ◌≤◌, Bool, true, false, not, ◌&&◌, eqb, ◌⊎◌, List, [], ◌∷◌, ◌++◌, length, Some, Option, Ok, Err, Result, OnSome, OnOk, OnErr, Decides, All, filter, sym, refl, ap, ◌∙◌, subst, inl, inr, arith}
use Rattle.std.specs.List.{ContainsAt as Has, position, position_or_len, remove, slice_get}
use Rattle.std.specs.Option.{ok_or}
use Rattle.std.proofs.lemmas.Option.{slice_get-get_or}
use Rattle.theory.specs.declared.refusal.Refusal.{Refusal}
use Rattle.theory.specs.declared.refusal.Refusal.TheVariants.{WishAbsent}
use Rattle.wishes.specs.Standings.{striking}
use Rattle.std.proofs.lemmas.Bool.{eqb-true, eq-eqb, and_parts, and_from, or_parts, or_from, not-true, not_from_false, both_ways, cases_Bool, cases_lt, lt-ltb, le-ltb, cond_both}
use Rattle.std.proofs.lemmas.Bool.Decides.{Decides-by_or, Decides-by_and}
use Rattle.std.proofs.lemmas.List.Elements.{All-filter}
use Rattle.std.proofs.lemmas.List.Folds.{list_any-append, list_all-append}
use Rattle.few.specs.Few.{items}
use Rattle.few.specs.declared.Few.{Few}
use Rattle.few.specs.declared.Full.{Full}
use Rattle.theory.specs.declared.wish.Wish.{Wish}
use Rattle.theory.specs.declared.wish.Wish.TheVariants.{Clear, Apart, Fine, Word, Least}
use Rattle.theory.specs.Wishes.{Formed, formed}
use Rattle.theory.proofs.Fronts.{formed_fact}
use Rattle.wishes.specs.Forms.{wish_of}
use Rattle.wishes.specs.Lists.{without, kind_of, first_number, second_number, same_wish, stands, all_formed, distinct}

-- ---- one wish and another

-- a wish is told by its kind and its numbers
told : (x : Wish) → wish_of (kind_of x) (first_number x) (second_number x) ≡ Some x
told (Clear e) = refl
told (Apart e f) = refl
told (Fine e) = refl
told (Word e) = refl
told (Least r) = refl

the_same : (x y : Wish) → Some x ≡ Some y → x ≡ y
the_same x y e = cc

pub same_decides : (x y : Wish) → Decides (same_wish x y) (x ≡ y)
same_decides x y = (to, λ e. subst (λ (z : Wish). same_wish x z ≡ true) e itself)
  where
    to : same_wish x y ≡ true → x ≡ y
    to t =
        let first = and_parts (eqb (kind_of x) (kind_of y)) (eqb (first_number x) (first_number y) && eqb (second_number x) (second_number y)) t in
        let rest = and_parts (eqb (first_number x) (first_number y)) (eqb (second_number x) (second_number y)) first.1 in
        let kinds = eqb-true (kind_of x) (kind_of y) first.0 in
        let firsts = eqb-true (first_number x) (first_number y) rest.0 in
        let seconds = eqb-true (second_number x) (second_number y) rest.1 in
        the_same x y (sym (told x) ∙ (λ i. wish_of (kinds i) (firsts i) (seconds i)) ∙ told y)

    itself : same_wish x x ≡ true
    itself =
        and_from (eqb (kind_of x) (kind_of x)) (eqb (first_number x) (first_number x) && eqb (second_number x) (second_number x)) (eq-eqb (kind_of x) (kind_of x) refl)
        (and_from (eqb (first_number x) (first_number x)) (eqb (second_number x) (second_number x)) (eq-eqb (first_number x) (first_number x) refl) (eq-eqb (second_number x) (second_number x) refl))

other_way : (x y : Wish) → same_wish x y ≡ false → same_wish y x ≡ false
other_way x y f = go (cases_Bool (same_wish y x))
  where
    go : (same_wish y x ≡ true) ⊎ (same_wish y x ≡ false) → same_wish y x ≡ false
    go (inl t) = absurd (both_ways (same_wish x y) f ((same_decides x y).1 (sym ((same_decides y x).0 t))))
    go (inr s) = s

-- ---- what a list has
pub stands_has : (xs : List Wish) (wish : Wish) → Decides (stands xs wish) (Has xs wish)
stands_has xs wish = Decides-by_or (λ x. same_wish x wish) (λ x. x ≡ wish) (λ ys. stands ys wish) (λ x. same_decides x wish) refl (λ _ _. refl) xs

pub all_formed_lem : (n : ℕ) (xs : List Wish) → Decides (all_formed n xs) (All (Formed n) xs)
all_formed_lem n xs = Decides-by_and (formed n) (Formed n) (all_formed n) (formed_fact n) refl (λ _ _. refl) xs

stands_append : (xs ys : List Wish) (wish : Wish) → stands xs wish ≡ false → stands ys wish ≡ false → stands (xs ++ ys) wish ≡ false
stands_append xs ys wish f g = rw (list_any-append (λ x. same_wish x wish) xs ys, f, g) refl

-- ---- a wish more
pub formed_push : (n : ℕ) (xs : List Wish) (wish : Wish) → all_formed n xs ≡ true → formed n wish ≡ true → all_formed n (xs ++ wish ∷ []) ≡ true
formed_push n xs wish all t = rw (list_all-append (formed n) xs (wish ∷ []), all, t) refl

pub distinct_push : (xs : List Wish) (wish : Wish) → distinct xs ≡ true → stands xs wish ≡ false → distinct (xs ++ wish ∷ []) ≡ true
distinct_push [] wish once f = refl
distinct_push (x ∷ xs) wish once f =
    let parts = and_parts (not (stands xs x)) (distinct xs) once in
    let none = or_parts (same_wish x wish) (stands xs wish) f in
    let still = stands_append xs (wish ∷ []) x (not-true (stands xs x) parts.0) (or_from (same_wish wish x) false (other_way x wish none.0) refl) in
    and_from (not (stands (xs ++ wish ∷ []) x)) (distinct (xs ++ wish ∷ [])) (not_from_false (stands (xs ++ wish ∷ []) x) still) (distinct_push xs wish parts.1 none.1)

-- what stands once it was added, or refused for want of room
pub one_more : {room : ℕ} (n : ℕ) (wish : Wish) (old new : Few Wish room) (r : Result Unit Full) → OnOk r (items new ≡ items old ++ wish ∷ []) → OnErr r (new ≡ old)
    → all_formed n (items old) ≡ true → distinct (items old) ≡ true → formed n wish ≡ true → stands (items old) wish ≡ false → (all_formed n (items new) ≡ true) × (distinct (items new) ≡ true)
one_more n wish old new (Ok _) more same all once of none = rw more (formed_push n (items old) wish all of, distinct_push (items old) wish once none)
one_more n wish old new (Err _) more same all once of none = rw same (all, once)

-- ---- a wish less
module _ (p : Wish → Bool) where
  stands_kept : (xs : List Wish) (wish : Wish) → stands xs wish ≡ false → stands (filter p xs) wish ≡ false
  stands_kept [] wish f = f
  stands_kept (x ∷ xs) wish f =
      let parts = or_parts (same_wish x wish) (stands xs wish) f in
      cond_both (p x) (x ∷ filter p xs) (filter p xs) (λ ys. stands ys wish ≡ false)
      (λ _. or_from (same_wish x wish) (stands (filter p xs) wish) parts.0 (stands_kept xs wish parts.1))
      (λ _. stands_kept xs wish parts.1)

  pub formed_kept : (n : ℕ) (xs : List Wish) → all_formed n xs ≡ true → all_formed n (filter p xs) ≡ true
  formed_kept n xs all = (all_formed_lem n (filter p xs)).1 (All-filter p (Formed n) xs ((all_formed_lem n xs).0 all))

  pub distinct_kept : (xs : List Wish) → distinct xs ≡ true → distinct (filter p xs) ≡ true
  distinct_kept [] once = once
  distinct_kept (x ∷ xs) once =
      let parts = and_parts (not (stands xs x)) (distinct xs) once in
      cond_both (p x) (x ∷ filter p xs) (filter p xs) (λ ys. distinct ys ≡ true)
      (λ _. and_from (not (stands (filter p xs) x)) (distinct (filter p xs))
      (not_from_false (stands (filter p xs) x) (stands_kept xs x (not-true (stands xs x) parts.0))) (distinct_kept xs parts.1))
      (λ _. distinct_kept xs parts.1)

-- ---- the place of a wish, and the list without it
module _ (wish : Wish) where
  abbrev pub is_it : Wish → Bool
  is_it x = same_wish x wish

  none_left : (xs : List Wish) → stands xs wish ≡ false → without wish xs ≡ xs
  none_left [] f = refl
  none_left (x ∷ xs) f =
      let parts = or_parts (same_wish x wish) (stands xs wish) f in
      let rest = none_left xs parts.1 in
      rw (parts.0, rest) refl

  absent : (xs : List Wish) → length xs ≤ position_or_len is_it xs → stands xs wish ≡ false
  absent [] l = refl
  absent (x ∷ xs) l = go (cases_Bool (same_wish x wish)) (absent xs)
    where
      go : (same_wish x wish ≡ true) ⊎ (same_wish x wish ≡ false) → (length xs ≤ position_or_len is_it xs → stands xs wish ≡ false) → stands (x ∷ xs) wish ≡ false
      go (inl t) rest = absurd (omega (arith, rw t at l))
      go (inr f) rest = rw f (rest (omega (arith, rw f at l)))

  present : (xs : List Wish) → distinct xs ≡ true → position_or_len is_it xs < length xs → remove xs (position_or_len is_it xs) ≡ without wish xs
  present [] once l = absurd (omega arith)
  present (x ∷ xs) once l = go (and_parts (not (stands xs x)) (distinct xs) once) (cases_Bool (same_wish x wish)) (present xs)
    where
      go : (not (stands xs x) ≡ true) × (distinct xs ≡ true) → (same_wish x wish ≡ true) ⊎ (same_wish x wish ≡ false)
          → (distinct xs ≡ true → position_or_len is_it xs < length xs → remove xs (position_or_len is_it xs) ≡ without wish xs)
          → remove (x ∷ xs) (position_or_len is_it (x ∷ xs)) ≡ without wish (x ∷ xs)
      go once (inl t) rest =
          let none = subst (λ (y : Wish). stands xs y ≡ false) ((same_decides x wish).0 t) (not-true (stands xs x) once.0) in
          rw t (sym (none_left xs none))
      go once (inr f) rest = let k = rest once.1 (omega (arith, rw f at l)) in
          let next : 1 + position_or_len is_it xs ≡ suc (position_or_len is_it xs) = omega arith in
          rw (f, next) (ap (λ (ys : List Wish). x ∷ ys) k)

  -- what is told where it is looked for
  module _ (xs : List Wish) (place : Option ℕ) (is : place ≡ position is_it xs) (answer : Result ℕ Refusal) (told : answer ≡ ok_or place WishAbsent) where
    abbrev at : ℕ
    at = position_or_len is_it xs

    pub refused : (why : Refusal) → answer ≡ Err why → Err why ≡ striking xs wish
    refused why e = go (cases_lt at (length xs))
      where
        go : (at < length xs) ⊎ (length xs ≤ at) → Err why ≡ striking xs wish
        go (inl l) = let here = rw (is, lt-ltb at (length xs) l) at told in cc
        go (inr l) = let none = rw (is, le-ltb at (length xs) l) at told in rw (absent xs l) cc

    pub struck : (i : ℕ) (taken : Option Wish) (ys : List Wish) → answer ≡ Ok i → distinct xs ≡ true → taken ≡ slice_get xs i → OnSome taken (ys ≡ remove xs i) → ys ≡ without wish xs
    struck i taken ys e once got gone = go (cases_lt at (length xs))
      where
        go : (at < length xs) ⊎ (length xs ≤ at) → ys ≡ without wish xs
        go (inl l) =
            let here = rw (is, lt-ltb at (length xs) l) at told in
            let same : i ≡ at = cc in
            let some = rw (got, same, slice_get-get_or xs at wish l) at gone in
            some ∙ present xs once l
        go (inr l) = let none = rw (is, le-ltb at (length xs) l) at told in absurd cc

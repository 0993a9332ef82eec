-- The keys of a walk from the counted columns, branch by branch.
use Rattle.std.proofs.Common.{◌≡◌, ℕ, ◌+◌, ◌-◌, ◌^◌, ◌<◌, ◌≤◌, Bool, true, cond, ltb, List, [], ◌∷◌, ◌++◌, length, Some, None, sym, ap, ◌∙◌, subst, ap₂, subst₂, append_assoc, append-nil, add-one, arith, ltb-true}
use Rattle.std.proofs.lemmas.List.{length_push}
use Rattle.opening.specs.declared.Shape.{Shape}
use Rattle.opening.specs.Shapes.{units_of, factors_of}
use Rattle.figures.specs.declared.counts.Counts.{Counts}
use Rattle.figures.specs.Counted.{columns_in, room_for}
use Rattle.figures.proofs.Rooms.{room_from}
use Rattle.finding.specs.declared.begun.Begun.{Begun}
use Rattle.finding.specs.declared.begun.Opened.{Opened}
use Rattle.finding.specs.Walks.{is_all, closed_in, go_on, upto, keys_from, next_in, keys_after, branch_after}
use Rattle.finding.specs.Listing.{In, Begins}
use Rattle.finding.proofs.Steps.{leaf, node}
use Rattle.finding.proofs.Members.{in_goes}
use Rattle.finding.proofs.Standard.{too_few}

-- what holds with the keys of one branch more
pub step : {V : Type 0} (P : List (List ℕ) → V → Type 0) (f : ℕ → List (List ℕ)) (c : ℕ) (keys : List (List ℕ)) {ks : List (List ℕ)} → f c ≡ ks
    → {v w : V} → w ≡ v → P ((keys ++ upto f c) ++ ks) v → P (keys ++ upto f (c + 1)) w
step P f c keys e d h = subst₂ P (ap (λ (l : List (List ℕ)). (keys ++ upto f c) ++ l) (sym e) ∙ sym more) (sym d) h
  where
    more : keys ++ upto f (c + 1) ≡ (keys ++ upto f c) ++ f c
    more = rw (add-one, append_assoc)

module _ (begun : Begun) where
  abbrev counts : Counts
  counts = begun.counts

  abbrev o : Opened
  o = begun.opened

  few : length (columns_in counts) < factors_of counts.shape
  few = begun.few

  -- there is room for one column more
  pub room : (c : ℕ) → c < 2 ^ units_of counts.shape → room_for counts c ≡ true
  room c h = room_from counts c (omega (arith, few, counts.shape.units.4, counts.shape.spare.1)) h

  -- the branches of all words are all keys
  pub branches : (n : ℕ) (read : Shape) → read ≡ counts.shape → n ≡ 2 ^ units_of read → upto (branch_after counts o) n ≡ keys_after counts o
  branches n read same e =
      let units : units_of counts.shape ≡ counts.shape.w + counts.shape.s = omega arith in
      ap (upto (branch_after counts o)) (e ∙ ap (λ (sh : Shape). 2 ^ units_of sh) same ∙ ap (λ (k : ℕ). 2 ^ k) units)
      ∙ sym (node counts.shape.w counts.shape.s counts.shape.n1 (columns_in counts) o (factors_of counts.shape - length (columns_in counts)) (omega (arith, few)))

  -- where too few columns are left for the unit factors that are closed, there is no key
  pub none_late : (keys : List (List ℕ)) → ltb (factors_of counts.shape - length (columns_in counts)) (closed_in counts.shape o) ≡ true → keys ≡ keys ++ keys_after counts o
  none_late keys e =
      let late = ltb-true (factors_of counts.shape - length (columns_in counts)) (closed_in counts.shape o) e in
      sym (append-nil keys) ∙ ap (λ (ks : List (List ℕ)). keys ++ ks) (sym (too_few counts.shape.w counts.shape.s counts.shape.n1 (factors_of counts.shape - length (columns_in counts)) (columns_in counts) o late))

  -- all keys begin with the columns
  pub all_begin : (key : List ℕ) → In key (keys_after counts o) → Begins (columns_in counts) key
  all_begin key i =
      let m = in_goes counts.shape.w counts.shape.s counts.shape.n1 (factors_of counts.shape - length (columns_in counts)) (columns_in counts) o key i in
      (m.0, m.2)

  -- ---- the branch of one word
  module _ (c : ℕ) where
    -- it may not stand next
    pub no_branch : next_in counts o c ≡ None → branch_after counts o c ≡ []
    no_branch e = rw e

    -- after the last column; the code reads the shape and tests what is open
    pub last_branch : (p : Opened) → next_in counts o c ≡ Some p → factors_of counts.shape - length (columns_in counts) ≤ 1
        → (read : Shape) → read ≡ counts.shape → (all : Bool) → all ≡ is_all read.w read.s p → branch_after counts o c ≡ cond all ((columns_in counts ++ c ∷ []) ∷ []) []
    last_branch p e l read same all is =
        ap (λ q. go_on q (keys_from counts.shape.w counts.shape.s counts.shape.n1 (factors_of counts.shape - length (columns_in counts) - 1) (columns_in counts ++ c ∷ []))) e
        ∙ leaf counts.shape.w counts.shape.s counts.shape.n1 (columns_in counts ++ c ∷ []) p (factors_of counts.shape - length (columns_in counts) - 1) (omega arith)
        ∙ ap (λ (b : Bool). cond b ((columns_in counts ++ c ∷ []) ∷ []) []) (sym (subst (λ (sh : Shape). all ≡ is_all sh.w sh.s p) same is))

    -- with the column placed
    module _ (more : Counts) (same : more.shape ≡ counts.shape) (grown : columns_in more ≡ columns_in counts ++ c ∷ []) where
      pub one_left : factors_of more.shape - length (columns_in more) ≡ factors_of counts.shape - length (columns_in counts) - 1
      one_left =
          ap₂ (λ (sh : Shape) (xs : List ℕ). factors_of sh - length xs) same grown
          ∙ omega (arith, few, length_push (columns_in counts) c)

      pub some_branch : (p : Opened) → next_in counts o c ≡ Some p → branch_after counts o c ≡ keys_after more p
      some_branch p e =
          ap (λ q. go_on q (keys_from counts.shape.w counts.shape.s counts.shape.n1 (factors_of counts.shape - length (columns_in counts) - 1) (columns_in counts ++ c ∷ []))) e
          ∙ ap₂ (λ (r : ℕ) (xs : List ℕ). keys_from counts.shape.w counts.shape.s counts.shape.n1 r xs p) (sym one_left) (sym grown)
          ∙ ap (λ (sh : Shape). keys_from sh.w sh.s sh.n1 (factors_of more.shape - length (columns_in more)) (columns_in more) p) (sym same)

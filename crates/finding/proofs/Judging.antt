-- The first best of a kind, as more keys come, and at the end.
use Rattle.std.proofs.Common.{◌≡◌, ℕ, Bool, true, false, cond, ◌⊎◌, ◌↔◌, List, [], ◌∷◌, ◌++◌, Some, None, Option, sym, refl, ap, ◌∙◌, subst, ap₂, inl, inr, append_assoc}
use Rattle.std.proofs.lemmas.Bool.{false≢true}
use Rattle.theory.specs.declared.tally.Tally.{Tally}
use Rattle.theory.specs.Tallies.{tally}
use Rattle.opening.specs.Shapes.{layers_of}
use Rattle.ranking.specs.declared.verdict.Verdict.{Verdict}
use Rattle.ranking.specs.declared.verdict.Verdict.TheVariants.{Better, Level, Worse}
use Rattle.ranking.specs.Verdicts.{HoldsUp}
use Rattle.ranking.specs.Orders.{Order, by_score}
use Rattle.ranking.specs.OrdersLemmas.{better_than, itself, through, unbeaten}
use Rattle.figures.specs.declared.counts.Counts.{Counts}
use Rattle.figures.specs.Counted.{columns_in, room_for}
use Rattle.finding.specs.declared.judge.Kept.{Kept}
use Rattle.finding.specs.Listing.{In, Before, Rising, Listed}
use Rattle.finding.specs.Best.{FirstBest}
use Rattle.finding.specs.Leading.{is_better, beats, Leads, Keeps, Takes}
use Rattle.finding.proofs.Lists.{in_right, in_either, before_irreflexive, before_asymmetric}

module _ (Kind : List ℕ → Type 0) {ranks : List ℕ → List ℕ → Verdict} (o : Order ranks) where
  -- ---- more keys
  starts : (keys : List (List ℕ)) (k : List ℕ) → ((key : List ℕ) → In key keys → Kind key → ⊥) → Kind k → Leads Kind ranks (keys ++ k ∷ []) k
  starts keys k none h = record { before = keys; behind = []; split = refl; one = h; first = λ x i kind. absurd (none x i kind); best = λ x i. absurd i }

  module _ (keys : List (List ℕ)) (j : List ℕ) (was : Leads Kind ranks keys j) where
    -- it is not worse than any
    leads : (x : List ℕ) → In x keys → Kind x → HoldsUp (ranks j x)
    leads x i kind = go (in_either x was.before (j ∷ was.behind) (subst (In x) was.split i))
      where
        go : In x was.before ⊎ In x (j ∷ was.behind) → HoldsUp (ranks j x)
        go (inl h) = rw (was.first x h kind) tt
        go (inr (inl e)) = rw e (itself o j)
        go (inr (inr h)) = was.best x h kind

    stays : (more : List (List ℕ)) → ((x : List ℕ) → In x more → Kind x → HoldsUp (ranks j x)) → Leads Kind ranks (keys ++ more) j
    stays more h = record {
      before = was.before;
      behind = was.behind ++ more;
      split = ap (λ (l : List (List ℕ)). l ++ more) was.split ∙ append_assoc was.before (j ∷ was.behind) more;
      one = was.one;
      first = was.first;
      best = λ x i kind. go x kind (in_either x was.behind more i);
    }
      where
        go : (x : List ℕ) → Kind x → In x was.behind ⊎ In x more → HoldsUp (ranks j x)
        go x kind (inl i) = was.best x i kind
        go x kind (inr i) = h x i kind

    moves : (k : List ℕ) → ranks k j ≡ Better → Kind k → Leads Kind ranks (keys ++ k ∷ []) k
    moves k h one = record { before = keys; behind = []; split = refl; one = one; first = λ x i kind. better_than o k j x h (leads x i kind); best = λ x i. absurd i }

  -- ---- the end: the keys are all that are seen, and of these the kind are those that are sought
  rising_split : (xs ys : List (List ℕ)) (k l : List ℕ) → Rising (xs ++ k ∷ ys) → In l ys → Before k l
  rising_split [] ys k l r i = r.0 l i
  rising_split (x ∷ xs) ys k l r i = rising_split xs ys k l r.1 i

  pub leader_is_best : {Seen Sought : List ℕ → Type 0} (keys : List (List ℕ)) → Listed Seen keys → ((key : List ℕ) → Sought key ↔ (Seen key × Kind key))
      → (key : List ℕ) → Leads Kind ranks keys key → FirstBest Sought ranks key
  leader_is_best {Sought = Sought} keys listed sought key was = record {
    one = (sought key).1 ((listed.members key).0 (subst (In key) (sym was.split) (in_right key was.before (key ∷ was.behind) (inl refl))), was.one);
    best = λ es k. leads keys key was es ((listed.members es).1 ((sought es).0 k).0) ((sought es).0 k).1;
    first = λ es k b. go es ((sought es).0 k).1 b (in_either es was.before (key ∷ was.behind) (subst (In es) was.split ((listed.members es).1 ((sought es).0 k).0)));
  }
    where
      go : (es : List ℕ) → Kind es → Before es key → In es was.before ⊎ In es (key ∷ was.behind) → ranks key es ≡ Better
      go es k b (inl i) = was.first es i k
      go es k b (inr (inl e)) = absurd (before_irreflexive key (subst (λ (x : List ℕ). Before x key) e b))
      go es k b (inr (inr i)) = absurd (before_asymmetric es key b (rising_split was.before was.behind key es (subst Rising was.split listed.rising) i))

-- where no listed key is of the kind, none is sought
pub none_listed : {Seen Kind Sought : List ℕ → Type 0} (keys : List (List ℕ)) → Listed Seen keys → ((key : List ℕ) → Sought key ↔ (Seen key × Kind key))
    → ((key : List ℕ) → In key keys → Kind key → ⊥) → (key : List ℕ) → Sought key → ⊥
none_listed keys listed sought none key k = none key ((listed.members key).1 ((sought key).0 k).0) ((sought key).0 k).1

-- ---- what is kept
is_better_lem : (v : Verdict) → is_better v ≡ true → v ≡ Better
is_better_lem Better e = refl
is_better_lem Level e = absurd (false≢true e)
is_better_lem Worse e = absurd (false≢true e)

module _ (Kind : List ℕ → Type 0) {S : Type 0} (score : List ℕ → S) (ranks : S → S → Verdict) (o : Order ranks) (keys : List (List ℕ)) where
  by : Order (by_score score ranks)
  by = through score o

  -- more keys come that are not of the kind
  pub keeps_on : (best : Option (Kept S)) → Keeps Kind score ranks keys best → (more : List (List ℕ)) → ((key : List ℕ) → In key more → Kind key → ⊥) → Keeps Kind score ranks (keys ++ more) best
  keeps_on None was more none = λ x i kind. elim (in_either x keys more i) [ inl h ↦ was x h kind | inr h ↦ none x h kind ]
  keeps_on (Some kept) was more none = (stays Kind by keys (columns_in kept.counts) was.0 more (λ x i kind. absurd (none x i kind)), was.1)

  -- one more key that is not better
  keeps_old : (k : List ℕ) (best : Option (Kept S)) → Keeps Kind score ranks keys best → beats ranks best (score k) ≡ false → Keeps Kind score ranks (keys ++ k ∷ []) best
  keeps_old k None was b = absurd (false≢true (sym b))
  keeps_old k (Some kept) was b = (stays Kind by keys (columns_in kept.counts) was.0 (k ∷ []) level, was.1)
    where
      level : (x : List ℕ) → In x (k ∷ []) → Kind x → HoldsUp (by_score score ranks (columns_in kept.counts) x)
      level x (inl e) kind = rw e (unbeaten o (score (columns_in kept.counts)) (score k) (λ p. false≢true (sym b ∙ ap is_better (ap (ranks (score k)) was.1 ∙ p))))
      level x (inr i) kind = absurd i

  -- one more key of the kind that is the first, or better
  keeps_new : (k : List ℕ) → Kind k → (best : Option (Kept S)) → Keeps Kind score ranks keys best → beats ranks best (score k) ≡ true → Leads Kind (by_score score ranks) (keys ++ k ∷ []) k
  keeps_new k one None was b = starts Kind by keys k was one
  keeps_new k one (Some kept) was b = moves Kind by keys (columns_in kept.counts) was.0 k (ap (ranks (score k)) (sym was.1) ∙ is_better_lem (ranks (score k) kept.score) b) one

-- what is had where a test passes
passed : {X : Type 0} (b : Bool) (x y : X) → b ≡ true → Some x ≡ cond b (Some y) None → x ≡ y
passed b x y e h = same (h ∙ ap (λ (v : Bool). cond v (Some y) None) e)
  where
    same : Some x ≡ Some y → x ≡ y
    same k = cc

-- ---- the counted columns and one more, as the code scores and compares them
module _ {R S : Type 0} (scored : R → Tally → S) (ranked : R → S → S → Verdict) (order : (r : R) → Order (ranked r)) (counts : Counts) (column : ℕ) (fits : room_for counts column ≡ true)
    (u r : R) (same : r ≡ u) (found : Tally) (is : Some found ≡ cond (room_for counts column) (Some (tally (layers_of counts.shape) (columns_in counts ++ column ∷ []))) None) (x : S) (scores : x ≡ scored r found)
    (Kind : List ℕ → Type 0) (keys : List (List ℕ)) (best : Option (Kept S)) where
  abbrev key : List ℕ
  key = columns_in counts ++ column ∷ []

  abbrev score : List ℕ → S
  score k = scored u (tally (layers_of counts.shape) k)

  score_is : x ≡ score key
  score_is = scores ∙ ap₂ scored same (passed (room_for counts column) found (tally (layers_of counts.shape) key) fits is)

  beaten : (b : Bool) → b ≡ beats (ranked r) best x → beats (ranked u) best (score key) ≡ b
  beaten b e = ap₂ (λ q z. beats (ranked q) best z) (sym same) (sym score_is) ∙ sym e

  module _ (was : Keeps Kind score (ranked u) keys best) (b : Bool) (asked : b ≡ beats (ranked r) best x) where
    -- the best so far stays
    pub keep_old : b ≡ false → Keeps Kind score (ranked u) (keys ++ key ∷ []) best
    keep_old e = keeps_old Kind score (ranked u) (order u) keys key best was (beaten b asked ∙ e)

    -- the new one takes its place where it is of the kind
    pub keep_taken : b ≡ true → (new : Option (Kept S)) → Takes Kind key x best new → Keeps Kind score (ranked u) (keys ++ key ∷ []) new
    keep_taken e new (inl (other, same)) = rw same (keeps_on Kind score (ranked u) (order u) keys best was (key ∷ []) none)
      where
        none : (k : List ℕ) → In k (key ∷ []) → Kind k → ⊥
        none k (inl i) one = other (subst Kind i one)
        none k (inr i) one = absurd i
    keep_taken e None (inr (one, is)) = absurd is
    keep_taken e (Some kept) (inr (one, is)) = (
      subst (Leads Kind (by_score score (ranked u)) (keys ++ key ∷ [])) (sym is.0) (keeps_new Kind score (ranked u) (order u) keys key one best was (beaten b asked ∙ e)),
      is.1 ∙ score_is ∙ ap score (sym is.0),
    )

-- What adding, striking and finding leave.
use Rattle.std.proofs.Common.{◌≡◌, ℕ, true, List, [], ◌∷◌, ◌++◌, length, IfSome, Some, None, Ok, Err, Option, Result, sym, refl, ap, ◌∙◌, subst, subst₂}
use Rattle.std.specs.Option.{ok_or}
use Rattle.std.specs.Result.{result_or}
use mathlib.Core.Path.{PathP, to_path_p}
use base.Stored.{Coded-set, coded_ℕ}
use Rattle.theory.specs.declared.refusal.Refusal.{Refusal}
use Rattle.theory.specs.declared.refusal.Refusal.TheVariants.{WishAbsent, NoKey}
use Rattle.theory.specs.declared.tally.Tally.{Tally}
use Rattle.theory.specs.declared.wish.Wish.{Wish}
use Rattle.theory.specs.Wishes.{Formed, Meets, formed}
use Rattle.theory.proofs.Fronts.{formed_fact}
use Rattle.opening.specs.declared.Shape.{Shape}
use Rattle.opening.specs.Shapes.{layers_of, factors_of}
use Rattle.figures.specs.declared.counts.Counts.{Counts}
use Rattle.figures.specs.Counted.{columns_in}
use Rattle.key.specs.declared.Key.{Key}
use Rattle.key.specs.Questions.{columns_of}
use Rattle.key.proofs.Soundness.{length_columns}
use Rattle.ranking.specs.declared.verdict.Verdict.{Verdict}
use Rattle.wishes.specs.Forms.{wish_of, forming, second_fits}
use Rattle.wishes.specs.Lists.{without}
use Rattle.wishes.specs.Standings.{wishes_in, adding, striking}
use Rattle.wishes.specs.Tests.{Fails, Passes}
use Rattle.planner.specs.declared.effect.Effect.{Effect}
use Rattle.planner.specs.declared.effect.Effect.TheVariants.{Stays, Falls}
use Rattle.planner.specs.declared.planner.Planner.{Planner}
use Rattle.finding.specs.Best.{Finding, FindingSound, Wished}
use Rattle.planner.specs.Entries.{Entry, add, strike, find}
use Rattle.planner.specs.Plans.{factors_or}
use Rattle.planner.specs.Rules.{Ruled, Added, AddedTo, AddedBy, strike_answer, struck_by, wish_list, struck_from, wishes_after, plan_after}
use Rattle.planner.specs.Histories.{ranks_of, Goes}
use Rattle.planner.proofs.Promises.{checked_ok}
use Rattle.planner.proofs.Going.{goes}

-- planners with the same ranking, wishes and plan are the same
pub same_planner : {R : Type 0} (a b : Planner R) → a.ranking ≡ b.ranking → a.standing ≡ b.standing → a.plan ≡ b.plan → a ≡ b
same_planner a b r s p = λ i. record { ranking = r i; standing = s i; plan = p i; fits = fits_over i }
  where
    Fits : 𝕀 → Type 0
    Fits = λ i. factors_or (factors_of (s i).shape) (p i) ≡ factors_of (s i).shape

    fits_over : PathP Fits a.fits b.fits
    fits_over = to_path_p Fits (Coded-set coded_ℕ _ _ _ b.fits)

module _ {R S : Type 0} (scored : R → Tally → S) (ranked : R → S → S → Verdict) (before after : Planner R) (same : after.ranking ≡ before.ranking) where
  abbrev shape : Shape
  shape = before.standing.shape

  abbrev n : ℕ
  n = factors_of shape

  abbrev wishes : List Wish
  wishes = wishes_in before.standing

  -- a call that leaves wishes and plan as they were
  pub unchanged : (entry : Entry) → Ruled shape (ranks_of scored ranked before) wishes before.plan entry
      → wishes_after wishes entry ≡ wishes → plan_after before.plan entry ≡ before.plan
      → after.standing ≡ before.standing → after.plan ≡ before.plan → Goes scored ranked before entry after
  unchanged entry ruled ws plan standing-is plan-is =
      goes scored ranked before after entry ruled
      (record {
        ranking = same;
        shape = ap (λ s. s.shape) standing-is;
        wishes = ap wishes_in standing-is ∙ sym ws;
        plan = plan-is ∙ sym plan;
        untouched = λ _. same_planner after before same standing-is plan-is;
      })

  -- ---- finding
  pub not_found : (r : Result Key Refusal) → r ≡ Err NoKey → (o : Option Key) → o ≡ None → FindingSound columns_of shape wishes (ranks_of scored ranked before) o
      → after.standing ≡ before.standing → after.plan ≡ before.plan → Goes scored ranked before (find r) after
  not_found r told o none nothing standing-is plan-is =
      subst (λ (a : Result Key Refusal). Goes scored ranked before (find a) after) (sym told)
      (unchanged (find (Err NoKey)) (refl, subst (FindingSound columns_of shape wishes (ranks_of scored ranked before)) none nothing) refl refl standing-is plan-is)

  pub found : (key : Key) (o : Option Key) → o ≡ Some key → IfSome o (λ k. k.shape ≡ shape)
      → Finding columns_of (Wished shape wishes) (ranks_of scored ranked before) o
      → after.standing ≡ before.standing → after.plan ≡ Some key → Goes scored ranked before (find (Ok key)) after
  found key o one shape-is best standing-is plan-is =
      goes scored ranked before after (find (Ok key)) (
        subst (λ (a : Option Key). IfSome a (λ k. k.shape ≡ shape)) one shape-is,
        subst (Finding columns_of (Wished shape wishes) (ranks_of scored ranked before)) one best,
      )
      (record { ranking = same; shape = ap (λ s. s.shape) standing-is; wishes = ap wishes_in standing-is; plan = plan-is; untouched = λ never. absurd never })

  module _ (kind e f : ℕ) where
    -- ---- adding
    pub not_formed : (why : Refusal) (r : Result Effect Refusal) → forming n kind e f ≡ Err why → r ≡ Err why
        → after.standing ≡ before.standing → after.plan ≡ before.plan → Goes scored ranked before (add kind e f r) after
    not_formed why r is told standing-is plan-is =
        subst (λ (a : Result Effect Refusal). Goes scored ranked before (add kind e f a) after) (sym told)
        (unchanged (add kind e f (Err why)) (subst (λ (fr : Result Wish Refusal). Added shape wishes before.plan fr (Err why)) (sym is) refl) refl refl standing-is plan-is)

    module _ (wish : Wish) (is : forming n kind e f ≡ Ok wish) where
      -- its kind and numbers, and that it is formed
      wish_is : (wish_of kind e f ≡ Some wish) × (formed n wish ≡ true)
      wish_is = checked_ok n (second_fits kind f) (wish_of kind e f) wish is

      pub is_formed : formed n wish ≡ true
      is_formed = wish_is.1

      to_added : (a : Result Unit Refusal) (r : Result Effect Refusal) → adding n wishes wish ≡ a → AddedTo before.plan wish a r → Added shape wishes before.plan (forming n kind e f) r
      to_added a r says to =
          subst (λ (fr : Result Wish Refusal). Added shape wishes before.plan fr r) (sym is)
          (subst (λ (x : Result Unit Refusal). AddedTo before.plan wish x r) (sym says) to)

      pub not_added : (why : Refusal) (r : Result Effect Refusal) → adding n wishes wish ≡ Err why → r ≡ Err why
          → after.standing ≡ before.standing → after.plan ≡ before.plan → Goes scored ranked before (add kind e f r) after
      not_added why r says told standing-is plan-is =
          subst (λ (a : Result Effect Refusal). Goes scored ranked before (add kind e f a) after) (sym told)
          (unchanged (add kind e f (Err why)) (to_added (Err why) (Err why) says refl) refl refl standing-is plan-is)

      pub added : (effect : Effect) → adding n wishes wish ≡ Ok tt → AddedBy before.plan wish (Ok effect)
          → (after.standing.shape ≡ shape) × (wishes_in after.standing ≡ wishes ++ wish ∷ [])
          → after.plan ≡ plan_after before.plan (add kind e f (Ok effect)) → Goes scored ranked before (add kind e f (Ok effect)) after
      added effect says by now plan-is =
          goes scored ranked before after (add kind e f (Ok effect)) (to_added (Ok tt) (Ok effect) says by)
          (record {
            ranking = same;
            shape = now.0;
            wishes = now.1 ∙ ap (λ (o : Option Wish). wishes ++ wish_list o) (sym wish_is.0);
            plan = plan-is;
            untouched = λ never. absurd never;
          })

      -- ---- striking
      pub not_struck : (why : Refusal) (r : Result Effect Refusal) → striking wishes wish ≡ Err why → r ≡ Err why
          → after.standing ≡ before.standing → after.plan ≡ before.plan → Goes scored ranked before (strike kind e f r) after
      not_struck why r says told standing-is plan-is =
          subst (λ (a : Result Effect Refusal). Goes scored ranked before (strike kind e f a) after) (sym told)
          (unchanged (strike kind e f (Err why)) (sym (ap (strike_answer wishes before.plan) is ∙ ap (struck_by before.plan) says)) refl refl standing-is plan-is)

      pub struck : (effect : Effect) → striking wishes wish ≡ Ok tt → struck_by before.plan (Ok tt) ≡ Ok effect
          → (after.standing.shape ≡ shape) × (wishes_in after.standing ≡ without wish wishes)
          → after.plan ≡ None → Goes scored ranked before (strike kind e f (Ok effect)) after
      struck effect says by now plan-is =
          goes scored ranked before after (strike kind e f (Ok effect)) (sym (ap (strike_answer wishes before.plan) is ∙ ap (struck_by before.plan) says ∙ by))
          (record {
            ranking = same;
            shape = now.0;
            wishes = now.1 ∙ ap (λ (o : Option Wish). struck_from o wishes) (sym wish_is.0);
            plan = plan-is;
            untouched = λ never. absurd never;
          })

    -- what is not formed does not stand
    pub none_struck : (why : Refusal) (r : Result Effect Refusal) → forming n kind e f ≡ Err why → r ≡ Err WishAbsent
        → after.standing ≡ before.standing → after.plan ≡ before.plan → Goes scored ranked before (strike kind e f r) after
    none_struck why r is told standing-is plan-is =
        subst (λ (a : Result Effect Refusal). Goes scored ranked before (strike kind e f a) after) (sym told)
        (unchanged (strike kind e f (Err WishAbsent)) (sym (ap (strike_answer wishes before.plan) is)) refl refl standing-is plan-is)

-- ---- a wish tested on the standing plan
module _ {R : Type 0} (p : Planner R) (plan : Key) (stands : p.plan ≡ Some plan) (wish : Wish) (of : formed (factors_of p.standing.shape) wish ≡ true)
    (counts : Counts) (Shape-is : counts.shape ≡ plan.shape) (columns-are : columns_in counts ≡ columns_of plan) where
  formed_here : Formed (length (columns_in counts)) wish
  formed_here =
      subst (λ (m : ℕ). Formed m wish)
      (sym p.fits ∙ ap (factors_or (factors_of p.standing.shape)) stands ∙ sym (length_columns plan) ∙ sym (ap length columns-are))
      ((formed_fact (factors_of p.standing.shape) wish).0 of)

  abbrev Meeting : Shape → List ℕ → Type 0
  Meeting shape cs = Meets (layers_of shape) cs wish

  pub plan_stays : Passes (layers_of counts.shape) (columns_in counts) wish → AddedBy p.plan wish (Ok Stays)
  plan_stays passes = subst (λ (o : Option Key). AddedBy o wish (Ok Stays)) (sym stands) (subst₂ Meeting Shape-is columns-are (passes formed_here))

  pub plan_falls : Fails (layers_of counts.shape) (columns_in counts) wish → AddedBy p.plan wish (Ok Falls)
  plan_falls fails = subst (λ (o : Option Key). AddedBy o wish (Ok Falls)) (sym stands) (λ meets. fails.1 (subst₂ Meeting (sym Shape-is) (sym columns-are) meets))

-- ---- what forming a wish to be struck gave
pub formed_wish : {A : Type 0} (r : Result A Refusal) (x : A) → result_or {D = Refusal} r (Err WishAbsent) ≡ Ok x → r ≡ Ok x
formed_wish (Ok y) x told = cc
formed_wish (Err why) x told = cc

pub no_wish : {A : Type 0} (r : Result A Refusal) (last : Refusal) → result_or {D = Refusal} r (Err WishAbsent) ≡ Err last → ((why : Refusal) × (r ≡ Err why)) × (last ≡ WishAbsent)
no_wish (Ok x) last told = cc
no_wish (Err why) last told = ((why, refl), cc)

-- ---- what finding found
pub none_found : {A : Type 0} (o : Option A) (why : Refusal) → ok_or o NoKey ≡ Err why → (o ≡ None) × (why ≡ NoKey)
none_found None why told = (refl, cc)
none_found (Some x) why told = cc

pub one_found : {A : Type 0} (o : Option A) (x : A) → ok_or o NoKey ≡ Ok x → o ≡ Some x
one_found None x told = cc
one_found (Some y) x told = cc

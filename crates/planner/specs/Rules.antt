-- How each call is answered, by the wishes and the plan that stand. Assumes nothing.
use Rattle.std.specs.Prelude.{◌≡◌, ℕ, List, [], ◌∷◌, ◌++◌, length, Some, None, Ok, Err, Option, Result}
use Rattle.theory.specs.declared.refusal.Refusal.{Refusal}
use Rattle.theory.specs.declared.refusal.Refusal.TheVariants as refused
use Rattle.theory.specs.declared.wish.Wish.{Wish}
use Rattle.theory.specs.Chains as chains
use Rattle.theory.specs.Tallies as figures
use Rattle.theory.specs.Wishes.{Meets}
use Rattle.opening.specs.declared.Shape.{Shape}
use Rattle.opening.specs.Shapes.{layers_of, factors_of}
use Rattle.key.specs.declared.Key.{Key}
use Rattle.key.specs.Questions.{columns_of, key_answer, sign_answer, alias_answer, chain_answer, layout_answer, layout_of, filled}
use Rattle.ranking.specs.declared.verdict.Verdict.{Verdict}
use Rattle.wishes.specs.Forms.{wish_of, forming}
use Rattle.wishes.specs.Lists.{without}
use Rattle.wishes.specs.Standings.{adding, striking}
use Rattle.finding.specs.Best.{FirstBest, Wished, NoSound}
use Rattle.planner.specs.declared.effect.Effect.{Effect}
use Rattle.planner.specs.declared.effect.Effect.TheVariants.{NoPlan, Stays, Falls}
use Rattle.planner.specs.Entries.{Asked, Entry, key, sign, alias, chain, tally, resolution, layout, add, strike, find, ask}

-- ---- adding: is the kind known, are the numbers formed, does it not stand yet, do fewer than twelve stand

-- a plan that meets the wish stays, another falls
abbrev pub AddedBy : Option Key → Wish → Result Effect Refusal → Type 0
AddedBy None wish r = r ≡ Ok NoPlan
AddedBy (Some plan) wish (Ok NoPlan) = ⊥
AddedBy (Some plan) wish (Ok Stays) = Meets (layers_of plan.shape) (columns_of plan) wish
AddedBy (Some plan) wish (Ok Falls) = Meets (layers_of plan.shape) (columns_of plan) wish → ⊥
AddedBy (Some plan) wish (Err why) = ⊥

-- a formed wish
abbrev pub AddedTo : Option Key → Wish → Result Unit Refusal → Result Effect Refusal → Type 0
AddedTo plan wish (Err why) r = r ≡ Err why
AddedTo plan wish (Ok fine) r = AddedBy plan wish r

abbrev pub Added : Shape → List Wish → Option Key → Result Wish Refusal → Result Effect Refusal → Type 0
Added shape wishes plan (Err why) r = r ≡ Err why
Added shape wishes plan (Ok wish) r = AddedTo plan wish (adding (factors_of shape) wishes wish) r

-- ---- striking: does this very wish stand

-- a standing plan falls
abbrev pub struck_by : Option Key → Result Unit Refusal → Result Effect Refusal
struck_by plan (Err why) = Err why
struck_by None (Ok fine) = Ok NoPlan
struck_by (Some plan) (Ok fine) = Ok Falls

-- what is no wish of this trial does not stand
abbrev pub strike_answer : List Wish → Option Key → Result Wish Refusal → Result Effect Refusal
strike_answer wishes plan (Err why) = Err refused.WishAbsent
strike_answer wishes plan (Ok wish) = struck_by plan (striking wishes wish)

-- ---- finding: does a sound key meet all standing wishes

-- The best standard key that meets the wishes is put in place, the first of those in dictionary order that are level; or
-- no sound key meets them.
abbrev pub Found : Shape → (List ℕ → List ℕ → Verdict) → List Wish → Result Key Refusal → Type 0
Found shape ranks wishes (Ok plan) = (plan.shape ≡ shape) × FirstBest (Wished shape wishes) ranks (columns_of plan)
Found shape ranks wishes (Err why) = (why ≡ refused.NoKey) × NoSound shape wishes

-- ---- questions: does a plan stand; the rest is the key's own answer

abbrev pub of_plan : {A : Type 0} → Option Key → (Key → Result A Refusal) → Result A Refusal
of_plan None answer = Err refused.NoPlan
of_plan (Some plan) answer = answer plan

-- a buffer that a question fills with a part of the plan
abbrev pub filled_by : Option Key → (Key → List ℕ) → Result ℕ Refusal → List ℕ → List ℕ
filled_by None content r out = out
filled_by (Some plan) content r out = filled r (content plan) out

abbrev pub Answered : Option Key → Asked → Type 0
Answered plan (key out r out') = (r ≡ of_plan plan (λ k. key_answer k (length out))) × (out' ≡ filled_by plan columns_of r out)
Answered plan (sign e u r) = r ≡ of_plan plan (λ k. sign_answer k e u)
Answered plan (alias e r) = r ≡ of_plan plan (λ k. alias_answer k e)
Answered plan (chain e out r out') = (r ≡ of_plan plan (λ k. chain_answer k e (length out))) × (out' ≡ filled_by plan (λ k. chains.chain (columns_of k) e) r out)
Answered plan (tally r) = r ≡ of_plan plan (λ k. Ok (figures.tally (layers_of k.shape) (columns_of k)))
Answered plan (resolution r) = r ≡ of_plan plan (λ k. Ok (figures.resolution (columns_of k)))
Answered plan (layout out r out') = (r ≡ of_plan plan (λ k. layout_answer k (length out))) × (out' ≡ filled_by plan layout_of r out)

-- ---- all calls

-- The call is answered by the rules, where these wishes and this plan stand.
abbrev pub Ruled : Shape → (List ℕ → List ℕ → Verdict) → List Wish → Option Key → Entry → Type 0
Ruled shape ranks wishes plan (add kind e f r) = Added shape wishes plan (forming (factors_of shape) kind e f) r
Ruled shape ranks wishes plan (strike kind e f r) = r ≡ strike_answer wishes plan (forming (factors_of shape) kind e f)
Ruled shape ranks wishes plan (find r) = Found shape ranks wishes r
Ruled shape ranks wishes plan (ask question) = Answered plan question

-- a refused call or a question: one that changes nothing
abbrev pub Idle : Entry → Type 0
Idle (add kind e f (Ok effect)) = ⊥
Idle (add kind e f (Err why)) = Unit {0}
Idle (strike kind e f (Ok effect)) = ⊥
Idle (strike kind e f (Err why)) = Unit {0}
Idle (find (Ok plan)) = ⊥
Idle (find (Err why)) = Unit {0}
Idle (ask question) = Unit {0}

-- the wish of a kind with its numbers, as a list
abbrev pub wish_list : Option Wish → List Wish
wish_list None = []
wish_list (Some wish) = wish ∷ []

-- A granted adding brings its wish, a granted striking takes it.
abbrev pub struck_from : Option Wish → List Wish → List Wish
struck_from None wishes = wishes
struck_from (Some wish) wishes = without wish wishes

abbrev pub wishes_after : List Wish → Entry → List Wish
wishes_after wishes (add kind e f (Ok effect)) = wishes ++ wish_list (wish_of kind e f)
wishes_after wishes (add kind e f (Err why)) = wishes
wishes_after wishes (strike kind e f (Ok effect)) = struck_from (wish_of kind e f) wishes
wishes_after wishes (strike kind e f (Err why)) = wishes
wishes_after wishes (find r) = wishes
wishes_after wishes (ask question) = wishes

-- A plan stands from a granted finding until a wish is granted that it does not meet or a strike is granted; a further
-- granted finding puts its own in place.
abbrev pub plan_after : Option Key → Entry → Option Key
plan_after plan (add kind e f (Ok NoPlan)) = plan
plan_after plan (add kind e f (Ok Stays)) = plan
plan_after plan (add kind e f (Ok Falls)) = None
plan_after plan (add kind e f (Err why)) = plan
plan_after plan (strike kind e f (Ok effect)) = None
plan_after plan (strike kind e f (Err why)) = plan
plan_after plan (find (Ok found)) = Some found
plan_after plan (find (Err why)) = plan
plan_after plan (ask question) = plan

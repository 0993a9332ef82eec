-- A call that is answered by the rules and leaves what they say goes on from every history.
use Rattle.std.proofs.Common.{◌≡◌, List, ◌∷◌, Some, Option, sym, refl, ap, ◌∙◌, subst}
use Rattle.theory.specs.declared.tally.Tally.{Tally}
use Rattle.theory.specs.declared.wish.Wish.{Wish}
use Rattle.opening.specs.declared.Shape.{Shape}
use Rattle.key.specs.declared.Key.{Key}
use Rattle.ranking.specs.declared.verdict.Verdict.{Verdict}
use Rattle.wishes.specs.Standings.{wishes_in}
use Rattle.finding.specs.Best.{by_tally}
use Rattle.finding.proofs.Soundest.{first_is_best}
use Rattle.planner.specs.Entries.{Asked, Entry, ask}
use Rattle.planner.specs.Rules.{Ruled, Answered, wishes_after, plan_after}
use Rattle.planner.specs.Histories.{standing, Lawful, ranks_of, Reached, Leaves, Goes}
use Rattle.planner.specs.declared.planner.Planner.{Planner}
use Rattle.planner.proofs.Promises.{promise}

module _ {R S : Type 0} (scored : R → Tally → S) (ranked : R → S → S → Verdict) (before after : Planner R) (entry : Entry)
    (ruled : Ruled before.standing.shape (ranks_of scored ranked before) (wishes_in before.standing) before.plan entry) (leaves : Leaves before entry after) where
  -- the history with this call is lawful
  lawful : (h : List Entry) → Reached scored ranked h before → Lawful before.standing.shape (ranks_of scored ranked before) (entry ∷ h)
  lawful h was = (
    subst (λ (plan : Option Key). Ruled before.standing.shape (ranks_of scored ranked before) (standing h) plan entry) was.plan
        (subst (λ (wishes : List Wish). Ruled before.standing.shape (ranks_of scored ranked before) wishes before.plan entry) was.wishes ruled),
    was.lawful,
  )

  reached : (h : List Entry) → Reached scored ranked h before → Reached scored ranked (entry ∷ h) after
  reached h was = record {
    wishes = leaves.wishes ∙ ap (λ (xs : List Wish). wishes_after xs entry) was.wishes;
    plan = leaves.plan ∙ ap (λ (plan : Option Key). plan_after plan entry) was.plan;
    lawful = subst (λ (shape : Shape). Lawful shape (by_tally shape (scored after.ranking) (ranked after.ranking)) (entry ∷ h)) (sym leaves.shape)
        (subst (λ (r : R). Lawful before.standing.shape (by_tally before.standing.shape (scored r) (ranked r)) (entry ∷ h)) (sym leaves.ranking) (lawful h was));
  }

  pub goes : Goes scored ranked before entry after
  goes = record {
    ruled = ruled;
    leaves = leaves;
    reached = reached;
    promise = λ h was.
        promise before.standing.shape (ranks_of scored ranked before)
        (λ wishes formed cs. first_is_best before.standing.shape wishes formed (scored before.ranking) (ranked before.ranking) cs)
        (entry ∷ h) (lawful h was);
  }

-- a question changes nothing
pub asked : {R S : Type 0} (scored : R → Tally → S) (ranked : R → S → S → Verdict) (p : Planner R) (question : Asked) → Answered p.plan question → Goes scored ranked p (ask question) p
asked scored ranked p question answered = goes scored ranked p p (ask question) answered (record { ranking = refl; shape = refl; wishes = refl; plan = refl; untouched = λ _. refl })

-- a question of a standing plan, which answers it
pub asked_of : {R S : Type 0} (scored : R → Tally → S) (ranked : R → S → S → Verdict) (p : Planner R) (question : Asked) (plan : Key) → p.plan ≡ Some plan → Answered (Some plan) question → Goes scored ranked p (ask question) p
asked_of scored ranked p question plan stands answered = asked scored ranked p question (subst (λ (o : Option Key). Answered o question) (sym stands) answered)

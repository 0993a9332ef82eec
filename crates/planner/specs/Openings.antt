-- Places for a planner, and trials opened there. Assumes nothing.
use Rattle.std.specs.Prelude.{◌≡◌, ℕ, [], Some, None, Ok, Err, Result}
use Rattle.theory.specs.declared.refusal.Refusal.{Refusal}
use Rattle.theory.specs.declared.tally.Tally.{Tally}
use Rattle.opening.specs.declared.Shape.{Shape}
use Rattle.opening.specs.Shapes.{opening_fault}
use Rattle.ranking.specs.declared.verdict.Verdict.{Verdict}
use Rattle.wishes.specs.Standings.{wishes_in}
use Rattle.planner.specs.Histories.{Reached}
use Rattle.planner.specs.declared.planner.Planner.{Planner}

-- A place that stands as after an opening of this shape with this ranking: neither a wish nor a plan stands, and the
-- history begins.
pub record Begins {R S : Type 0} (scored : R → Tally → S) (ranked : R → S → S → Verdict) (shape : Shape) (ranking : R) (p : Planner R) : Type 0 where
  pub ranking_is : p.ranking ≡ ranking
  pub shape_is : p.standing.shape ≡ shape
  pub unwished : wishes_in p.standing ≡ []
  pub unplanned : p.plan ≡ None
  pub reached : Reached scored ranked [] p

-- the shape with these numbers
abbrev pub Numbers : ℕ → ℕ → ℕ → ℕ → Shape → Type 0
Numbers w s n1 n2 shape = (shape.w ≡ w) × (shape.s ≡ s) × (shape.n1 ≡ n1) × (shape.n2 ≡ n2)

abbrev pub BeginsWith : {R S : Type 0} → (R → Tally → S) → (R → S → S → Verdict) → ℕ → ℕ → ℕ → ℕ → R → Planner R → Type 0
BeginsWith scored ranked w s n1 n2 ranking p = (shape : Shape) × Numbers w s n1 n2 shape × Begins scored ranked shape ranking p

-- Opening is refused with the first check that says 'no', and then nothing has changed.
abbrev pub Opened : {R S : Type 0} → (R → Tally → S) → (R → S → S → Verdict) → ℕ → ℕ → ℕ → ℕ → R → Result Unit Refusal → Planner R → Planner R → Type 0
Opened scored ranked w s n1 n2 ranking (Ok fine) before after = (opening_fault w s n1 n2 ≡ None) × BeginsWith scored ranked w s n1 n2 ranking after
Opened scored ranked w s n1 n2 ranking (Err why) before after = (opening_fault w s n1 n2 ≡ Some why) × (after ≡ before)

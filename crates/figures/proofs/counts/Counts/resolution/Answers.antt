use Rattle.std.proofs.Common.{rules, ◌≡◌, ◌≢◌, ℕ, subst}
use Rattle.std.proofs.lemmas.Iterator.{first_from_Range}
use Rattle.theory.specs.Tallies.{members}
use Rattle.figures.specs.Counted.{columns_in}
use Rattle.figures.proofs.Lengths.{IsFirst, resolution_is}
use Rattle.figures.proofs.counts.Counts.resolution.Goals as goal

pub returns : goal.returns
returns c =
    let cs = columns_in c.args.self.now in
    let Has : ℕ → Type 0 = λ j. members cs j 0 ≢ 0 in
    let HasNone : ℕ → Type 0 = λ j. members cs j 0 ≡ 0 in
    let found : IsFirst cs 1 c.len.result c.find.result = first_from_Range _ c.find.new.self _ c.find.result Has HasNone c.find.ensures.ran (λ x q k. search rules) (λ x q k. search rules) in
    resolution_is cs c.find.result (subst (λ (n : ℕ). IsFirst cs 1 n c.find.result) c.len.ensures.value found)

use Rattle.theory.proofs.Defining.{defining_fact, resolution_fact}
use Rattle.theory.proofs.laws.mean_and_defining_words.Goals as goal

pub returns : goal.returns
returns c = record { words = defining_fact; shortest = resolution_fact }

use Rattle.std.proofs.Common.{ℕ, ◌^◌, ◌<◌, sym, subst}
use Rattle.opening.specs.Shapes.{units_of}
use Rattle.key.proofs.Soundness.{word_lt}
use Rattle.key.proofs.Key.known_word.Goals as goal

pub returns-clause-word : goal.returns-clause-word
returns-clause-word c =
    let key = c.args.self.now in
    (c.word.ensures, subst (λ (v : ℕ). v < 2 ^ units_of key.shape) (sym c.word.ensures) (word_lt key c.args.effect))

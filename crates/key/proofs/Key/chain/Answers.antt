use Rattle.std.proofs.Common.{◌≡◌, ℕ, [], ◌∷◌, length, sym, ap, ◌∙◌}
use Rattle.theory.specs.declared.refusal.Refusal.TheVariants.{NoEffect}
use Rattle.opening.specs.Shapes.{size_of_chain, granted}
use Rattle.opening.proofs.Checks.{granted_next}
use Rattle.key.specs.Questions.{word_of, effect_check, room_check}
use Rattle.key.proofs.Members.{size}
use Rattle.key.proofs.Key.chain.Goals as goal

pub returns-clause-answer : goal.returns-clause-answer
returns-clause-answer c =
    let key = c.args.self.now in
    let room = length c.args.out.now in
    let many : length c.as_slice.result.now ≡ size_of_chain key.shape = ap length (c.as_slice.ensures.value ∙ c.members.ensures) ∙ size key c.in_ok-word.word c.in_ok-word.ensures.word.1 in
    c.fill.ensures.answer ∙ ap (λ (n : ℕ). granted (room_check n room ∷ []) n) many
    ∙ sym (granted_next (effect_check key c.args.effect).0 NoEffect (room_check (size_of_chain key.shape) room ∷ []) (size_of_chain key.shape) (word_of key c.args.effect) c.in_ok-word.word (sym c.known_word.ensures.answer ∙ c.in_ok-word.was))

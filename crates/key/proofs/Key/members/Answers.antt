use Rattle.std.proofs.Common.{rules, ◌≡◌, ℕ, ◌∷◌, ◌++◌, [], List, length, ap, sym, ◌∙◌, arith}
use Rattle.few.specs.Few.{items}
use Rattle.key.proofs.Members.{kept, kept_in, kept_out, kept_all, kept_room}
use Rattle.key.proofs.Key.members.Goals as goal
use Rattle.key.proofs.Key.members.Goals.{then-word, else-word}

pub unwrap-requires : goal.unwrap-requires
unwrap-requires c =
    let key = c.args.self.now in
    let here = kept_room key c.args.word c.requires c.loop-effect.effect (omega arith) (sym c.word.ensures ∙ c.if-word.true) in
    c.push.ensures.variant.1 (omega (arith, ap length c.loop-effect.invariant))

pub loop-effect-preserved : goal.loop-effect-preserved
loop-effect-preserved c =
    let key = c.args.self.now in
    let i = c.loop-effect.effect in
    elim c.if-word.branch [
      | then-word w ↦
          let more : items c.if-word.members ≡ items c.loop-effect.members ++ i ∷ [] = search rules in
          more ∙ ap (λ (es : List ℕ). es ++ i ∷ []) c.loop-effect.invariant ∙ sym (kept_in key c.args.word i (sym c.word.ensures ∙ w.if-word.true))
      | else-word w ↦
          let same : items c.if-word.members ≡ items c.loop-effect.members = search rules in
          same ∙ c.loop-effect.invariant ∙ sym (kept_out key c.args.word i (λ e. w.if-word.false (c.word.ensures ∙ e)))
    ]

pub returns : goal.returns
returns c =
    let all : c.loop-effect.effect ≡ c.effects-effect-end.result = omega arith in
    c.loop-effect.invariant ∙ ap (kept c.args.self.now c.args.word) (all ∙ c.effects-effect-end.ensures) ∙ kept_all c.args.self.now c.args.word

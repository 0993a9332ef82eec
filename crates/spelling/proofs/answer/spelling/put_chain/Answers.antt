use Rattle.std.proofs.Common.{◌≡◌, ℕ, List, [], ◌++◌, length, get_or, codes, ap, ◌∙◌, arith}
use Rattle.std.specs.List.{range_with_len, flat_map}
use Rattle.few.specs.Few.{items}
use Rattle.text.proofs.Laws.{added_fits, texts_more, length_texts}
use Rattle.spelling.specs.Spelled.{effect_text}
use Rattle.spelling.proofs.Lengths.{effect_le}
use Rattle.spelling.proofs.answer.spelling.put_chain.Goals as goal

pub put_effect-requires : goal.put_effect-requires
put_effect-requires c =
    let n1 = c.args.effects.now.n1 in
    let es = items c.args.effects.now.list in
    let short = length_texts (λ i. effect_text n1 i (get_or es i 0)) 17 c.loop-place.place (λ i l. effect_le n1 i (get_or es i 0)) in
    rw c.loop-place.invariant (omega (arith, c.as_slice-effect-items.ensures.fits))

pub loop-place-preserved : goal.loop-place-preserved
loop-place-preserved c =
    let n1 = c.args.effects.now.n1 in
    let es = items c.args.effects.now.list in
    let i = c.loop-place.place in
    let same = ap (λ (xs : List ℕ). effect_text n1 i (get_or xs i 0)) c.as_slice-effect-items.ensures.value in
    c.put_effect.ensures ∙ rw (c.loop-place.invariant, same) (texts_more (λ j. effect_text n1 j (get_or es j 0)) [] i)

pub returns : goal.returns
returns c =
    let n1 = c.args.effects.now.n1 in
    let es = items c.args.effects.now.list in
    let n = c.loop-place.place in
    let f : ℕ → List ℕ = λ i. effect_text n1 i (get_or es i 0) in
    let short = length_texts f 17 n (λ i l. effect_le n1 i (get_or es i 0)) in
    let all : n ≡ length es = omega (arith, ap length c.as_slice-effect-items.ensures.value) in
    let end = c.loop-place.invariant ∙ ap (λ (m : ℕ). flat_map f (range_with_len 0 m)) all in
    let fits = added_fits 1024 (items c.loop-place.text) (codes "\n") (omega (arith, ap length c.loop-place.invariant, c.as_slice-effect-items.ensures.fits)) in
    c.add_bytes.ensures ∙ fits ∙ ap (λ (t : List ℕ). t ++ codes "\n") end

-- The chain laws of a sound key.
use Rattle.std.proofs.Common.{ℕ, ◌^◌, ◌<◌, List, length, ◌∙◌}
use Rattle.std.proofs.lemmas.Bool.{eq-eqb}
use Rattle.theory.specs.Words.{total, alias}
use Rattle.theory.specs.Keys.{Sound}
use Rattle.theory.specs.Laws.{Chained, ChainFact}
use Rattle.theory.proofs.Classes.{has_alias, class_size, length_kept}
use Rattle.theory.proofs.Members.{in_kept, kept_member, kept_rising}
use Rattle.theory.proofs.Sounds.{alias_word}

chained : (ws ts cs : List ℕ) → Sound ws ts cs → (v : ℕ) → v < 2 ^ total ws → Chained ws cs v
chained ws ts cs key v h =
    record {
      holds = λ e. (kept_member cs v e, λ k. in_kept (has_alias cs v) (2 ^ length cs) e k.0 (eq-eqb (alias cs e) v k.1));
      rising = kept_rising (has_alias cs v) (2 ^ length cs);
      many = length_kept (has_alias cs v) (2 ^ length cs) ∙ class_size ws ts cs key v h;
    }

pub chain_fact : ChainFact
chain_fact ws ts cs key = (alias_word ws cs key.words, chained ws ts cs key)

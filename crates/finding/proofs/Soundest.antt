-- What is best of the standard keys is best of all sound keys; and what stays best with one wish more.
use Rattle.std.proofs.Common.{◌≡◌, ℕ, true, ◌↔◌, List, [], ◌∷◌, ◌++◌, length, get_or, All, Some, None, Option, sym, subst, ◌<◌, arith, length-append}
use Rattle.std.proofs.lemmas.List.Elements.{All-push}
use Rattle.std.proofs.lemmas.List.{get_or_append_left}
use Rattle.theory.specs.declared.tally.Tally.{Tally}
use Rattle.theory.specs.declared.wish.Wish.{Wish}
use Rattle.theory.specs.Keys.{Sound}
use Rattle.theory.specs.Tallies.{tally}
use Rattle.theory.specs.Wishes.{Formed, Meets}
use Rattle.theory.proofs.Alikes.{alike_fact}
use Rattle.theory.proofs.Homes.{length_homes}
use Rattle.theory.proofs.Twin.{twin_fact}
use Rattle.opening.specs.declared.Shape.{Shape}
use Rattle.opening.specs.Shapes.{layers_of, homes_of, factors_of}
use Rattle.key.specs.declared.Key.{Key}
use Rattle.key.specs.Questions.{columns_of, Making}
use Rattle.ranking.specs.declared.verdict.Verdict.{Verdict}
use Rattle.ranking.specs.Verdicts.{HoldsUp}
use Rattle.wishes.specs.Lists.{all_formed}
use Rattle.wishes.proofs.Listed.{all_formed_lem}
use Rattle.finding.specs.Best.{by_tally, FirstBest, Finding, MeetsAll, Wished, BestSound, NoSound, FindingSound}

-- ---- all sound keys

-- wishes that one key meets, where the other meets each formed wish that it meets
all_met : (ws : List ℕ) (n : ℕ) (cs ds : List ℕ) → ((wish : Wish) → Formed n wish → Meets ws cs wish ↔ Meets ws ds wish)
    → (wishes : List Wish) → All (Formed n) wishes → MeetsAll ws cs wishes → MeetsAll ws ds wishes
all_met ws n cs ds alike wishes formed met k d h = (alike (get_or wishes k d) (formed k d h)).0 (met k d h)

module _ (shape : Shape) (wishes : List Wish) (formed : all_formed (factors_of shape) wishes ≡ true) where
  -- a sound key that meets the wishes has a standard twin, which meets them too and has the same tally
  wished_twin : (key : List ℕ) → Sound (layers_of shape) (homes_of shape) key → MeetsAll (layers_of shape) key wishes
      → (twin : List ℕ) × Wished shape wishes twin × (tally (layers_of shape) twin ≡ tally (layers_of shape) key)
  wished_twin key sound met =
      let found = twin_fact (layers_of shape) (homes_of shape) key sound in
      let alike = alike_fact (layers_of shape) (homes_of shape) key found.0 sound found.1.sound found.2 in
      let all = subst (λ (n : ℕ). All (Formed n) wishes) (sym (length_homes shape.n1 shape.n2)) ((all_formed_lem (factors_of shape) wishes).0 formed) in
      (found.0, (found.1, all_met (layers_of shape) (length (homes_of shape)) key found.0 alike.wishes wishes all met), sym alike.tallies)

  -- where no standard key meets the wishes, no sound key does
  pub none_sound : ((key : List ℕ) → Wished shape wishes key → ⊥) → NoSound shape wishes
  none_sound none key sound met = let twin = wished_twin key sound met in none twin.0 twin.1

  module _ {S : Type 0} (score : Tally → S) (ranks : S → S → Verdict) where
    pub first_is_best : (key : List ℕ) → FirstBest (Wished shape wishes) (by_tally shape score ranks) key → BestSound shape wishes (by_tally shape score ranks) key
    first_is_best key first = record {
      sound = first.one.0.sound;
      meets = first.one.1;
      best = λ other sound met.
          let twin = wished_twin other sound met in
          subst (λ (t : Tally). HoldsUp (ranks (score (tally (layers_of shape) key)) (score t))) twin.2 (first.best twin.0 twin.1);
    }

    pub finding_sound : {X : Type 0} (columns : X → List ℕ) (r : Option X) → Finding columns (Wished shape wishes) (by_tally shape score ranks) r → FindingSound columns shape wishes (by_tally shape score ranks) r
    finding_sound columns None none = none_sound none
    finding_sound columns (Some x) first = first_is_best (columns x) first

-- ---- one wish more
module _ (shape : Shape) (wishes : List Wish) (wish : Wish) where
  -- what meets them all meets those without the last
  fewer_met : (key : List ℕ) → MeetsAll (layers_of shape) key (wishes ++ wish ∷ []) → MeetsAll (layers_of shape) key wishes
  fewer_met key met k d h =
      let more : k < length (wishes ++ wish ∷ []) = omega (arith, length-append wishes (wish ∷ [])) in
      subst (Meets (layers_of shape) key) (get_or_append_left wishes (wish ∷ []) d k h) (met k d more)

  pub none_fewer : NoSound shape wishes → NoSound shape (wishes ++ wish ∷ [])
  none_fewer none key sound met = none key sound (fewer_met key met)

  module _ (ranks : List ℕ → List ℕ → Verdict) (key : List ℕ) (met : Meets (layers_of shape) key wish) where
    -- a best key that meets one wish more is a best of those that do
    pub best_fewer : BestSound shape wishes ranks key → BestSound shape (wishes ++ wish ∷ []) ranks key
    best_fewer best = record {
      sound = best.sound;
      meets = All-push (Meets (layers_of shape) key) wishes wish best.meets met;
      best = λ other sound all. best.best other sound (fewer_met other all);
    }

    pub first_fewer : FirstBest (Wished shape wishes) ranks key → FirstBest (Wished shape (wishes ++ wish ∷ [])) ranks key
    first_fewer first = record {
      one = (first.one.0, All-push (Meets (layers_of shape) key) wishes wish first.one.1 met);
      best = λ other h. first.best other (h.0, fewer_met other h.1);
      first = λ other h b. first.first other (h.0, fewer_met other h.1) b;
    }

-- ---- a key is made of the columns found
pub made_best : (shape : Shape) (wishes : List Wish) (ranks : List ℕ → List ℕ → Verdict) (cs : List ℕ) → FirstBest (Wished shape wishes) ranks cs
    → (r : Option Key) → Making shape cs r → Finding columns_of (Wished shape wishes) ranks r
made_best shape wishes ranks cs best None m = absurd (m best.one.0.sound)
made_best shape wishes ranks cs best (Some key) m = subst (FirstBest (Wished shape wishes) ranks) (sym m.2) best

-- Twins are alike in everything that is asked of a key. Assumes nothing.
use Rattle.std.specs.Prelude.{◌≡◌, ℕ, ◌↔◌, List, length}
use Rattle.theory.specs.declared.wish.Wish.{Wish}
use Rattle.theory.specs.Keys.{Sound, Twins}
use Rattle.theory.specs.Chains.{chain}
use Rattle.theory.specs.Tallies.{tally, resolution}
use Rattle.theory.specs.Wishes.{Formed, Meets}

pub record Alike (ws : List ℕ) (n : ℕ) (cs ds : List ℕ) : Type 0 where
  pub tallies : tally ws cs ≡ tally ws ds
  pub resolutions : resolution cs ≡ resolution ds
  pub chains : (e : ℕ) → chain cs e ≡ chain ds e
  pub wishes : (wish : Wish) → Formed n wish → Meets ws cs wish ↔ Meets ws ds wish

-- Everything is read off the strata and off which effects share a chain, and twins have these in common.
abbrev pub AlikeFact : Type 0
AlikeFact = (ws ts cs ds : List ℕ) → Sound ws ts cs → Sound ws ts ds → Twins ws (length ts) cs ds → Alike ws (length ts) cs ds

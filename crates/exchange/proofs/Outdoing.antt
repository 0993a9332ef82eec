-- The law of exchange.
use Rattle.std.proofs.Common.{◌≡◌, ℕ, suc, ◌+◌, ◌-◌, ◌<◌, List, length, get_or, drop, sym, subst, arith, take-append-drop}
use Rattle.std.specs.List.{ContainsAt as Has, AllByRecursion}
use Rattle.std.proofs.ByRecursion.{all-has, All-weaker, all_has_itself}
use Rattle.theory.specs.declared.wish.Wish.{Wish}
use Rattle.theory.specs.Keys.{Reads, none}
use Rattle.theory.specs.Wishes.{Meets}
use Rattle.exchange.specs.Exchanges.{exchanged, wish_exchanged, Blind}
use Rattle.exchange.specs.Outdoing.{ReadAlike, ExchangeFact}
use Rattle.exchange.proofs.Reading.{reads_on, reads_after}
use Rattle.exchange.proofs.Chains.{tally_over, meets_over, sound_over, drop_over, earlier_over}

module _ (ws cs : List ℕ) (i j : ℕ) (order : i < j) (within : j < length cs) where
  at : suc (j - suc i + i) ≡ j
  at = omega arith

  fits : suc (j - suc i + i) < length cs
  fits = omega arith

  all_meet : (wishes : List Wish) → Blind i j wishes → AllByRecursion (Meets ws cs) wishes → AllByRecursion (Meets ws (exchanged i j cs)) wishes
  all_meet wishes blind met =
      All-weaker (Has wishes) (Meets ws (exchanged i j cs))
      (λ wish has. meets_over ws (j - suc i) i cs fits wish (all-has (Meets ws cs) wishes (wish_exchanged i j wish) met (blind wish has))) wishes (all_has_itself wishes)

  still_read : ReadAlike ws cs i j → Reads ws (none ws) cs → Reads ws (none ws) (exchanged i j cs)
  still_read (os, was, is) r =
      let behind : Reads ws os (drop (suc j) cs) = reads_after ws was (subst (Reads ws (none ws)) (sym (take-append-drop (suc j) cs)) r) in
      subst (Reads ws (none ws)) (take-append-drop (suc j) (exchanged i j cs))
      (reads_on ws is (subst (Reads ws os) (sym (drop_over (j - suc i) i (suc j) cs (omega arith))) behind))

pub exchange_fact : ExchangeFact
exchange_fact ws ts wishes cs i j key met may smaller alike =
    let order = may.order in
    let within : j < length cs = subst (λ (n : ℕ). j < n) (sym key.sound.size) may.within in
    let fit : suc (j - suc i + i) < length cs = omega arith in
    record {
      standard = record {
        sound = sound_over ws ts (j - suc i) i cs fit (λ k l m. may.alike k l (omega arith)) key.sound;
        reads = still_read ws cs i j order within alike key.reads;
      };
      meets = all_meet ws cs i j order within wishes may.blind met;
      level = tally_over ws (j - suc i) i cs fit;
      earlier = earlier_over (j - suc i) i cs fit (subst (λ (n : ℕ). get_or cs n 0 < get_or cs i 0) (sym (at ws cs i j order within)) smaller);
    }

-- A table that is sound for every number as a player does not stay so. Assumes nothing.
use Rattle.std.proofs.Common.{◌≡◌, ℕ, zero, suc, ◌+◌, ◌%◌, ◌<◌, eqb, ltb, [], refl, arith}
use Rattle.std.proofs.lemmas.Bool.{eqb-true, true≢false}
use Rattle.cards.specs.Table.{Table, one, deck, count}
use Rattle.tricks.specs.Rules.{follows, after}
use Rattle.tricks.specs.Statements.{SoundAnywhere, StaysSoundAnywhere}

-- player p has card p; so has player p + 4, who does not sit at the table
abbrev twice_seated : Table
twice_seated = record { trump = 4; hand = λ p x. eqb x (p % 4); leader = 0; trick = [] }

sound_at_first : SoundAnywhere twice_seated 1
unfolding count
sound_at_first = record {
  leads = omega arith;
  short = omega arith;
  once = λ p q c lp lq a b. omega (arith, eqb-true c (p % 4) a, eqb-true c (q % 4) b);
  cards = λ c p a. omega (arith, eqb-true c (p % 4) a);
  played = λ i d l p. absurd (omega arith);
  have = each;
}
  where
    each : (i : ℕ) → i < 4 → count (twice_seated.hand ((0 + i) % 4)) deck + one (ltb i 0) ≡ 1
    each zero l = refl
    each (suc zero) l = refl
    each (suc (suc zero)) l = refl
    each (suc (suc (suc zero))) l = refl
    each (suc (suc (suc (suc i)))) l = absurd (omega arith)

-- player 0 plays card 0, which player 4 has still
pub anywhere_fails : StaysSoundAnywhere → ⊥
unfolding after follows
anywhere_fails f = true≢false ((f twice_seated 1 0 sound_at_first refl).played 0 0 (omega arith) 4)

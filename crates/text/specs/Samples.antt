-- Texts of some values, as a reader sees them. Assumes nothing: these are definitions.
use Rattle.std.specs.Prelude.{◌≡◌, ℕ, ◌+◌, ◌*◌, [], ◌∷◌, Some, None, codes, Option, ◌==◌}
use Rattle.cards.specs.Table.{Table}
use Rattle.claims.specs.Judging.{Answered, upholds, fails_by, replies}
use Rattle.referee.specs.Plays.{Noted}
use Rattle.text.specs.Cards.{card_text, row_text}
use Rattle.text.specs.Deals.{table_text}
use Rattle.text.specs.Refusals.{refusal_text}
use Rattle.text.specs.Judgements.{judgement_text}
use Rattle.text.specs.Plays.{plays_text}

-- four aces, one in each hand, spades as trump and nothing on the table
abbrev aces : Table
aces = record { trump = 3; hand = λ p c. (c == 13 * p + 12); leader = 1; trick = [] }

-- a card and the reply to it
abbrev reply : ℕ → Option ℕ → Answered
reply c r = record { card = c; reply = r }

-- who played which card, and who took the trick that it ended
abbrev play : ℕ → ℕ → Option ℕ → Noted
play p c t = record { player = p; card = c; taker = t }

-- each text is what its value is shown as
pub record Samples : Type 0 where
  pub ace : card_text 12 ≡ codes "CA"
  pub ten : card_text 47 ≡ codes "ST"
  pub row : row_text (51 ∷ 42 ∷ 40 ∷ []) ≡ codes "SA S5 S3"
  pub no_cards : row_text [] ≡ codes "-"
  pub table : table_text aces ≡ codes "trump S, leader 1, trick -\n0: CA\n1: DA\n2: HA\n3: SA"
  pub refusal : refusal_text 8 12 ≡ codes "refused 8 at 12"
  pub upheld : judgement_text (upholds 3 (Some 12)) ≡ codes "worth 3\nupheld\ncard CA"
  pub not_upheld : judgement_text (fails_by 2 None) ≡ codes "worth 2\nnot upheld\ncard -"
  pub answers : judgement_text (replies 2 (reply 12 (Some 14) ∷ reply 40 None ∷ [])) ≡ codes "worth 2\nnot upheld\nCA: D3\nS3: -"
  pub plays : plays_text (play 3 12 None ∷ play 0 0 (Some 3) ∷ play 3 13 None ∷ []) ≡ codes "3: CA\n0: C2\n1 trick: 3\n3: D2"
  pub no_plays : plays_text [] ≡ []

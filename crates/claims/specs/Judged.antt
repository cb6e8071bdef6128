-- What is answered to who asks for the judgement of a claim and lends memory for it. Assumes nothing: these are definitions.
use Rattle.std.specs.Prelude.{◌≡◌, ℕ, Bool, true, false, not, List, map, Ok, Err, Decides, Result, nat_le}
use Rattle.cards.specs.Table.{Table}
use Rattle.cards.specs.Few.{listed}
use Rattle.cards.specs.Refusals.{number_of, place_of}
use Rattle.cards.specs.declared.refusal.Refusal.{Refusal}
use Rattle.tricks.specs.Plays.{Worth}
use Rattle.equals.specs.Covered.{card_told}
use Rattle.worth.specs.Positions.{True}
use Rattle.worth.specs.Answer.{usable, TurnedAway}
use Rattle.claims.specs.Claims.{Can, Cannot}
use Rattle.claims.specs.Judging.{Answered, Judging, upholds, fails_by, replies, judging}
use Rattle.claims.specs.Shown.{Shows}
use Rattle.claims.specs.declared.replies.Reply.{Reply}
use Rattle.claims.specs.declared.judge.Judgement.{Judgement}
use Rattle.claims.specs.declared.judge.Judgement.TheVariants.{Upheld, Fails, Replies}

-- a reply by its numbers
abbrev pub reply_told : Reply → Answered
reply_told r = record { card = r.card.number; reply = card_told r.reply }

-- a judgement by its numbers
abbrev pub judgement_told : Judgement → Judging
judgement_told (Upheld w c) = upholds w (card_told c)
judgement_told (Fails w c) = fails_by w (card_told c)
judgement_told (Replies w rs) = replies w (map reply_told (listed rs))

-- does it uphold the claim
abbrev pub is_upheld : Judging → Bool
is_upheld (upholds w c) = true
is_upheld (fails_by w c) = false
is_upheld (replies w rs) = false

-- the worth that it tells
abbrev pub worth_told : Judging → ℕ
worth_told (upholds w c) = w
worth_told (fails_by w c) = w
worth_told (replies w rs) = w

-- a judgement of the claim of k of n tricks at table t: no more are claimed than are left, and the slices can be used; it is the one that is defined,
-- it upholds what the side can take and nothing else, refuses what the other side can keep it from and nothing else, tells the worth, and shows by its cards why;
-- and what the slices hold afterwards is true
pub record JudgementTold (side : Bool) (n k : ℕ) (t : Table) (keys worths keys' worths' : List ℕ) (j : Judging) : Type 0 where
  pub claimed : nat_le k n ≡ true
  pub lent : usable keys worths ≡ true
  pub judged : j ≡ judging side n k t
  pub upheld_if : Decides (is_upheld j) (Can side n k t)
  pub refused_if : Decides (not (is_upheld j)) (Cannot side n k t)
  pub worth : Worth t (worth_told j)
  pub shows : Shows side n k t j
  pub kept : True t keys' worths'

-- more are claimed than are left: a refusal, 10 at 0, and the slices are as they were
pub record Overclaimed (keys worths keys' worths' : List ℕ) (e : Refusal) : Type 0 where
  pub number : number_of e ≡ 10
  pub place : place_of e ≡ 0
  pub same_keys : keys' ≡ keys
  pub same_worths : worths' ≡ worths

-- the refusal: first of a claim of more tricks than are left, then of slices that can't be used
abbrev pub Refused : Bool → List ℕ → List ℕ → List ℕ → List ℕ → Refusal → Type 0
Refused true keys worths keys' worths' e = TurnedAway keys worths keys' worths' e
Refused false keys worths keys' worths' e = Overclaimed keys worths keys' worths' e

-- the answer for the claim at table t with these slices, which are keys' and worths' afterwards
abbrev pub ClaimJudged : Bool → ℕ → ℕ → Table → List ℕ → List ℕ → List ℕ → List ℕ → Result Judgement Refusal → Type 0
ClaimJudged side n k t keys worths keys' worths' (Ok j) = JudgementTold side n k t keys worths keys' worths' (judgement_told j)
ClaimJudged side n k t keys worths keys' worths' (Err e) = Refused (nat_le k n) keys worths keys' worths' e
